-- Laws of exchanges: what of a session's packets counts. They look at the places of the packets,
-- with the newest in front.
use Rattle.std.specs.Prelude.{◌≡◌, ℕ, suc, ◌||◌, Bool, false, if◌then◌else◌, List, [], ◌∷◌, ◌++◌}
use Rattle.std.specs.Prelude.{drop, length, reverse, slice_get, take, Option, Some, None}
use Rattle.std.specs.List.{filter, flat_map, range_with_len}
use Rattle.captured_session.specs.Exchanges.{Exchange, Heard, exchanges, is_command, is_missing}
use Rattle.captured_session.specs.Exchanges.{is_reply, lone_by, to_come, waiting}
use Rattle.captured_session.specs.SetUps.{session_after}
use Rattle.captured_session.specs.declared.form.Form.{Form}
use Rattle.captured_session.specs.declared.side.Side.TheVariants.{Master, Slave}

-- a command of the master, or a place where some may be missing; or a reply of the slave
abbrev pub is_said : Heard → Bool
is_said (Master, p) = is_missing p || is_command p
is_said (Slave, p) = is_reply p

-- any other packet, which is STIM, EV, SERV or DAQ, changes nothing of what is known, wherever it
-- stands
abbrev pub OthersChangeNothing : Type 0
OthersChangeNothing =
    (given : Form) (later before : List Heard) (x : Heard) → is_said x ≡ false
    → session_after given (later ++ x ∷ before) ≡ session_after given (later ++ before)

-- the first of some packets that is a command or a reply
abbrev pub first_said : List Heard → Option Heard
first_said heard = slice_get (reverse (filter is_said heard)) 0

-- the exchange of a command behind which this came first: it is without a reply, if that is the
-- next command; there is none, if commands may be missing there, or if neither a command nor a
-- reply came
abbrev pub exchange_of : List ℕ → Option Heard → List Exchange
exchange_of c None = []
exchange_of c (Some (Master, next)) = if is_missing next then [] else (c, None) ∷ []
exchange_of c (Some (Slave, reply)) = (c, Some reply) ∷ []

-- that of a reply, if no command waited in front of it
abbrev pub exchange_alone : Option (List ℕ) → ℕ → List ℕ → List Exchange
exchange_alone None n p = if is_reply p then lone_by n p else []
exchange_alone (Some c) n p = []

-- the exchange of a packet, by what first came behind it and by what came before
abbrev pub exchange_by : Option Heard → Option Heard → List Heard → List Exchange
exchange_by None next before = []
exchange_by (Some (Master, c)) next before =
    if is_missing c then ([], None) ∷ [] else if is_command c then exchange_of c next else []
exchange_by (Some (Slave, p)) next before = exchange_alone (waiting before) (to_come before) p

-- that of the packet at place i, which those at the places before i came behind
abbrev pub exchange_at : List Heard → ℕ → List Exchange
exchange_at heard i =
    exchange_by (slice_get heard i) (first_said (take i heard)) (drop (suc i) heard)

-- each command behind which a command or a reply came is in one exchange, in the place of its own:
-- with the reply, if that came first, and else without one. So is each reply that no command waits
-- for, and each place where commands may be missing, with an empty command. Nothing else is in an
-- exchange.
abbrev pub EachCommandOnce : Type 0
EachCommandOnce =
    (heard : List Heard)
    → exchanges heard ≡ flat_map (exchange_at heard) (range_with_len 0 (length heard))
