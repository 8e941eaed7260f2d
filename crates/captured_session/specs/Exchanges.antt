-- What a master and a slave said to one another, with the newest in front: which command was
-- answered by which reply.
use Rattle.std.specs.Prelude.{ℕ, ◌-◌, ◌==◌, ◌&&◌, not, Bool, true, false, if◌then◌else◌, nat_le}
use Rattle.std.specs.Prelude.{List, [], ◌∷◌, ◌++◌, length, Option, Some, None}
use Rattle.captured_session.specs.declared.side.Side.{Side}
use Rattle.captured_session.specs.declared.side.Side.TheVariants.{Master, Slave}

-- a packet, and who sent it; an empty one of a master stands where commands may be missing in the
-- capture
abbrev pub Heard : Type 0
Heard = Side × List ℕ

-- the packets of a master are commands from the code 0xC0 on; the others are STIM
abbrev pub is_command : List ℕ → Bool
is_command [] = false
is_command (code ∷ _) = nat_le 0xC0 code

abbrev pub is_missing : List ℕ → Bool
is_missing [] = true
is_missing _ = false

-- of those of a slave RES and ERR are replies; the others are events, services, and samples
abbrev pub is_reply : List ℕ → Bool
is_reply [] = false
is_reply (code ∷ _) = nat_le 0xFE code

-- ERR_CMD_SYNCH, which is the reply to SYNCH alone
abbrev pub is_synched : List ℕ → Bool
is_synched (code ∷ error ∷ _) = code == 0xFE && error == 0
is_synched _ = false

-- the command that waits for its reply: the newest, if neither a reply nor a place where commands
-- may be missing came behind it
abbrev pub waits_behind : Heard → Option (List ℕ) → Option (List ℕ)
waits_behind (Master, p) waiting =
    if is_missing p then None else if is_command p then Some p else waiting
waits_behind (Slave, p) waiting = if is_reply p then None else waiting

abbrev pub waiting : List Heard → Option (List ℕ)
waiting [] = None
waiting (x ∷ before) = waits_behind x (waiting before)

-- how many bytes UPLOAD asks for, whose code is 0xF5; a slave may send them in several replies
abbrev pub asked_by : List ℕ → ℕ
asked_by (code ∷ n ∷ _) = if code == 0xF5 then n else 0
asked_by _ = 0

-- how many of so many bytes are still to come behind a reply
abbrev pub left_by : List ℕ → ℕ → ℕ
left_by (code ∷ bytes) n = if code == 0xFF then n - length bytes else 0
left_by [] n = 0

abbrev pub awaited : Option (List ℕ) → ℕ → ℕ
awaited None n = n
awaited (Some c) n = asked_by c

-- the bytes of an UPLOAD that are still to come behind its first reply
abbrev pub comes_behind : Heard → Option (List ℕ) → ℕ → ℕ
comes_behind (Master, p) waiting n = if is_missing p then 0 else if is_command p then 0 else n
comes_behind (Slave, p) waiting n = if is_reply p then left_by p (awaited waiting n) else n

abbrev pub to_come : List Heard → ℕ
to_come [] = 0
to_come (x ∷ before) = comes_behind x (waiting before) (to_come before)

-- a command, and its reply, if one came before the next command; one that is missing in the capture
-- is empty
abbrev pub Exchange : Type 0
Exchange = List ℕ × Option (List ℕ)

-- a reply that no command waits for is one to a command that is missing, unless it brings more of
-- an UPLOAD, or is one to SYNCH
abbrev pub is_lone : ℕ → List ℕ → Bool
is_lone n p = n == 0 && not (is_synched p)

abbrev pub lone_by : ℕ → List ℕ → List Exchange
lone_by n p = if is_lone n p then ([], Some p) ∷ [] else []

abbrev pub unanswered : Option (List ℕ) → List Exchange
unanswered None = []
unanswered (Some c) = (c, None) ∷ []

abbrev pub answered : Option (List ℕ) → ℕ → List ℕ → List Exchange
answered None n p = lone_by n p
answered (Some c) n p = (c, Some p) ∷ []

-- what ends with a packet
abbrev pub ends_with : Heard → Option (List ℕ) → ℕ → List Exchange
ends_with (Master, p) waiting n =
    if is_missing p then ([], None) ∷ []
    else if is_command p then unanswered waiting
    else []
ends_with (Slave, p) waiting n = if is_reply p then answered waiting n p else []

abbrev pub exchanges : List Heard → List Exchange
exchanges [] = []
exchanges (x ∷ before) = ends_with x (waiting before) (to_come before) ++ exchanges before
