-- What is read of the frames of a master and a slave that came, with the newest in front: the
-- packets that the session hears, each once, and the counter that the next frame goes on from.
use Rattle.std.specs.Prelude.{ℕ, ◌+◌, ◌%◌, ◌==◌, ◌&&◌, not, nat_le, Bool, false, if◌then◌else◌}
use Rattle.std.specs.Prelude.{List, [], ◌∷◌, length, Option, Some, None}
use Rattle.std.specs.Str.{bytes_eq}
use Rattle.captured_session.specs.Exchanges.{Heard, waiting}
use Rattle.captured_session.specs.declared.side.Side.TheVariants.{Master, Slave}
use Rattle.captured_samples.specs.Counters.{step_behind}
use Rattle.captured_samples.specs.declared.counter_steps.CounterStep.{CounterStep}
use Rattle.captured_samples.specs.declared.counter_steps.CounterStep.TheVariants.{Behind, First}

-- a frame of the master or of the slave, its counter and its packet; or a new connection, in which
-- the slave counts anew
pub data Came : Type 0 where
  of_master : ℕ → List ℕ → Came
  of_slave : ℕ → List ℕ → Came
  anew : Came

-- the last command of a master, by which a copy is known: its bytes, its counter, whether that is
-- one more than that of the command before
pub record LastOf : Type 0 where
  pub bytes : List ℕ
  pub counter : Option ℕ
  pub counts : Bool

abbrev pub counts_on : ℕ → Option ℕ → Bool
counts_on n None = false
counts_on n (Some m) = (m + 1) % 65536 == n

-- of the commands that came, with the newest in front
abbrev pub counter_of : List (ℕ × List ℕ) → Option ℕ
counter_of [] = None
counter_of ((n, p) ∷ _) = Some n

abbrev pub last_of : List (ℕ × List ℕ) → LastOf
last_of [] = record { bytes = []; counter = None; counts = false }
last_of ((n, p) ∷ before) =
    record { bytes = p; counter = Some n; counts = counts_on n (counter_of before) }

abbrev pub has_counter : ℕ → Option ℕ → Bool
has_counter n None = false
has_counter n (Some m) = m == n

-- a copy has the same bytes and the same counter, of a master that counts
abbrev pub is_copy : LastOf → ℕ → List ℕ → Bool
is_copy last n p = last.counts && has_counter n last.counter && bytes_eq last.bytes p

-- a packet of a slave is one of a sample if its PID is below those of replies, errors, events and
-- services
abbrev pub is_sample : List ℕ → Bool
is_sample [] = false
is_sample (pid ∷ _) = nat_le pid 0xFB

-- the positive reply to CONNECT has eight bytes
abbrev pub is_connected : List ℕ → Bool
is_connected [] = false
is_connected (code ∷ rest) = code == 0xFF && nat_le 7 (length rest)

abbrev pub is_connect : Option (List ℕ) → Bool
is_connect (Some (code ∷ _)) = code == 0xFF
is_connect _ = false

-- what was read: the counter of the slave's last frame that counts, the commands without copies,
-- and the packets that the session heard; all with the newest in front
pub record ReadOf : Type 0 where
  pub counter : Option ℕ
  pub commands : List (ℕ × List ℕ)
  pub heard : List Heard

-- how the next frame of the slave goes on: with the reply to CONNECT it counts anew
abbrev pub step_of : ReadOf → ℕ → List ℕ → CounterStep
step_of r n p =
    if is_connected p && is_connect (waiting r.heard) then First else step_behind r.counter n

-- the counter of a master, which rose by one at its last frame, doesn't with this one; but with
-- CONNECT a master may count anew
abbrev pub jumps : LastOf → ℕ → List ℕ → Bool
jumps last n p = last.counts && not (counts_on n last.counter) && not (is_connect (Some p))

-- in front of it commands may be missing, for which an empty packet stands
abbrev pub with_missing : Bool → List Heard → List Heard
with_missing jump heard = if jump then (Master, []) ∷ heard else heard

abbrev pub with_command : ReadOf → ℕ → List ℕ → ReadOf
with_command r n p =
    if is_copy (last_of r.commands) n p then r
    else record r {
      commands = (n, p) ∷ r.commands;
      heard = (Master, p) ∷ with_missing (jumps (last_of r.commands) n p) r.heard;
    }

-- a late frame or a copy is passed over; of the others those that are of no sample are heard
abbrev pub heard_with : List ℕ → List Heard → List Heard
heard_with p heard = if is_sample p then heard else (Slave, p) ∷ heard

abbrev pub with_frame : ReadOf → ℕ → List ℕ → CounterStep → ReadOf
with_frame r n p Behind = r
with_frame r n p _ = record r { counter = Some n; heard = heard_with p r.heard }

abbrev pub read_with : Came → ReadOf → ReadOf
read_with (of_master n p) r = with_command r n p
read_with (of_slave n p) r = with_frame r n p (step_of r n p)
read_with anew r = record r { counter = None }

abbrev pub read_of : List Came → ReadOf
read_of [] = record { counter = None; commands = []; heard = [] }
read_of (x ∷ before) = read_with x (read_of before)
