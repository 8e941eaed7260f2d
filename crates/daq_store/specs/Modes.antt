-- The mode of a DAQ list: SET_DAQ_LIST_MODE and CLEAR_DAQ_LIST.
use Rattle.std.specs.Prelude.{ℕ, ◌==◌, Bool, if◌then◌else◌, List, [], ◌∷◌, Option, Some, None}
use Rattle.daq_store.specs.declared.command.Command.{Command}
use Rattle.daq_store.specs.declared.command.Command.TheVariants.{AllocDaq, SetDaqListMode}
use Rattle.daq_store.specs.declared.command.Command.TheVariants.{ClearDaqList}
use Rattle.daq_store.specs.declared.mode.Mode.{Mode}

-- the mode byte says TIMESTAMP, bit 0x10; no other bit is accepted
abbrev pub stamps : ℕ → Bool
stamps mode = mode == 0x10

-- the mode of list l is that of its last SET_DAQ_LIST_MODE since the last ALLOC_DAQ and the last
-- CLEAR_DAQ_LIST of l
abbrev pub mode_of : List Command → ℕ → Option Mode
mode_of [] l = None
mode_of (AllocDaq count ∷ earlier) l = None
mode_of (SetDaqListMode mode list channel prescaler priority ∷ earlier) l =
    if list == l
    then Some (record {
      channel = channel;
      prescaler = prescaler;
      stamped = stamps mode;
      priority = priority;
    })
    else mode_of earlier l
mode_of (ClearDaqList list ∷ earlier) l = if list == l then None else mode_of earlier l
mode_of (_ ∷ earlier) l = mode_of earlier l
