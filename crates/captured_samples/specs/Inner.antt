-- What became of a packet, what is shown with one more, and a list behind a gap.
use Rattle.std.specs.Prelude.{◌≡◌, ℕ, ◌+◌, ◌==◌, ◌||◌, if◌then◌else◌, List, [], ◌++◌, length, true}
use Rattle.std.specs.Prelude.{Option, Some, None, suc, zero}
use Rattle.captured_samples.specs.Places.{body_of, has_overload}
use Rattle.captured_samples.specs.Samples.{ShownOf, shown_of, ticks_in}
use Rattle.captured_samples.specs.Slaves.{SlaveOf}
use Rattle.captured_samples.specs.declared.list_state.ListState.{ListState}
use Rattle.captured_samples.specs.declared.taken.Taken.{Taken}
use Rattle.captured_samples.specs.declared.taken.Taken.TheVariants.{LeftOut, Other, Part, Whole}

-- by the ODT that it is of, and what is shown then
abbrev pub taken_as : ShownOf → Option ℕ → Taken
taken_as shown None = Other
taken_as shown (Some k) =
    if shown.packets == 0 then LeftOut
    else if shown.packets == length shown.list.odts then Whole
    else Part

-- the timestamp is that of the first packet
abbrev pub ticks_with : ℕ → Option ℕ → Option ℕ → Option ℕ
ticks_with zero own old = own
ticks_with (suc k) own old = old

-- with the packet whose turn it is
abbrev pub with_packet : ShownOf → List ℕ → ShownOf
with_packet old packet = record {
  list = old.list;
  packets = old.packets + 1;
  overload = old.overload || has_overload old.list packet;
  ticks = ticks_with old.packets (ticks_in old.list packet) old.ticks;
  bytes = old.bytes ++ body_of old.list old.packets packet;
}

-- none of its packets is under way, and its next sample is marked
abbrev pub broken_state : ListState → ListState
broken_state s = record s { samples = shown_of s.samples.list [] }

abbrev pub marked_state : ListState → ListState
marked_state s = record (broken_state s) { gap = true }

-- its counters stay
pub record SameCounters (old new : SlaveOf) : Type 0 where
  pub counter : new.counter ≡ old.counter
  pub command : new.command ≡ old.command
