-- Lists of calls: those that a store accepted since the last FREE_DAQ, the newest first. `call ∷
-- earlier` is a call and those before it, and each definition over them looks back to the last call
-- that matters.
use Rattle.std.specs.Prelude.{ℕ, List, [], ◌∷◌}
use Rattle.std.specs.List.{range_with_len}
use Rattle.xcp_base.specs.declared.packet_form.PacketForm.{PacketForm}
use Rattle.segments.specs.declared.segment.Segment.{Segment}
use Rattle.daq_store.specs.declared.command.Command.{Command}
use Rattle.daq_store.specs.declared.command.Command.TheVariants.{FreeDaq}

-- what a store is made for: its number of event channels, the most ODTs of a list and entries of an
-- ODT, the segments in which its entries lie, and the form of its packets
pub record Profile : Type 0 where
  pub channels : ℕ
  pub most_odts : ℕ
  pub most_entries : ℕ
  pub segments : List Segment
  pub form : PacketForm

-- the calls that stand after one more: FREE_DAQ leaves none
abbrev pub and_then : List Command → Command → List Command
and_then earlier FreeDaq = []
and_then earlier call = call ∷ earlier

-- 0, 1, .. n - 1
abbrev pub numbers_below : ℕ → List ℕ
numbers_below n = range_with_len 0 n
