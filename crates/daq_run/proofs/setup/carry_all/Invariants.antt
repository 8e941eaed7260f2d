use Rattle.std.proofs.Common.{◌≡◌, ◌<◌, false, map, take, vec_items}
use Rattle.frame_writer.specs.Writing.{state_of}
use Rattle.daq_run.specs.Setup.{CarriesAll}
use Rattle.daq_run.proofs.setup.carry_all.Given as goal

-- the packets so far were carried out and answered; before the first one the frame writer shows what it showed, and
-- after that it is open
abbrev pub invariant-loop-packet : goal.invariant-loop-packet
invariant-loop-packet g l = record {
  carried : CarriesAll l.fn.store l.store (state_of g.O.Out l.fn.writer) (state_of g.O.Out l.writer) (map vec_items (take l.packet-index l.packets));
  profile : l.store.profile ≡ l.fn.store.profile;
  first : l.packet-index ≡ 0 → state_of g.O.Out l.writer ≡ state_of g.O.Out l.fn.writer;
  open_after : 0 < l.packet-index → (state_of g.O.Out l.writer).closed ≡ false;
}
