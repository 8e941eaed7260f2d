use Rattle.std.proofs.Common.{◌≡◌, length, vec_capacity, vec_len}
use Rattle.daq_engine.specs.Samplers.{AreFinished}
use Rattle.daq_engine.proofs.finishing.finish_all.Given as goal

-- those so far are finished
abbrev pub invariant-loop-sampler : goal.invariant-loop-sampler
invariant-loop-sampler g l = record {
  finished : AreFinished g.S.SendEnd g.S.End.RingEnd l.yielded l.ends.items;
  as_many : vec_len l.ends ≡ length l.yielded;
  room : vec_capacity l.ends ≡ vec_capacity l.fn.room;
}
