use Rattle.std.proofs.Common.{inl, true≢false}
use Rattle.slave.proofs.slave.Slave.is_over.Goals as goal

pub returns-then-is_idle : goal.returns-then-is_idle
returns-then-is_idle c = record {
  over = λ is. inl (c.is_idle.ensures.idle c.if-is_idle.true);
  busy = λ is. absurd (true≢false is);
  newest = λ is. absurd (true≢false is);
}
