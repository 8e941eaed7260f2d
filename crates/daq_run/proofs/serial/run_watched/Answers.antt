use Rattle.std.proofs.Common.{sym, ◌∙◌}
use Rattle.xcp_base.specs.declared.ring_kind.RingKind.TheVariants.{Bytes, Samples}
use Rattle.daq_run.proofs.SetUpLemmas.{caps_of_kind}
use Rattle.daq_run.proofs.serial.run_watched.Goals as goal

-- each capacity is one of a ring of samples
pub run_over-requires-clause-caps : goal.run_over-requires-clause-caps
run_over-requires-clause-caps g c = caps_of_kind c.args.run.now Samples c.ring.ensures.limits (sym c.ring.ensures.value ∙ c.in-Samples.is)

-- or of bytes
pub run_over-requires-in-Bytes-clause-caps : goal.run_over-requires-in-Bytes-clause-caps
run_over-requires-in-Bytes-clause-caps g c = caps_of_kind c.args.run.now Bytes c.ring.ensures.limits (sym c.ring.ensures.value ∙ c.in-Bytes.is)
