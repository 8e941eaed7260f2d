use Rattle.std.proofs.Common.{map, sym, ap, ◌∙◌}
use Rattle.std.proofs.lemmas.Bool.{false≢true}
use Rattle.sampler.specs.State.{SamplerEndState}
use Rattle.daq_engine.specs.Configuration.{upto}
use Rattle.engine_tests.proofs.wrong_ends.refused.Goals as goal

-- ends that can't fit aren't one of each ring
pub close-requires : goal.close-requires
close-requires g c = record {
  one_ring = λ are. absurd (false≢true (sym c.if-may_fit.false ∙ c.may_fit.ensures
      (ap (map (λ (e : SamplerEndState g.row.T-End.Denot). e.channel)) c.as_slice-2.ensures.value ∙ are ∙ ap (upto 0) (sym c.rings.ensures.value))));
}
