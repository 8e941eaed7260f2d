use Rattle.std.proofs.Common.{subst, sym}
use Rattle.sampler.specs.State.{SamplerState}
use Rattle.c_engine.specs.Ways.{IsLaterOf}
use Rattle.c_engine.proofs.WayLemmas.{later-here}
use Rattle.c_engine.proofs.lent.Lent.going.Goals as goal

-- nothing was done with it yet
pub invariant_of-result : goal.invariant_of-result
invariant_of-result g c =
    subst (λ (s : SamplerState _). IsLaterOf g.R.Send.SendEnd g.R.Send.End.RingEnd s c.in-Ok.sampler) (sym c.in-Ok.ensures.way)
    (subst (λ (s : SamplerState _). IsLaterOf g.R.Send.SendEnd g.R.Send.End.RingEnd c.args.sampler s) (sym c.in-Ok.ensures.value)
    (later-here g.R.Send.SendEnd g.R.Send.End.RingEnd c.args.sampler))
