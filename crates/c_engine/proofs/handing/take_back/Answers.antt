use Rattle.std.proofs.Common.{◌≡◌, ◌∙◌, List, ap, length, map, subst, sym}
use Rattle.sampler.specs.State.{SamplerState}
use Rattle.transmitter.specs.Written.{transmission}
use Rattle.daq_engine.specs.Configuration.{upto}
use Rattle.c_engine.specs.Lendings.{LendingState, WasOpened, channels_in, rings_in}
use Rattle.c_engine.proofs.EngineLemmas.{lent-before, lends-inside}
use Rattle.c_engine.proofs.LendingLemmas.{out}
use Rattle.c_engine.proofs.handing.take_back.Goals as goal

-- before it handed the sampler out, its lending was the one inside but for that
pub take_back-requires : goal.take_back-requires
take_back-requires g c = (_, lends-inside c.engine.view_is c.requires.1)

-- it was opened with the same samplers
pub invariant_of-engine : goal.invariant_of-engine
invariant_of-engine g c =
    let send = g.R.Send.SendEnd in
    let lends = lends-inside c.engine.view_is c.requires.1 in
    let began : c.take_back.new.self.began ≡ c.engine.inside.lending.began
    = ap (λ (l : LendingState _ _). l.began) (c.take_back.ensures _ lends) ∙ sym lends.began in (
      subst (λ (xs : List (SamplerState _)). rings_in send xs ≡ map g.R.Take.TakeEnd.ring c.engine.inside.transmitter.ends.items) (sym began) c.engine.invariant.0,
      subst (λ (xs : List (SamplerState _)). channels_in xs ≡ upto 0 (length xs)) (sym began) c.engine.invariant.1,
      c.engine.invariant.2,
      c.engine.invariant.3,
      c.engine.invariant.4,
      subst (λ (xs : List (SamplerState _)). WasOpened send g.R.Send.End.RingEnd xs (transmission out g.R.Take.TakeEnd c.engine.inside.transmitter)) (sym began) c.engine.invariant.5,
    )

pub returns : goal.returns
returns g c before lends =
    lent-before c.engine.view_is lends (c.take_back.ensures _ (lends-inside c.engine.view_is lends))
