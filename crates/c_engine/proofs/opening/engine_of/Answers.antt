use Rattle.std.proofs.Common.{◌∙◌, List, ap, length, subst, sym}
use Rattle.sampler.specs.State.{SamplerState}
use Rattle.transmitter.specs.Written.{transmission}
use Rattle.daq_engine.specs.Configuration.{upto}
use Rattle.c_engine.specs.Lendings.{LendingState, WasOpened, channels_in, rings_in}
use Rattle.c_engine.proofs.LendingLemmas.{out}
use Rattle.c_engine.proofs.opening.engine_of.Goals as goal

-- it begins with these samplers
pub invariant_of-result : goal.invariant_of-result
invariant_of-result g c =
    let send = g.R.Send.SendEnd in (
      ap (λ (l : LendingState _ _). rings_in send l.began) c.over-lending.ensures ∙ sym c.requires.rings,
      ap (λ (l : LendingState _ _). channels_in l.began) c.over-lending.ensures
          ∙ c.requires.in_order
          ∙ ap (λ (l : LendingState _ _). upto 0 (length l.began)) (sym c.over-lending.ensures),
      c.requires.is_open,
      c.in_ok-ways.ensures.lines.0,
      c.in_ok-ways.ensures.lines.1,
      subst (λ (xs : List (SamplerState _)). WasOpened send g.R.Send.End.RingEnd xs (transmission out g.R.Take.TakeEnd c.args.transmitter))
          (sym (ap (λ (l : LendingState _ _). l.began) c.over-lending.ensures)) c.requires.opened,
    )
