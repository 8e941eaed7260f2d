use mathlib.Core.List.{IsPrefix}
use Rattle.std.proofs.Common.{◌≤◌, ◌∙◌, arith, ap, subst}
use Rattle.std.proofs.lemmas.Grind.{common_steps}
use Rattle.xcp_base.specs.declared.limits.TheConstants.{MAX_LISTS}
use Rattle.transmitter.specs.Written.{transmission}
use Rattle.c_engine.specs.States.{EngineState}
use Rattle.c_engine.proofs.LendingLemmas.{out}
use Rattle.c_engine.proofs.OpenedLemmas.{fits-same}
use Rattle.c_engine.proofs.closing.may_close.Goals as goal

-- the engine keeps all that it has
pub returns-then-not-collect-clause-err : goal.returns-then-not-collect-clause-err
returns-then-not-collect-clause-err g c =
    let room : MAX_LISTS ≤ c.args.room = grind (arith, common_steps) in (
      room,
      record {
        samplers = c.collect.ensures.samplers ∙ ap (λ (e : EngineState _ _ _). e.lending.samplers) c.engine.view_is;
        transmitter = ap (λ (e : EngineState _ _ _). e.transmitter) c.engine.view_is;
        began = c.collect.ensures.began ∙ ap (λ (e : EngineState _ _ _). e.lending.began) c.engine.view_is;
        ends =
            subst (λ (e : EngineState _ _ _). IsPrefix e.lending.ends c.collect.new.self.ends) c.engine.view_is c.collect.ensures.ends;
      },
    )

pub returns-clause-ok : goal.returns-clause-ok
returns-clause-ok g c =
    let room : MAX_LISTS ≤ c.args.room = grind (arith, common_steps) in (
      record {
        samplers = c.collect.ensures.samplers ∙ ap (λ (e : EngineState _ _ _). e.lending.samplers) c.engine.view_is;
        transmitter = ap (λ (e : EngineState _ _ _). e.transmitter) c.engine.view_is;
        began = c.collect.ensures.began ∙ ap (λ (e : EngineState _ _ _). e.lending.began) c.engine.view_is;
        ends =
            subst (λ (e : EngineState _ _ _). IsPrefix e.lending.ends c.collect.new.self.ends) c.engine.view_is c.collect.ensures.ends;
      },
      c.collect.ensures.all c.if-not-collect.false,
      room,
    )

-- it was opened with the same samplers
pub invariant_of-engine : goal.invariant_of-engine
invariant_of-engine g c =
    let i = c.engine.invariant in
    let fits = fits-same g.R.Send.SendEnd g.R.Send.End.RingEnd c.engine.inside.lending.began c.collect.new.self.began
    (transmission out g.R.Take.TakeEnd c.engine.inside.transmitter) c.collect.ensures.began (i.0, i.1, i.2, i.5) in
    (fits.0, fits.1, fits.2, i.3, i.4, fits.3)

pub invariant_of-engine-2 : goal.invariant_of-engine-2
invariant_of-engine-2 g c =
    let i = c.engine.invariant in
    let fits = fits-same g.R.Send.SendEnd g.R.Send.End.RingEnd c.engine.inside.lending.began c.collect.new.self.began
    (transmission out g.R.Take.TakeEnd c.engine.inside.transmitter) c.collect.ensures.began (i.0, i.1, i.2, i.5) in
    (fits.0, fits.1, fits.2, i.3, i.4, fits.3)
