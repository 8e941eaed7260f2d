use Rattle.std.proofs.Common.{◌≡◌, ◌∙◌, ◌++◌, List, ap, drop, length, map, subst, sym, arith}
use Rattle.std.proofs.lemmas.Grind.{common_steps}
use Rattle.daq_engine.specs.Headline.{HasHeadline}
use Rattle.daq_engine.specs.declared.report.ListReport.{ListReport}
use Rattle.sampler.specs.State.{SamplerEndState, joined}
use Rattle.transmitter.specs.Written.{transmission}
use Rattle.c_engine.specs.Ends.{ends_in, state_in}
use Rattle.c_engine.specs.States.{EngineState}
use Rattle.c_engine.specs.Lendings.{LendingState, WasOpened, rings_in}
use Rattle.c_engine.proofs.LendingLemmas.{out, rings-back}
use Rattle.c_engine.proofs.OpenedLemmas.{headline-since}
use Rattle.c_engine.proofs.closing.close.Goals as goal

-- what came back is one of each ring, in their order
pub account-told-requires-clause-one_ring : goal.account-told-requires-clause-one_ring
account-told-requires-clause-one_ring g c =
    let ring = g.R.Send.End.RingEnd in
    sym c.engine.invariant.0
    ∙ ap (λ (e : EngineState _ _ _). rings_in g.R.Send.SendEnd e.lending.began) c.engine.view_is
    ∙ sym (rings-back g.R.Send.SendEnd ring _ _ c.requires.back)
    ∙ ap (λ (e : EngineState _ _ _). map (λ (x : SamplerEndState _). ring.ring x.end) e.lending.ends) (sym c.engine.view_is)
    ∙ ap (λ (l : LendingState _ _). map (λ (x : SamplerEndState _). ring.ring x.end) l.ends) (sym c.lending.view_is)

-- the headline holds of what came back
pub returns-clause-account : goal.returns-clause-account
returns-clause-account g c =
    let send = g.R.Send.SendEnd in
    let ring = g.R.Send.End.RingEnd in
    let give = g.R.Take.TakeEnd in
    let told = c.account-told.result.0 in
    let e = c.args.engine in
    let len : c.len-len.result ≡ length told.lists.items = grind (arith, common_steps) in
    let headline : HasHeadline (state_in out give send ring e) (ends_in out give send ring e) told
    = subst (λ (x : EngineState _ _ _). HasHeadline (state_in out give send ring x) (ends_in out give send ring x) told) c.engine.view_is
    (subst (λ (l : LendingState _ _). HasHeadline (transmission out give c.engine.inside.transmitter) (map (joined ring) l.ends) told)
    c.lending.view_is c.account-told.ensures.headline) in (
      told,
      record {
        back = c.requires.back;
        opened = subst (λ (x : EngineState _ _ _). WasOpened send ring x.lending.began (state_in out give send ring x)) c.engine.view_is c.engine.invariant.5;
        headline = headline-since out give send ring e told c.requires.back headline;
        told = ap (λ n. record { lines = n; failed = told.failed }) len;
        lines =
            ap (λ (xs : List ListReport). xs ++ drop c.len-len.result c.args.lines.now) (c.copy_from_slice.ensures.after ∙ c.as_slice.ensures.value)
            ∙ ap (λ n. told.lists.items ++ drop n c.args.lines.now) len;
      },
    )
