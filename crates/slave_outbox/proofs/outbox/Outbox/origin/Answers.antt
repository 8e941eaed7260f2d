use Rattle.std.proofs.Common.{length, sym, ap, ◌∙◌, arith, Some}
use Rattle.std.specs.Prelude.{slice_get}
use Rattle.slave_outbox.specs.Outboxes.{OutboxState, origins_in}
use Rattle.slave_outbox.proofs.KeptLemmas.{origins_laid, slice_get-map, some-at}
use Rattle.slave_outbox.proofs.LaidLemmas.{many-map}
use Rattle.slave_outbox.proofs.outbox.Outbox.origin.Goals as goal

pub origin-requires : goal.origin-requires
origin-requires c =
    let kept = c.self.inside.page.waits in
    record { place = (omega (arith, c.requires.place, ap (λ (o : OutboxState). length (origins_in o.waits)) c.self.view_is, ap length (origins_laid kept c.self.invariant.some), many-map (λ x. x.origin) kept)) }

pub returns : goal.returns
returns c =
    let kept = c.self.inside.page.waits in
    let (x, at) = some-at kept c.args.i (omega (arith, c.requires.place, ap (λ (o : OutboxState). length (origins_in o.waits)) c.self.view_is, ap length (origins_laid kept c.self.invariant.some), many-map (λ x. x.origin) kept)) in
    ap (λ (o : OutboxState). slice_get (origins_in o.waits) c.args.i) (sym c.self.view_is) ∙ ap (λ os. slice_get os c.args.i) (origins_laid kept c.self.invariant.some)
    ∙ slice_get-map kept c.args.i x at ∙ ap Some (sym (c.origin.ensures x at))
