use Rattle.std.proofs.Common.{refl, subst, sym, ◌∙◌}
use Rattle.std.specs.Prelude.{Some}
use Rattle.slave_channels.specs.Channels.{ShareState}
use Rattle.slave_channels.specs.PartInner.{ComesOf}
use Rattle.slave_channels.proofs.PartLemmas.{finished}
use Rattle.slave_channels.proofs.channel.finish.Goals as goal

pub invariant_of-result : goal.invariant_of-result
invariant_of-result c =
    let came = subst (λ part. ComesOf part c.args.end) (sym c.take.ensures.value ∙ c.in_ok-number.was) c.requires.came in
    let mine = subst (λ (s : ShareState). ComesOf (Some s) c.args.end) (sym c.number.view_is) came in
    finished c.args.end _ _ refl c.after.ensures.end_stays c.after.ensures.left mine.1 mine.2
