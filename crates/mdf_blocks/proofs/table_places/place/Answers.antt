use Rattle.std.proofs.Common.{arith, subst, sym}
use Rattle.std.proofs.lemmas.Float.{T_from_true}
use Rattle.mdf_blocks.specs.Placing.{HasPlaced, IsFirstReached}
use Rattle.mdf_blocks.proofs.PlaceLemmas.{empty_finds, placed_last, placed_nowhere}
use Rattle.mdf_blocks.proofs.table_places.place.Goals as goal

-- it has no numbers
pub returns-then-not-text : goal.returns-then-not-text
returns-then-not-text c =
    placed_nowhere c.args.places.now.items c.args.text c.requires
    (λ x. empty_finds c.args.places.now.items c.args.text x c.if-not-text.true)

-- it stands behind all others
pub returns : goal.returns
returns c =
    let t = c.args.text in
    let at = c.first_reached-at.result in
    subst (HasPlaced c.args.places.now.items t) (sym c.in_ok-push.ensures.items)
    (placed_last c.args.places.now.items t at c.requires
    (subst (λ ps. IsFirstReached t.least ps at) c.deref.ensures.value c.first_reached-at.ensures)
    (T_from_true _ c.if-not-text.false)
    (omega (arith, c.if-at-len.false, c.len.ensures, c.args.places.now.ok.0)))
