use Rattle.std.proofs.Common.{◌∙◌, subst, sym}
use Rattle.std.proofs.lemmas.Float.{T_from_true}
use Rattle.mdf_blocks.specs.Placing.{HasPlaced}
use Rattle.mdf_blocks.proofs.PlaceLemmas.{crossed_at, placed_before, placed_inside}
use Rattle.mdf_blocks.proofs.table_places.place_before.Goals as goal

-- all its numbers are those of the place
pub returns-then-is_inside : goal.returns-then-is_inside
returns-then-is_inside c =
    let p = c.index-next.result.now in
    placed_inside c.args.places.now.items c.args.text p c.args.at p c.requires.rising
    c.requires.first c.requires.within (sym c.index-next.ensures)
    (sym c.is_inside.ensures ∙ c.if-is_inside.true)

-- some are, and others aren't
pub returns-then-next-text : goal.returns-then-next-text
returns-then-next-text c =
    let p = c.index-next.result.now in
    crossed_at c.args.places.now.items c.args.text p c.args.at p c.requires.first
    c.requires.within (sym c.index-next.ensures) (sym c.is_inside.ensures ∙ c.if-is_inside.false)
    c.if-next-text.true

-- it stands in front of the place
pub returns : goal.returns
returns c =
    let p = c.index-next.result.now in
    subst (HasPlaced c.args.places.now.items c.args.text) (sym c.in_ok-insert.ensures.items)
    (placed_before c.args.places.now.items c.args.text p c.args.at p c.requires.rising
    c.requires.first (T_from_true _ c.requires.some) c.requires.within
    (sym c.index-next.ensures) c.if-next-text.false)
