use Rattle.std.proofs.Common.{◌≡◌, ◌+◌, ◌++◌, ◌∷◌, [], map, take, vec_items, sym, ap, ◌∙◌, rules}
use Rattle.std.specs.List.{each_same}
use Rattle.std.proofs.lemmas.List.{map_more}
use Rattle.run_file.proofs.ReadLemmas.{map-push}
use Rattle.session_file.proofs.player.copied.Goals as goal

-- one more slice is copied
pub loop-slice-preserved : goal.loop-slice-preserved
loop-slice-preserved c =
    let i = c.loop-slice.slice-index in
    let slices = c.args.slices.now in
    let slice = c.slice-item.result in
    let copy = c.in_ok-clone.field-0 in
    let pushed : c.push.new.self.items ≡ c.loop-slice.copies.items ++ copy ∷ [] = search (rules, c.push.ensures.items) in
    let more : map vec_items (take (i + 1) slices) ≡ map vec_items (take i slices) ++ vec_items slice ∷ [] =
    map_more vec_items slices i slice c.loop-slice-test.true ∙ ap (λ w. map vec_items (take i slices) ++ vec_items w ∷ []) (sym c.slice-item.is) in
    ap (map vec_items) pushed ∙ map-push vec_items c.loop-slice.copies.items copy
    ∙ ap (λ bs. bs ++ vec_items copy ∷ []) c.loop-slice.invariant ∙ ap (λ b. map vec_items (take i slices) ++ b ∷ []) (each_same slice.items copy.items c.in_ok-clone.ensures.cases.0) ∙ sym more
