use Rattle.std.proofs.Common.{◌≡◌, ◌+◌, ◌++◌, ◌∷◌, [], map, take, vec_items, sym, ap, ◌∙◌, rules}
use Rattle.std.proofs.lemmas.List.{map_more}
use Rattle.run_file.proofs.ReadLemmas.{map-push}
use Rattle.segments.specs.Memory.{parts}
use Rattle.session_file.proofs.player.lent.Goals as goal

-- one more slice is lent
pub loop-slice-preserved : goal.loop-slice-preserved
loop-slice-preserved c =
    let i = c.loop-slice.slice-index in
    let slices = c.args.slices.now in
    let slice = c.slice-item.result in
    let pushed : c.push.new.self.items ≡ c.loop-slice.memory.items ++ c.as_slice.result ∷ [] = search (rules, c.push.ensures.items) in
    let more : map vec_items (take (i + 1) slices) ≡ map vec_items (take i slices) ++ vec_items slice ∷ [] =
    map_more vec_items slices i slice c.loop-slice-test.true ∙ ap (λ w. map vec_items (take i slices) ++ vec_items w ∷ []) (sym c.slice-item.is) in
    ap parts pushed ∙ map-push (λ part. part.now) c.loop-slice.memory.items c.as_slice.result
    ∙ ap (λ bs. bs ++ c.as_slice.result.now ∷ []) c.loop-slice.invariant ∙ ap (λ b. map vec_items (take i slices) ++ b ∷ []) c.as_slice.ensures.value ∙ sym more
