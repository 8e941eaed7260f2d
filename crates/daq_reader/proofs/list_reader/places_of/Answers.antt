use Rattle.std.proofs.Common.{◌≡◌, ◌∙◌, ◌++◌, ◌∷◌, [], ℕ, List, ap, arith, length, map, sym, vec_items}
use Rattle.std.specs.List.{range_with_len}
use Rattle.std.proofs.lemmas.List.{map-append}
use Rattle.std.proofs.lemmas.List.FromFn.{map-range_with_len_more}
use Rattle.copy_plan.specs.Config.{ListPlan}
use Rattle.daq_reader.specs.Faults.{len_of}
use Rattle.daq_reader.proofs.list_reader.places_of.Goals as goal

-- the place of one ODT more
pub loop-k-preserved : goal.loop-k-preserved
loop-k-preserved c =
    let shape : ListPlan = c.args.shape.now in
    let k = c.loop-k.k in
    let place = c.in_ok-vec.field-0 in
    let long : length place.items ≡ len_of shape k = sym place.ok.0 ∙ c.in_ok-vec.ensures.len ∙ c.packet_len.ensures in
    rw c.in_ok-push.ensures.items (
    ap (map (λ (q : List ℕ). length q)) (map-append vec_items c.loop-k.places.items (place ∷ []))
    ∙ map-append (λ (q : List ℕ). length q) (map vec_items c.loop-k.places.items) (vec_items place ∷ [])
    ∙ ap (λ (ns : List ℕ). ns ++ length place.items ∷ []) c.loop-k.invariant
    ∙ ap (λ (n : ℕ). map (len_of shape) (range_with_len 0 k) ++ n ∷ []) long
    ∙ sym (map-range_with_len_more (len_of shape) 0 k k (omega arith))
    )
