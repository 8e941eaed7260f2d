use Rattle.std.proofs.Common.{◌≡◌, ◌∙◌, ℕ, List, ap, arith, drop, length, map, set, vec_items}
use Rattle.std.specs.Vec.{with_items}
use Rattle.std.proofs.lemmas.List.{map-set, take-append-le, take_all}
use Rattle.daq_reader.proofs.list_reader.fill_place.Goals as goal

-- the place holds the packet, and the others what they held
pub returns : goal.returns
returns c =
    let v = c.index_mut.result.now in
    let ws : List ℕ = c.copy_from_slice.new.self in
    let long : length ws ≡ v.len = c.copy_from_slice.ensures.len ∙ c.as_mut_slice.ensures.len in
    map-set vec_items c.args.places.now.items c.args.k (with_items v ws)
    ∙ ap (λ (q : List ℕ). set (map vec_items c.args.places.now.items) c.args.k q)
    (take-append-le v.len ws (drop (length ws) v.items) (omega (arith, long)) ∙ take_all v.len ws (omega (arith, long)) ∙ c.copy_from_slice.ensures.after)
