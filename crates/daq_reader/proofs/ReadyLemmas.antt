-- The ready lists of a store, list by list.
use Rattle.std.proofs.Common.{◌≡◌, ℕ, zero, suc, ◌+◌, [], ◌∷◌, ◌++◌, map, filter, sym, ap, ◌∙◌, arith}
use Rattle.std.specs.List.{range_with_len}
use Rattle.std.proofs.lemmas.List.Elements.{filter-append}
use Rattle.std.proofs.lemmas.List.{map-append}
use Rattle.daq_store.specs.Calls.{numbers_below}
use Rattle.daq_store.specs.Standing.{StoreState}
use Rattle.daq_reader.specs.Ready.{first_reading, ready_below, shows_ready}

-- one number more at the end
range-next : (a n : ℕ) → range_with_len a (suc n) ≡ range_with_len a n ++ (a + n) ∷ []
range-next a zero = let e : a ≡ a + 0 = omega arith in ap (λ k. k ∷ []) e
range-next a (suc n) =
    let e : a + 1 + n ≡ a + suc n = omega arith in
    ap (λ xs. a ∷ xs) (range-next (a + 1) n) ∙ ap (λ k. a ∷ range_with_len (a + 1) n ++ k ∷ []) e

-- those below n, and list n if it is ready
pub ready-next : (s : StoreState) (n : ℕ) → ready_below s n ++ map (first_reading s) (filter (shows_ready s) (n ∷ [])) ≡ ready_below s (n + 1)
ready-next s n =
    let one : suc n ≡ n + 1 = omega arith in
    let here : 0 + n ≡ n = omega arith in
    let p = shows_ready s in
    sym (ap (λ k. ready_below s k) (sym one)
    ∙ ap (λ xs. map (first_reading s) (filter p xs)) (range-next 0 n)
    ∙ ap (λ k. map (first_reading s) (filter p (numbers_below n ++ k ∷ []))) here
    ∙ ap (map (first_reading s)) (filter-append p (numbers_below n) (n ∷ []))
    ∙ map-append (first_reading s) (filter p (numbers_below n)) (filter p (n ∷ [])))
