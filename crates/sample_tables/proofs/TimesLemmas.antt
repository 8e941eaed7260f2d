-- The last times of each list, and one time more.
use Rattle.std.proofs.Common.{◌≡◌, ◌≢◌, ℕ, ◌<◌, ◌==◌, true, false, if◌then◌else◌, List, ◌∷◌, length, slice_get, slice_set, replicate, Option, Some, None, ◌⊎◌, sym, ap, subst, ◌∙◌, arith, inl, inr}
use Rattle.std.proofs.lemmas.Bool.Decides.{eqb_tells}
use Rattle.std.proofs.lemmas.List.{length-set}
use Rattle.xcp_base.specs.declared.stamp_size.StampSize.{StampSize}
use Rattle.sample_tables.specs.declared.times.Stand.{Stand}
use Rattle.sample_tables.specs.declared.times.Times.{Times}
use Rattle.sample_tables.specs.Times.{KnowsLast, last_of_list, time_behind, time_of}
use Rattle.sample_tables.proofs.TallyLemmas.{all_same, get_other, get_same}

-- the list at the place has new last ones, and the others stay
lists_known : (lists : List (Option Stand)) (place i : ℕ) (stand : Stand) (earlier : List (ℕ × Stand))
    → ((j : ℕ) → j < length lists → slice_get lists j ≡ Some (last_of_list j earlier))
    → place < length lists → i < length (slice_set lists place (Some stand))
    → slice_get (slice_set lists place (Some stand)) i ≡ Some (last_of_list i ((place, stand) ∷ earlier))
lists_known lists place i stand earlier all within below = by_place (eqb_tells place i)
  where
    short : i < length lists
    short = omega (arith, below, length-set lists place (Some stand))

    by_place : (((place == i) ≡ true) × (place ≡ i)) ⊎ (((place == i) ≡ false) × (place ≢ i)) → slice_get (slice_set lists place (Some stand)) i ≡ Some (if place == i then Some stand else last_of_list i earlier)
    by_place (inl v) = subst (λ b. slice_get (slice_set lists place (Some stand)) i ≡ Some (if b then Some stand else last_of_list i earlier)) (sym v.0)
        (subst (λ k. slice_get (slice_set lists place (Some stand)) k ≡ Some (Some stand)) v.1 (get_same lists place (Some stand) within))
    by_place (inr v) = subst (λ b. slice_get (slice_set lists place (Some stand)) i ≡ Some (if b then Some stand else last_of_list i earlier)) (sym v.0)
        (get_other lists place i (Some stand) within short (λ e. v.1 (sym e)) ∙ all i short)

-- no list has last ones
abbrev pub none_yet : Option Stand
none_yet = None

pub none_known : (n i : ℕ) → i < length (replicate n none_yet) → slice_get (replicate n none_yet) i ≡ Some none_yet
none_known n i below = all_same n i none_yet below

-- the time is the one behind the earlier ones
pub is_time : (t : Times) (place : ℕ) (size : StampSize) (ticks at : ℕ) (own : Option Stand) (earlier : List (ℕ × Stand)) → KnowsLast t earlier
    → place < length t.lists.items → slice_get t.lists.items place ≡ Some own → at ≡ time_behind size own t.last ticks
    → at ≡ time_of size place earlier ticks
is_time t place size ticks at own earlier knows within there is =
    let some : Some own ≡ Some (last_of_list place earlier) = sym there ∙ knows.each place within in
    let own_is : own ≡ last_of_list place earlier = cc in
    is ∙ ap (λ o. time_behind size o t.last ticks) own_is ∙ ap (λ o. time_behind size (last_of_list place earlier) o ticks) knows.last

abbrev stand_at : ℕ → ℕ → Stand
stand_at ticks at = record { ticks = ticks; at = at }

-- one time more
pub knows_more : (t u : Times) (place ticks at time : ℕ) (earlier : List (ℕ × Stand)) → KnowsLast t earlier → place < length t.lists.items → at ≡ time
    → u.last ≡ Some (record { ticks = ticks; at = at }) → u.lists.items ≡ slice_set t.lists.items place (Some (record { ticks = ticks; at = at }))
    → KnowsLast u ((place, record { ticks = ticks; at = time }) ∷ earlier)
knows_more t u place ticks at time earlier knows within is last lists =
    let all : u.lists.items ≡ slice_set t.lists.items place (Some (stand_at ticks time)) = lists ∙ ap (λ a. slice_set t.lists.items place (Some (stand_at ticks a))) is in
    record {
      last = last ∙ ap (λ a. Some (stand_at ticks a)) is;
      each = λ i below. subst (λ (ls : List (Option Stand)). slice_get ls i ≡ Some (last_of_list i ((place, stand_at ticks time) ∷ earlier))) (sym all)
          (lists_known t.lists.items place i (stand_at ticks time) earlier knows.each within (subst (λ (ls : List (Option Stand)). i < length ls) all below));
    }
