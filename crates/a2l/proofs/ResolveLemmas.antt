-- What a MODULE's blocks describe, as loops go over them.
use Rattle.std.proofs.Common.{◌≡◌, ℕ, zero, suc, ◌+◌, ◌<◌, ◌≤◌, List, [], ◌∷◌, ◌++◌, length, map, drop, get_or, Option, Some, None, refl, sym, ap, ◌∙◌, append_assoc, add-one, arith, drop-cons}
use Rattle.std.specs.Prelude.{slice_get}
use Rattle.std.specs.Option.{option_map, option_and_then, option_to_list}
use Rattle.std.proofs.lemmas.List.{append-nil}
use Rattle.std.specs.Prelude.{string_bytes}
use Rattle.measured_values.specs.declared.byte_order.ByteOrder.{ByteOrder}
use Rattle.a2l_entries.specs.declared.entry_fault.EntryFault.{EntryFault}
use Rattle.a2l_entries.specs.declared.table_block.TableBlock.{TableBlock}
use Rattle.a2l_entries.specs.declared.method_block.MethodBlock.{MethodBlock}
use Rattle.a2l_entries.specs.MethodSaid.{Converted, method_seen}
use Rattle.a2l_entries.specs.Gives.{◌>>=◌, Stops}
use Rattle.a2l.specs.Names.{place_of}
use Rattle.a2l_entries.specs.MeasurementSaid.{Measured}
use Rattle.a2l_entries.specs.TableSaid.{Named, table_seen}
use Rattle.a2l.specs.Resolved.{all_of, present, with_front, kept_behind, method_place, kept_address, value_at, value_of, table_named}
use Rattle.a2l_entries.proofs.ScanLemmas.{stops_along}
use Rattle.a2l.proofs.NameLemmas.{map_twice, get_map}

rest_at : {X Y : Type 0} (f : X → Y) (xs : List X) (i : ℕ) (x : X) → i < length xs → x ≡ get_or xs i x → map f (drop i xs) ≡ f x ∷ map f (drop (i + 1) xs)
rest_at {X = X} f xs i x lt is = ap (map f) (drop-cons xs i x lt) ∙ ap (λ (y : X). f y ∷ map f (drop (suc i) xs)) (sym is) ∙ ap (λ (k : ℕ). f x ∷ map f (drop k xs)) (sym (add-one i))

-- ---- each of them

module _ {X A B : Type 0} (seen : X → A) (f : A → Option B) where
  regroup : (front : List B) (y : B) (o : Option (List B)) → with_front front (o >>= λ ys. Some (y ∷ ys)) ≡ with_front (front ++ y ∷ []) o
  regroup front y None = refl
  regroup front y (Some ys) = ap Some (sym (append_assoc front (y ∷ []) ys))

  pub all_go_on : (xs : List X) (i : ℕ) (x : X) (front : List B) (y : B) (total : Option (List B)) → i < length xs → x ≡ get_or xs i x → f (seen x) ≡ Some y
      → with_front front (all_of f (map seen (drop i xs))) ≡ total → with_front (front ++ y ∷ []) (all_of f (map seen (drop (i + 1) xs))) ≡ total
  all_go_on xs i x front y total lt is e so_far =
      sym (regroup front y (all_of f (map seen (drop (i + 1) xs))))
      ∙ ap (λ (o : Option B). with_front front (o >>= λ z. all_of f (map seen (drop (i + 1) xs)) >>= λ ys. Some (z ∷ ys))) (sym e)
      ∙ ap (λ (l : List A). with_front front (all_of f l)) (sym (rest_at seen xs i x lt is)) ∙ so_far

  pub all_stop : (e : EntryFault) (xs : List X) (i : ℕ) (x : X) (front : List B) (total : Option (List B)) → i < length xs → x ≡ get_or xs i x → Stops e (f (seen x))
      → with_front front (all_of f (map seen (drop i xs))) ≡ total → Stops e total
  all_stop e xs i x front total lt is s so_far = stops_along e (f (seen x)) total (λ (n : f (seen x) ≡ None).
      sym so_far ∙ ap (λ (l : List A). with_front front (all_of f l)) (rest_at seen xs i x lt is)
      ∙ ap (λ (o : Option B). with_front front (o >>= λ z. all_of f (map seen (drop (i + 1) xs)) >>= λ ys. Some (z ∷ ys))) n) s

  nothing_left : (xs : List X) (i : ℕ) → length xs ≤ i → map seen (drop i xs) ≡ []
  nothing_left [] zero le = refl
  nothing_left [] (suc i) le = refl
  nothing_left (x ∷ xs) zero le = absurd (omega arith)
  nothing_left (x ∷ xs) (suc i) le = nothing_left xs i (omega arith)

  pub all_done : (xs : List X) (i : ℕ) (front : List B) (total : Option (List B)) → length xs ≤ i → with_front front (all_of f (map seen (drop i xs))) ≡ total → total ≡ Some front
  all_done xs i front total le so_far =
      sym so_far ∙ ap (λ (l : List A). with_front front (all_of f l)) (nothing_left xs i le) ∙ ap Some (append-nil front)

-- ---- those that are kept

module _ {X A B : Type 0} (seen : X → A) (f : A → Option (Option B)) where
  regroup_kept : (front : List B) (y : Option B) (o : Option (List (Option B)))
      → with_front front (option_map present (o >>= λ ys. Some (y ∷ ys))) ≡ with_front (front ++ option_to_list y) (option_map present o)
  regroup_kept front y None = refl
  regroup_kept front None (Some ys) = ap (λ (l : List B). Some (l ++ present ys)) (sym (append-nil front))
  regroup_kept front (Some x) (Some ys) = ap Some (sym (append_assoc front (x ∷ []) (present ys)))

  pub kept_go_on : (xs : List X) (i : ℕ) (x : X) (front new : List B) (total : Option (List B)) → i < length xs → x ≡ get_or xs i x → kept_behind front (f (seen x)) ≡ Some new
      → with_front front (option_map present (all_of f (map seen (drop i xs)))) ≡ total → with_front new (option_map present (all_of f (map seen (drop (i + 1) xs)))) ≡ total
  kept_go_on xs i x front new total lt is e so_far = by_value (f (seen x)) refl e
    where
      by_value : (o : Option (Option B)) → f (seen x) ≡ o → kept_behind front o ≡ Some new → with_front new (option_map present (all_of f (map seen (drop (i + 1) xs)))) ≡ total
      by_value None same k = absurd cc
      by_value (Some y) same k =
          let front_is : new ≡ front ++ option_to_list y = cc in
          ap (λ (l : List B). with_front l (option_map present (all_of f (map seen (drop (i + 1) xs))))) front_is
          ∙ sym (regroup_kept front y (all_of f (map seen (drop (i + 1) xs))))
          ∙ ap (λ (o : Option (Option B)). with_front front (option_map present (o >>= λ z. all_of f (map seen (drop (i + 1) xs)) >>= λ ys. Some (z ∷ ys)))) (sym same)
          ∙ ap (λ (l : List A). with_front front (option_map present (all_of f l))) (sym (rest_at seen xs i x lt is)) ∙ so_far

  not_kept : (front : List B) (o : Option (Option B)) → kept_behind front o ≡ None → o ≡ None
  not_kept front None e = refl
  not_kept front (Some y) e = absurd cc

  pub kept_stop : (e : EntryFault) (xs : List X) (i : ℕ) (x : X) (front : List B) (total : Option (List B)) → i < length xs → x ≡ get_or xs i x → Stops e (kept_behind front (f (seen x)))
      → with_front front (option_map present (all_of f (map seen (drop i xs)))) ≡ total → Stops e total
  kept_stop e xs i x front total lt is s so_far = stops_along e (kept_behind front (f (seen x))) total (λ (n : kept_behind front (f (seen x)) ≡ None).
      sym so_far ∙ ap (λ (l : List A). with_front front (option_map present (all_of f l))) (rest_at seen xs i x lt is)
      ∙ ap (λ (o : Option (Option B)). with_front front (option_map present (o >>= λ z. all_of f (map seen (drop (i + 1) xs)) >>= λ ys. Some (z ∷ ys)))) (not_kept front (f (seen x)) n)) s

  none_left_kept : (xs : List X) (i : ℕ) → length xs ≤ i → map seen (drop i xs) ≡ []
  none_left_kept [] zero le = refl
  none_left_kept [] (suc i) le = refl
  none_left_kept (x ∷ xs) zero le = absurd (omega arith)
  none_left_kept (x ∷ xs) (suc i) le = none_left_kept xs i (omega arith)

  pub kept_done : (xs : List X) (i : ℕ) (front : List B) (total : Option (List B)) → length xs ≤ i
      → with_front front (option_map present (all_of f (map seen (drop i xs)))) ≡ total → total ≡ Some front
  kept_done xs i front total le so_far =
      sym so_far ∙ ap (λ (l : List A). with_front front (option_map present (all_of f l))) (none_left_kept xs i le) ∙ ap Some (append-nil front)

-- ---- places

place_same : (before : ℕ) (f g : List ℕ → Option ℕ) (m : Option (List ℕ)) → ((name : List ℕ) → f name ≡ g name) → method_place before f m ≡ method_place before g m
place_same before f g None h = refl
place_same before f g (Some name) h = ap (option_map (λ k. Some (before + k))) (h name)

pub value_same : (order : ByteOrder) (before : ℕ) (f g : List ℕ → Option ℕ) (m : Measured) → ((name : List ℕ) → f name ≡ g name) → value_of order before f m ≡ value_of order before g m
unfolding value_of
value_same order before f g m h = ap (λ (o : Option (Option ℕ)). o >>= λ method. Some (option_map (value_at order m method) (kept_address m))) (place_same before f g m.method h)

-- the table of a name, by its place
pub table_by_place : (tables : List TableBlock) (place : List ℕ → Option ℕ) (name : List ℕ) (r : Option ℕ) → ((n : List ℕ) → place n ≡ place_of n (map (λ t. string_bytes t.name) tables)) → r ≡ place name
    → table_named name (map table_seen tables) ≡ option_map (λ t. t.texts) (option_and_then (λ k. option_map table_seen (slice_get tables k)) r)
table_by_place tables place name r are is =
    let names : map (λ (t : Named). t.name) (map table_seen tables) ≡ map (λ t. string_bytes t.name) tables = map_twice table_seen (λ (t : Named). t.name) tables in
    let there : place_of name (map (λ (t : Named). t.name) (map table_seen tables)) ≡ r = ap (place_of name) names ∙ sym (are name) ∙ sym is in
    ap (λ (o : Option ℕ). option_map (λ (t : Named). t.texts) (option_and_then (λ k. slice_get (map table_seen tables) k) o)) there
    ∙ by_place r
  where
    by_place : (r : Option ℕ) → option_map (λ (t : Named). t.texts) (option_and_then (λ k. slice_get (map table_seen tables) k) r) ≡ option_map (λ (t : Named). t.texts) (option_and_then (λ k. option_map table_seen (slice_get tables k)) r)
    by_place None = refl
    by_place (Some k) = ap (option_map (λ (t : Named). t.texts)) (get_map table_seen tables k)

pub same_values : (order : ByteOrder) (before : ℕ) (methods : List MethodBlock) (place : List ℕ → Option ℕ) (m : Measured) → ((n : List ℕ) → place n ≡ place_of n (map (λ q. string_bytes q.name) methods))
    → value_of order before place m ≡ value_of order before (λ n. place_of n (map (λ q. q.name) (map method_seen methods))) m
same_values order before methods place m are =
    value_same order before place (λ n. place_of n (map (λ q. q.name) (map method_seen methods))) m
    (λ n. are n ∙ ap (place_of n) (sym (map_twice method_seen (λ (q : Converted). q.name) methods)))
