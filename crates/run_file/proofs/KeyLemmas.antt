-- The values of the keys, as the table holds them.
use Rattle.std.proofs.Common.{◌≡◌, ◌<◌, ◌+◌, ◌&&◌, ℕ, Bool, true, false, List, [], ◌∷◌, ◌++◌, length, get_or, take, map, Option, Some, None, String, Global, string_bytes, MatchBool, refl, sym, ap, ◌∙◌, arith, zero, suc}
use Rattle.std.specs.Prelude.{is_some}
use Rattle.std.proofs.lemmas.Option.{same_Some}
use Rattle.std.specs.List.{list_all}
use Rattle.std.specs.Map.{keys_of}
use Rattle.toml.specs.Data.{Data, as_str}
use Rattle.toml.specs.View.{items_view, members_view, view}
use Rattle.toml.specs.declared.value.Value.{Value}
use Rattle.run_file.specs.Keys.{all_of, are_keys, is_among, keys, onto}
use Rattle.run_file.specs.Inner.{or_empty, text_in}

-- the keys of a table, one after another
pub are_keys-entries : (es : List (String Global × Value)) → list_all (λ k. is_among keys (string_bytes k)) (keys_of es) ≡ are_keys (members_view es)
are_keys-entries [] = refl
are_keys-entries (e ∷ es) = ap (λ (t : Bool). is_among keys (string_bytes e.0) && t) (are_keys-entries es)

pub onto-none : {X : Type 0} (o : Option X) → onto o None ≡ None
onto-none None = refl
onto-none (Some x) = refl

-- the strings of an array
strings_at : (o : Option (List ℕ)) (text : List ℕ) (rest : Bool) (read : Option (List (List ℕ))) (texts : List (List ℕ))
    → (is_some o ≡ true → o ≡ Some text) → MatchBool rest (read ≡ Some texts) (read ≡ None)
    → MatchBool (is_some o && rest) (onto o read ≡ Some (text ∷ texts)) (onto o read ≡ None)
strings_at None text rest read texts h more = refl
strings_at (Some t) text true read texts h more = rw (h refl, more) refl
strings_at (Some t) text false read texts h more = rw more refl

some_or_empty : (o : Option (List ℕ)) → is_some o ≡ true → o ≡ Some (or_empty o)
some_or_empty (Some t) h = refl
some_or_empty None h = cc h

some_text : (v : Value) → is_some (as_str (view v)) ≡ true → as_str (view v) ≡ Some (text_in v)
some_text v h = some_or_empty (as_str (view v)) h

pub strings_by_test : (vs : List Value) → MatchBool (list_all (λ v. is_some (as_str (view v))) vs) (all_of as_str (items_view vs) ≡ Some (map text_in vs)) (all_of as_str (items_view vs) ≡ None)
strings_by_test [] = refl
strings_by_test (v ∷ vs) = strings_at (as_str (view v)) (text_in v) _ _ _ (some_text v) (strings_by_test vs)

-- one more value was read
pub onto-some : {X : Type 0} (o : Option X) (r : Option (List X)) (xs : List X) → onto o r ≡ Some xs → (y : X) × (ys : List X) × (o ≡ Some y) × (r ≡ Some ys) × (xs ≡ y ∷ ys)
onto-some None r xs h = cc h
onto-some (Some y) None xs h = cc h
onto-some (Some y) (Some ys) xs h = (y, ys, refl, refl, sym (same_Some (y ∷ ys) xs h))

take-push : (vs : List Value) (i : ℕ) (d : Value) → i < length vs → take (i + 1) vs ≡ take i vs ++ get_or vs i d ∷ []
take-push [] i d l = absurd (omega arith)
take-push (v ∷ vs) zero d l = refl
take-push (v ∷ vs) (suc i) d l =
    let e : suc i + 1 ≡ suc (i + 1) = omega arith in
    rw e (ap (λ ws. v ∷ ws) (take-push vs i d (omega arith)))

module _ {X : Type 0} (f : Data → Option X) where
  pub all_of-push : (vs : List Value) (v : Value) (xs : List X) (x : X) → all_of f (items_view vs) ≡ Some xs → f (view v) ≡ Some x
      → all_of f (items_view (vs ++ v ∷ [])) ≡ Some (xs ++ x ∷ [])
  all_of-push [] v xs x h e = rw (e, ← same_Some [] xs h) refl
  all_of-push (w ∷ vs) v xs x h e =
      let parts = onto-some (f (view w)) (all_of f (items_view vs)) xs h in
      let more = all_of-push vs v parts.1 x parts.3 e in
      ap (onto (f (view w))) more ∙ ap (λ o. onto o (Some (parts.1 ++ x ∷ []))) parts.2 ∙ ap (λ zs. Some (zs ++ x ∷ [])) (sym parts.4)

  pub all_of-more : (vs : List Value) (i : ℕ) (v : Value) (xs : List X) (x : X) → i < length vs → v ≡ get_or vs i v
      → all_of f (items_view (take i vs)) ≡ Some xs → f (view v) ≡ Some x → all_of f (items_view (take (i + 1) vs)) ≡ Some (xs ++ x ∷ [])
  all_of-more vs i v xs x l is so_far e =
      let more : take (i + 1) vs ≡ take i vs ++ v ∷ [] = take-push vs i v l ∙ ap (λ w. take i vs ++ w ∷ []) (sym is) in
      ap (λ ws. all_of f (items_view ws)) more ∙ all_of-push (take i vs) v xs x so_far e

  -- one that can't be read
  pub all_of-none : (vs : List Value) (i : ℕ) (d : Value) → i < length vs → f (view (get_or vs i d)) ≡ None → all_of f (items_view vs) ≡ None
  all_of-none [] i d l h = absurd (omega arith)
  all_of-none (v ∷ vs) zero d l h = rw h refl
  all_of-none (v ∷ vs) (suc i) d l h = rw (all_of-none vs i d (omega arith) h) (onto-none (f (view v)))
