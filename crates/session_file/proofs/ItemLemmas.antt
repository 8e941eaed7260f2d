-- The keys of a table, and the items of an array: how many, and up to the first that can't be read.
use Rattle.std.proofs.Common.{◌≡◌, ◌<◌, ◌&&◌, ℕ, Bool, List, [], ◌∷◌, length, get_or, take, Option, Some, None, option_map, String, Global, string_bytes, refl, sym, ap, ◌∙◌, arith, zero, suc}
use Rattle.std.proofs.lemmas.Option.{same_Some}
use Rattle.std.specs.List.{list_all}
use Rattle.std.specs.Map.{keys_of}
use Rattle.toml.specs.Data.{Data}
use Rattle.toml.specs.View.{items_view, members_view, view}
use Rattle.toml.specs.declared.value.Value.{Value}
use Rattle.run_file.specs.Keys.{all_of, is_among}
use Rattle.run_file.proofs.KeyLemmas.{onto-some}
use Rattle.session_file.specs.Keys.{first_none, only_keys, or_behind}
use Rattle.session_file.specs.Memory.{count_of}

-- the keys of a table, one after another
pub only_keys-entries : (ks : List (List ℕ)) (es : List (String Global × Value))
    → list_all (λ k. is_among ks (string_bytes k)) (keys_of es) ≡ only_keys ks (members_view es)
only_keys-entries ks [] = refl
only_keys-entries ks (e ∷ es) = ap (λ (t : Bool). is_among ks (string_bytes e.0) && t) (only_keys-entries ks es)

pub count_of-items : (vs : List Value) → count_of (items_view vs) ≡ length vs
count_of-items [] = refl
count_of-items (v ∷ vs) = ap suc (count_of-items vs)

module _ {X : Type 0} (f : Data → Option X) where
  -- behind those that were read stands the first that can't be
  pub first_none-at : (vs : List Value) (i : ℕ) (d : Value) (xs : List X) → i < length vs → all_of f (items_view (take i vs)) ≡ Some xs
      → f (view (get_or vs i d)) ≡ None → first_none f (items_view vs) ≡ Some (length xs)
  first_none-at [] i d xs low so_far none = absurd (omega arith)
  first_none-at (v ∷ vs) zero d xs low so_far none = rw (none, ← same_Some [] xs so_far) refl
  first_none-at (v ∷ vs) (suc i) d xs low so_far none =
      let parts = onto-some (f (view v)) (all_of f (items_view (take i vs))) xs so_far in
      let behind = first_none-at vs i d parts.1 (omega arith) parts.3 none in
      ap (λ o. or_behind o (first_none f (items_view vs))) parts.2 ∙ ap (option_map suc) behind ∙ ap (λ ys. Some (length ys)) (sym parts.4)
