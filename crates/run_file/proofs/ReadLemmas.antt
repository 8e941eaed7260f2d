-- Values that are read from their texts, one after another, up to the first text that has none.
use Rattle.std.proofs.Common.{◌≡◌, ◌<◌, ◌+◌, ℕ, List, [], ◌∷◌, ◌++◌, length, get_or, take, drop, map, zero, suc, refl, sym, ap, ◌∙◌, subst, arith, All}
use Rattle.std.proofs.lemmas.List.{map_more}
use Rattle.std.proofs.lemmas.List.Elements.{All-cons, All-nil}
use Rattle.run_file.specs.Reading.{AreTextsOf, HasNone, IsFirstBad}

pub length-map-any : {A B : Type 0} (g : A → B) (xs : List A) → length (map g xs) ≡ length xs
length-map-any g [] = refl
length-map-any g (x ∷ xs) = ap suc (length-map-any g xs)

pub map-push : {A B : Type 0} (g : A → B) (xs : List A) (x : A) → map g (xs ++ x ∷ []) ≡ map g xs ++ g x ∷ []
map-push g [] x = refl
map-push g (y ∷ xs) x = ap (λ zs. g y ∷ zs) (map-push g xs x)

module _ {X : Type 0} (R : List ℕ → X → Type 0) where
  -- there is one text for each value
  pub length-AreTextsOf : (texts : List (List ℕ)) (xs : List X) → AreTextsOf R texts xs → length texts ≡ length xs
  length-AreTextsOf [] [] are = refl
  length-AreTextsOf [] (x ∷ xs) are = absurd are
  length-AreTextsOf (t ∷ texts) [] are = absurd are
  length-AreTextsOf (t ∷ texts) (x ∷ xs) are = ap suc (length-AreTextsOf texts xs are.1)

  -- what each value of a text has
  pub All-AreTextsOf : (P : X → Type 0) → ((text : List ℕ) (x : X) → R text x → P x) → (texts : List (List ℕ)) (xs : List X)
      → AreTextsOf R texts xs → All P xs
  All-AreTextsOf P each [] [] are = All-nil P
  All-AreTextsOf P each [] (x ∷ xs) are = absurd are
  All-AreTextsOf P each (t ∷ texts) [] are = absurd are
  All-AreTextsOf P each (t ∷ texts) (x ∷ xs) are =
      All-cons P x xs (each t x are.0) (All-AreTextsOf P each texts xs are.1)

  AreTextsOf-push : (texts : List (List ℕ)) (xs : List X) (text : List ℕ) (x : X) → AreTextsOf R texts xs → R text x
      → AreTextsOf R (texts ++ text ∷ []) (xs ++ x ∷ [])
  AreTextsOf-push [] [] text x are is = (is, tt)
  AreTextsOf-push [] (y ∷ xs) text x are is = absurd are
  AreTextsOf-push (t ∷ texts) [] text x are is = absurd are
  AreTextsOf-push (t ∷ texts) (y ∷ xs) text x are is = (are.0, AreTextsOf-push texts xs text x are.1 is)

  module _ {V : Type 0} (text : V → List ℕ) where
    -- one more text was read
    pub read_more : (vs : List V) (i : ℕ) (v : V) (xs new : List X) (x : X) → i < length vs → v ≡ get_or vs i v
        → AreTextsOf R (map text (take i vs)) xs → R (text v) x → new ≡ xs ++ x ∷ []
        → AreTextsOf R (map text (take (i + 1) vs)) new
    read_more vs i v xs new x low is so_far now at_end =
        let more : map text (take (i + 1) vs) ≡ map text (take i vs) ++ text v ∷ [] =
        map_more text vs i v low ∙ ap (λ w. map text (take i vs) ++ text w ∷ []) (sym is) in
        subst (λ ts. AreTextsOf R ts new) (sym more)
        (subst (AreTextsOf R (map text (take i vs) ++ text v ∷ [])) (sym at_end)
        (AreTextsOf-push (map text (take i vs)) xs (text v) x so_far now))

    map-split : (vs : List V) (i : ℕ) (d : V) → i < length vs
        → map text vs ≡ map text (take i vs) ++ text (get_or vs i d) ∷ map text (drop (i + 1) vs)
    map-split [] i d low = absurd (omega arith)
    map-split (v ∷ vs) zero d low = refl
    map-split (v ∷ vs) (suc i) d low =
        let e : suc i + 1 ≡ suc (i + 1) = omega arith in
        rw e (ap (λ zs. text v ∷ zs) (map-split vs i d (omega arith)))

    -- this text is the first of none, and its place is how many were read
    pub first_bad : (vs : List V) (i : ℕ) (v : V) (xs : List X) (n : ℕ) → n ≡ length xs → i < length vs → v ≡ get_or vs i v
        → AreTextsOf R (map text (take i vs)) xs → HasNone (R (text v)) → IsFirstBad R (map text vs) n
    first_bad vs i v xs n len low is so_far none = record {
      before = map text (take i vs);
      bad = text v;
      behind = map text (drop (i + 1) vs);
      split = map-split vs i v low ∙ ap (λ w. map text (take i vs) ++ text w ∷ map text (drop (i + 1) vs)) (sym is);
      at = length-AreTextsOf (map text (take i vs)) xs so_far ∙ sym len;
      good = xs;
      read = so_far;
      none = none;
    }
