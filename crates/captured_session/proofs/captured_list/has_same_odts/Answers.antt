use Rattle.std.proofs.Common.{◌≡◌, Bool, ◌&&◌, List, [], ◌∷◌, map, refl, ap, subst, ◌∙◌}
use Rattle.std.specs.Bool.{Decides}
use Rattle.std.specs.Cmp.Lexicographic.{pointwise}
use Rattle.std.proofs.lemmas.Bool.Decides.{Decides-and, Decides-eqb, Decides-like}
use Rattle.std.proofs.lemmas.Slice.Eq.{slice_eq-Decides}
use Rattle.captured_session.specs.contracts.element.ElementPartialEq.TheImpl.{ghosts}
use Rattle.captured_session.specs.declared.element.Element.{Element}
use Rattle.captured_session.proofs.captured_list.has_same_odts.Goals as goal

-- two entries are the same by their fields
abbrev HasSameFields : Element → Element → Type 0
HasSameFields a b =
    (a.bit ≡ b.bit) × ((a.size ≡ b.size) × ((a.extension ≡ b.extension) × (a.address ≡ b.address)))

is_same : (a b : Element) → HasSameFields a b → a ≡ b
is_same a b h = λ i. record {
  bit = h.0 i;
  size = h.1.0 i;
  extension = h.1.1.0 i;
  address = h.1.1.1 i;
}

has_same : (a b : Element) → a ≡ b → HasSameFields a b
has_same a b e = subst (HasSameFields a) e (refl, (refl, (refl, refl)))

same_element : (a b : Element) → Decides (ghosts.eq a b) (a ≡ b)
same_element a b =
    Decides-like _ (is_same a b) (has_same a b)
    (Decides-and _ _ (Decides-eqb a.bit b.bit) (Decides-and _ _ (Decides-eqb a.size b.size)
    (Decides-and _ _ (Decides-eqb a.extension b.extension) (Decides-eqb a.address b.address))))

same_odt : (a b : List Element) → Decides (pointwise ghosts.eq a b) (a ≡ b)
same_odt a b = slice_eq-Decides same_element a b (pointwise ghosts.eq a b) refl

-- what is looked at of each
pointwise-map : {A B : Type 0} (f : A → B) (is : B → B → Bool) (xs ys : List A)
    → pointwise (λ x y. is (f x) (f y)) xs ys ≡ pointwise is (map f xs) (map f ys)
pointwise-map f is [] [] = refl
pointwise-map f is [] (y ∷ ys) = refl
pointwise-map f is (x ∷ xs) [] = refl
pointwise-map f is (x ∷ xs) (y ∷ ys) =
    ap (λ rest. is (f x) (f y) && rest) (pointwise-map f is xs ys)

-- the test goes entry by entry of each ODT
pub returns : goal.returns
returns c =
    slice_eq-Decides same_odt (map (λ v. v.items) c.args.a.now)
    (map (λ v. v.items) c.args.b.now) c.eq.result
    (c.eq.ensures ∙ pointwise-map (λ v. v.items) (pointwise ghosts.eq) c.args.a.now c.args.b.now)
