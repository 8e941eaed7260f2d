-- The options that stand in bytes.
use Rattle.std.proofs.Common.{◌≡◌, ℕ, ◌+◌, ◌≤◌, ◌<◌, Bool, true, false, nat_eq, Option, Some, None, List, [], ◌∷◌, length, drop, refl, sym, ap, subst, ◌∙◌, inl, inr, arith}
use Rattle.std.proofs.lemmas.List.{drop-drop, length-drop}
use Rattle.measured_values.specs.declared.byte_order.ByteOrder.{ByteOrder}
use Rattle.capture.specs.Numbers.{field}
use Rattle.capture.specs.Blocks.{HasBytes}
use Rattle.capture.specs.Inner.{HasRead, found_or}
use Rattle.capture.specs.Options.{AreOptions, AtEnd, IsOption, filled, first_value, value_of, value_or}

-- bytes that begin with no option, and aren't at their end, have none
none-in : (order : ByteOrder) (bytes : List ℕ) (options : List (ℕ × List ℕ)) → (AtEnd order bytes → ⊥)
    → ((o : ℕ × List ℕ) → IsOption order bytes o → ⊥) → AreOptions order bytes options → ⊥
none-in order bytes [] end option are = end are
none-in order bytes (o ∷ os) end option are = option o are.0

-- so bytes that are too few
pub too-few : (order : ByteOrder) (bytes : List ℕ) (options : List (ℕ × List ℕ)) → 0 < length bytes → length bytes < 4 → AreOptions order bytes options → ⊥
too-few order bytes options some few =
    none-in order bytes options (λ end. elim end as (λ _. ⊥) [ inl e ↦ omega (arith, ap length e, some) | inr h ↦ omega (arith, h.0, few) ])
    (λ o is. omega (arith, is.head, few))

-- and an option that isn't there whole
pub cut-off : (order : ByteOrder) (bytes : List ℕ) (options : List (ℕ × List ℕ)) → 4 ≤ length bytes → (field order 2 0 bytes ≡ 0 → ⊥)
    → length bytes < 4 + filled (field order 2 2 bytes) → AreOptions order bytes options → ⊥
cut-off order bytes options head code short =
    none-in order bytes options (λ end. elim end as (λ _. ⊥) [ inl e ↦ omega (arith, ap length e, head) | inr h ↦ code h.1 ])
    (λ o is. omega (arith, is.whole, short))

-- nothing was read
pub read-none : (order : ByteOrder) (bytes : List ℕ) (code : ℕ) → HasRead order bytes code 0 None
read-none order bytes code = record {
  within = omega arith;
  all = λ later are. (later, are, refl);
  later = λ options are. (options, are);
}

-- a value, or that of a later option, where none was found before
or-later : (is : Bool) (value : List ℕ) (later : Option (List ℕ)) → value_or is value later ≡ found_or (value_or is value None) later
or-later true value later = refl
or-later false value later = refl

-- what was found before, or else that
kept : (found : Option (List ℕ)) (b wanted : ℕ) (value : List ℕ) (later : Option (List ℕ))
    → found_or found (value_or (nat_eq b wanted) value later) ≡ found_or (first_value found b value wanted) later
kept (Some before) b wanted value later = refl
kept None b wanted value later = or-later (nat_eq b wanted) value later

-- in front of bytes stands one option
same-option : (order : ByteOrder) (bytes : List ℕ) (o p : ℕ × List ℕ) → IsOption order bytes o → IsOption order bytes p → o.1 ≡ p.1
same-option order bytes o p is other = is.value ∙ sym other.value

-- where an option stands, the options are not at their end
not-both : (order : ByteOrder) (bytes : List ℕ) (o : ℕ × List ℕ) → AtEnd order bytes → IsOption order bytes o → ⊥
not-both order bytes o end is = elim end as (λ _. ⊥) [ inl e ↦ omega (arith, ap length e, is.head) | inr h ↦ is.more (is.code ∙ h.1) ]

-- behind it stand the others
behind-option : (order : ByteOrder) (bytes : List ℕ) (o : ℕ × List ℕ) (options : List (ℕ × List ℕ)) → IsOption order bytes o → AreOptions order bytes options
    → (later : List (ℕ × List ℕ)) × AreOptions order (drop (4 + filled (length o.1)) bytes) later
behind-option order bytes o [] is end =
    absurd (not-both order bytes o end is)
behind-option order bytes o (p ∷ options) is are =
    (options, subst (λ v. AreOptions order (drop (4 + filled (length v)) bytes) options) (same-option order bytes p o are.0 is) are.1)

found-or-none : (found : Option (List ℕ)) → found_or found None ≡ found
found-or-none (Some value) = refl
found-or-none None = refl

-- an option more was read
pub read-more : (order : ByteOrder) (bytes : List ℕ) (code at len : ℕ) (found next : Option (List ℕ)) (o : ℕ × List ℕ)
    → HasRead order bytes code at found → IsOption order (drop at bytes) o → len ≡ 4 + filled (length o.1) → len ≤ length (drop at bytes)
    → next ≡ first_value found o.0 o.1 code → HasRead order bytes code (at + len) next
read-more order bytes code at len found next o r is long fits same =
    let behind : drop (4 + filled (length o.1)) (drop at bytes) ≡ drop (at + len) bytes =
    ap (λ n. drop n (drop at bytes)) (sym long) ∙ drop-drop len at bytes in
    record {
      within = omega (arith, length-drop at bytes, fits, r.within);
      all = λ later are.
          let whole = r.all (o ∷ later) (is, subst (λ xs. AreOptions order xs later) (sym behind) are) in
          (whole.0, whole.1, whole.2 ∙ kept found o.0 code o.1 (value_of code later) ∙ ap (λ f. found_or f (value_of code later)) (sym same));
      later = λ options are.
          let rest = r.later options are in
          let others = behind-option order (drop at bytes) o rest.0 is rest.1 in
          (others.0, subst (λ xs. AreOptions order xs others.0) behind others.1);
    }

-- all options were read
pub read-all : (order : ByteOrder) (bytes : List ℕ) (code at : ℕ) (found : Option (List ℕ)) → HasRead order bytes code at found → AtEnd order (drop at bytes)
    → (options : List (ℕ × List ℕ)) × AreOptions order bytes options × (found ≡ value_of code options)
read-all order bytes code at found r end =
    let whole = r.all [] end in
    (whole.0, whole.1, sym (whole.2 ∙ found-or-none found))

-- it is the same in code and value
one-option : (order : ByteOrder) (bytes : List ℕ) (o p : ℕ × List ℕ) → IsOption order bytes o → IsOption order bytes p → o ≡ p
one-option order bytes o p is other = ap (λ n. (n, o.1)) (is.code ∙ sym other.code) ∙ ap (λ v. (p.0, v)) (same-option order bytes o p is other)

-- in bytes stand one list of options
pub same-options : (order : ByteOrder) (bytes : List ℕ) (xs ys : List (ℕ × List ℕ)) → AreOptions order bytes xs → AreOptions order bytes ys → xs ≡ ys
same-options order bytes [] [] end other = refl
same-options order bytes [] (p ∷ ys) end are = absurd (not-both order bytes p end are.0)
same-options order bytes (o ∷ xs) [] are end = absurd (not-both order bytes o end are.0)
same-options order bytes (o ∷ xs) (p ∷ ys) are other =
    let same : o ≡ p = one-option order bytes o p are.0 other.0 in
    let later = same-options order (drop (4 + filled (length o.1)) bytes) xs ys are.1
    (subst (λ (q : ℕ × List ℕ). AreOptions order (drop (4 + filled (length q.1)) bytes) ys) (sym same) other.1) in
    ap (λ q. q ∷ xs) same ∙ ap (λ zs. p ∷ zs) later

-- a value of another length than is wanted
pub wrong-length : (order : ByteOrder) (bytes value : List ℕ) (n code : ℕ) (found : Option (List ℕ)) (options others : List (ℕ × List ℕ))
    → AreOptions order bytes options → found ≡ value_of code options → found ≡ Some value → (length value ≡ n → ⊥)
    → AreOptions order bytes others → HasBytes n (value_of code others) → ⊥
wrong-length order bytes value n code found options others are is some other are2 has =
    other (subst (HasBytes n) (ap (value_of code) (same-options order bytes others options are2 are) ∙ sym is ∙ some) has)
