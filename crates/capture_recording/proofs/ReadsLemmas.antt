-- What is read of a capture, unit by unit.
use Rattle.std.proofs.Common.{◌≡◌, ℕ, zero, suc, ◌+◌, ◌++◌, ◌∷◌, [], List, take, drop, sym, ap, subst, ◌∙◌, arith, Option}
use Rattle.std.proofs.KnownBytes.{Consumes-trans, starts_with_rest}
use Rattle.std.proofs.lemmas.List.{append_assoc, append-nil, take-append-drop}
use Rattle.std.specs.Io.{StartsWith, appended_bytes}
use Rattle.std.specs.Io.KnownBytes.{Consumes}
use lib.Seq.{take-nil}
use Rattle.std.specs.declared.net.ip_addr.IpAddr.{IpAddr}
use Rattle.capture.specs.Standing.{StandsAfter}
use Rattle.capture.specs.Units.{Known}
use Rattle.captured_samples.specs.Standing.{Told}
use Rattle.capture_recording.specs.Reads.{TakesUnits}
use Rattle.capture_recording.specs.Slaves.{SlavesOf}

module _ {K S : Type 0} (told : S → List Told → Type 0) (reads : K → IpAddr → Type 0) where
  pub units-none : (k : Known) (x : SlavesOf K S) → TakesUnits told reads k k x x []
  units-none k x first before packets stands taken =
      (packets, subst (λ (bs : List ℕ). StandsAfter k bs packets) (sym (append-nil before)) stands, taken)

  pub units-both : (a b c : Known) (x y z : SlavesOf K S) (xs ys : List ℕ) → TakesUnits told reads a b x y xs
      → TakesUnits told reads b c y z ys → TakesUnits told reads a c x z (xs ++ ys)
  units-both a b c x y z xs ys one two first before packets stands taken =
      let m = one first before packets stands taken in
      let n = two first (before ++ xs) m.0 m.1 m.2 in
      (n.0, subst (λ (bs : List ℕ). StandsAfter c bs n.0) (append_assoc before xs ys) n.1, n.2)

pub take-both : (xs : List ℕ) (i n : ℕ) → take (i + n) xs ≡ take i xs ++ take n (drop i xs)
take-both xs zero n = let e : 0 + n ≡ n = omega arith in ap (λ (k : ℕ). take k xs) e
take-both [] (suc i) n =
    let e : suc i + n ≡ suc (i + n) = omega arith in
    ap (λ (k : ℕ). take k []) e ∙ sym (take-nil n)
take-both (x ∷ xs) (suc i) n =
    let e : suc i + n ≡ suc (i + n) = omega arith in
    ap (λ (k : ℕ). take k (x ∷ xs)) e ∙ ap (λ (ys : List ℕ). x ∷ ys) (take-both xs i n)

pub take-none : (n : ℕ) (xs : List ℕ) → n ≡ 0 → take n xs ≡ []
take-none n xs none = ap (λ (k : ℕ). take k xs) none

-- a read more, behind bytes that were taken
pub consumes-step : (a b c : Option (List ℕ)) (before held rest bytes : List ℕ) (n : ℕ) → Consumes a b (before ++ held)
    → rest ≡ drop n held → StartsWith bytes rest → Consumes b c (appended_bytes rest bytes)
    → Consumes a c ((before ++ take n held) ++ bytes)
consumes-step a b c before held rest bytes n first is starts second =
    let more = appended_bytes rest bytes in
    let front = take n held in
    let all : held ≡ front ++ rest = sym (take-append-drop n held) ∙ ap (λ (xs : List ℕ). front ++ xs) (sym is) in
    subst (λ (xs : List ℕ). Consumes a c xs)
    (append_assoc before held more
    ∙ ap (λ (xs : List ℕ). before ++ xs)
    (ap (λ (xs : List ℕ). xs ++ more) all ∙ append_assoc front rest more
    ∙ ap (λ (xs : List ℕ). front ++ xs) (sym (starts_with_rest bytes rest starts)))
    ∙ sym (append_assoc before front bytes))
    (Consumes-trans a b c (before ++ held) more first second)
