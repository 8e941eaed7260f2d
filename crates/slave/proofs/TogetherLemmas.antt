-- Packets that are laid out together, and where those are from whose last packet is one of some.
use Rattle.std.proofs.Common.{◌≡◌, ℕ, zero, suc, ◌+◌, ◌<◌, ◌≤◌, Bool, true, false, ◌&&◌, if◌then◌else◌, List, [], ◌∷◌, ◌++◌, drop, length, refl, ap, ◌∙◌, arith}
use Rattle.std.specs.Prelude.{count_by, filter}
use Rattle.std.specs.List.{AllByRecursion}
use Rattle.std.proofs.lemmas.List.Sums.{sum_by-append, sum_by-cons}
use Rattle.slave_outbox.specs.Outboxes.{Laid, is_none, origins_in, packets_in, together}
use Rattle.slave_outbox.specs.declared.origin.Origin.{Origin}

pub length-together : (o : Origin) (qs : List (List ℕ)) → length (together o qs) ≡ length qs
length-together o [] = refl
length-together o (q ∷ qs) = omega (arith, length-together o qs)

pub packets-together : (o : Origin) (qs : List (List ℕ)) → packets_in (together o qs) ≡ qs
packets-together o [] = refl
packets-together o (q ∷ qs) = ap (λ rs. q ∷ rs) (packets-together o qs)

-- what holds of where they are from, or of each packet, holds of each
pub all-from : (P : Origin → Type 0) (o : Origin) (qs : List (List ℕ)) → P o → AllByRecursion (λ (x : Laid). P x.origin) (together o qs)
all-from P o [] is = tt
all-from P o (q ∷ qs) is = (is, all-from P o qs is)

pub all-packets : (P : List ℕ → Type 0) (o : Origin) (qs : List (List ℕ)) → AllByRecursion P qs → AllByRecursion (λ (x : Laid). P x.packet) (together o qs)
all-packets P o [] all = tt
all-packets P o (q ∷ qs) all = (all.0, all-packets P o qs all.1)

-- those from there are all of them, or none
pub filter-here : (test : Origin → Bool) (o : Origin) (qs : List (List ℕ)) → test o ≡ true → filter (λ (x : Laid). test x.origin) (together o qs) ≡ together o qs
filter-here test o [] is = refl
filter-here test o (q ∷ qs) is =
    let x : Laid = record { origin = o; packet = q; last = is_none qs } in
    let rest : List Laid = filter (λ (y : Laid). test y.origin) (together o qs) in
    ap (λ b. if b then x ∷ rest else rest) is ∙ ap (λ xs. x ∷ xs) (filter-here test o qs is)

pub filter-else : (test : Origin → Bool) (o : Origin) (qs : List (List ℕ)) → test o ≡ false → filter (λ (x : Laid). test x.origin) (together o qs) ≡ []
filter-else test o [] is = refl
filter-else test o (q ∷ qs) is =
    let x : Laid = record { origin = o; packet = q; last = is_none qs } in
    let rest : List Laid = filter (λ (y : Laid). test y.origin) (together o qs) in
    ap (λ b. if b then x ∷ rest else rest) is ∙ filter-else test o qs is

-- one of them is the last
pub origins-together : (o : Origin) (qs : List (List ℕ)) → 0 < length qs → origins_in (together o qs) ≡ o ∷ []
origins-together o [] some = absurd (omega (arith, some))
origins-together o (q ∷ []) some = refl
origins-together o (q ∷ r ∷ rs) some = origins-together o (r ∷ rs) (omega arith)

pub origins-append : (xs ys : List Laid) → origins_in (xs ++ ys) ≡ origins_in xs ++ origins_in ys
origins-append [] ys = refl
origins-append (x ∷ xs) ys =
    let more = origins-append xs ys in
    elim x.last as (λ b. (if b then x.origin ∷ origins_in (xs ++ ys) else origins_in (xs ++ ys)) ≡ (if b then x.origin ∷ origins_in xs else origins_in xs) ++ origins_in ys) [
      | true ↦ ap (λ os. x.origin ∷ os) more
      | false ↦ more
    ]

pub count-origins-append : (p : Origin → Bool) (xs ys : List Laid) → count_by p (origins_in (xs ++ ys)) ≡ count_by p (origins_in xs) + count_by p (origins_in ys)
count-origins-append p xs ys =
    ap (count_by p) (origins-append xs ys) ∙ sum_by-append (λ x. if p x then 1 else 0) (origins_in xs) (origins_in ys)

pub count-origins-drop : (p : Origin → Bool) (n : ℕ) (xs : List Laid) → count_by p (origins_in (drop n xs)) ≤ count_by p (origins_in xs)
count-origins-drop p zero xs = omega arith
count-origins-drop p (suc n) [] = omega arith
count-origins-drop p (suc n) (x ∷ xs) =
    let before = count-origins-drop p n xs in
    let more = sum_by-cons (λ o. if p o then 1 else 0) x.origin (origins_in xs) in
    elim x.last as (λ b. count_by p (origins_in (drop n xs)) ≤ count_by p (if b then x.origin ∷ origins_in xs else origins_in xs)) [
      | true ↦ omega (arith, before, more)
      | false ↦ before
    ]

-- those that are last ones, and from there
pub count-ends : (p : Origin → Bool) (xs : List Laid) → count_by (λ (x : Laid). x.last && p x.origin) xs ≡ count_by p (origins_in xs)
count-ends p [] = refl
count-ends p (x ∷ xs) =
    let before = count-ends p xs in
    let more = sum_by-cons (λ o. if p o then 1 else 0) x.origin (origins_in xs) in
    sum_by-cons (λ (y : Laid). if y.last && p y.origin then 1 else 0) x xs
    ∙ elim x.last as (λ b. (if b && p x.origin then 1 else 0) + count_by (λ (y : Laid). y.last && p y.origin) xs ≡ count_by p (if b then x.origin ∷ origins_in xs else origins_in xs)) [
      | true ↦ omega (arith, before, more)
      | false ↦ omega (arith, before)
    ]

-- a test of two parts, of those that pass the first
pub count-filter : (p q : Origin → Bool) (xs : List Laid)
    → count_by (λ (x : Laid). x.last && (p x.origin && q x.origin)) xs ≡ count_by (λ (x : Laid). x.last && q x.origin) (filter (λ (x : Laid). p x.origin) xs)
count-filter p q [] = refl
count-filter p q (x ∷ xs) =
    let before = count-filter p q xs in
    let rest : List Laid = filter (λ (y : Laid). p y.origin) xs in
    let more = sum_by-cons (λ (y : Laid). if y.last && q y.origin then 1 else 0) x rest in
    let and_false : (e : Bool) → (if e && false then 1 else 0) ≡ 0 = λ e. elim e as (λ b. ◌≡◌ {A = ℕ} (if b && false then 1 else 0) 0) [ true ↦ refl | false ↦ refl ] in
    sum_by-cons (λ (y : Laid). if y.last && (p y.origin && q y.origin) then 1 else 0) x xs
    ∙ elim (p x.origin) as (λ b.
    (if x.last && (b && q x.origin) then 1 else 0) + count_by (λ (y : Laid). y.last && (p y.origin && q y.origin)) xs
    ≡ count_by (λ (y : Laid). y.last && q y.origin) (if b then x ∷ rest else rest)) [
      | true ↦ omega (arith, before, more)
      | false ↦ omega (arith, before, and_false x.last)
    ]
