-- The entries of an ODT and the ODTs of a list, of which one more is looked at.
use Rattle.std.proofs.Common.{◌≡◌, ℕ, ◌+◌, ◌<◌, ◌≤◌, ◌++◌, ◌∷◌, [], List, map, drop, refl, sym, ap, ◌∙◌, arith, Option, Some, None}
use Rattle.std.proofs.lemmas.List.{take-append-drop}
use Rattle.std.proofs.lemmas.List.FromFn.{map-range_with_len_more, take-map-range_with_len}
use Rattle.std.specs.List.{range_with_len}
use Rattle.captured_session.specs.Inner.{entry_behind, odt_behind}
use Rattle.captured_session.specs.Lists.{all_of, with_entry, with_one, written}
use Rattle.captured_session.specs.declared.element.Element.{Element}
use Rattle.captured_session.specs.declared.entry.Entry.{Entry}
use Rattle.captured_session.specs.declared.entry.Entry.TheVariants.{Is, Open, Unwritten}

-- so many of more, and the others
pub front-of : {A : Type 0} (f : ℕ → A) (n k : ℕ) → k ≤ n
    → map f (range_with_len 0 n) ≡ map f (range_with_len 0 k) ++ drop k (map f (range_with_len 0 n))
front-of f n k within =
    sym (take-append-drop k (map f (range_with_len 0 n)))
    ∙ ap (λ xs. xs ++ drop k (map f (range_with_len 0 n))) (take-map-range_with_len f 0 n k within)

pub one-more : {A : Type 0} (f : ℕ → A) (n : ℕ)
    → map f (range_with_len 0 (n + 1)) ≡ map f (range_with_len 0 n) ++ f n ∷ []
one-more f n = map-range_with_len_more f 0 n n (omega arith)

with-behind : (first : Entry) (xs : Option (List Element)) (entry : Entry)
    → with_entry first (entry_behind xs entry) ≡ entry_behind (with_entry first xs) entry
with-behind Open None entry = refl
with-behind Open (Some xs) entry = refl
with-behind Unwritten xs entry = refl
with-behind (Is x) None entry = refl
with-behind (Is x) (Some xs) Open = refl
with-behind (Is x) (Some xs) Unwritten = refl
with-behind (Is x) (Some xs) (Is y) = refl

pub written-behind : (entries : List Entry) (entry : Entry) → written (entries ++ entry ∷ []) ≡ entry_behind (written entries) entry
written-behind [] Open = refl
written-behind [] Unwritten = refl
written-behind [] (Is x) = refl
written-behind (first ∷ entries) entry =
    ap (with_entry first) (written-behind entries entry) ∙ with-behind first (written entries) entry

with-none : (first : Entry) (xs ys : Option (List Element)) → (xs ≡ None → ys ≡ None) → with_entry first xs ≡ None → with_entry first ys ≡ None
with-none Open xs ys go none = refl
with-none Unwritten xs ys go none = refl
with-none (Is x) None ys go none = ap (with_entry (Is x)) (go refl)
with-none (Is x) (Some xs) ys go none = absurd cc

-- an entry that isn't known leaves all unknown
pub written-none : (entries others : List Entry) → written entries ≡ None → written (entries ++ others) ≡ None
written-none [] others none = absurd cc
written-none (first ∷ entries) others none =
    with-none first (written entries) (written (entries ++ others)) (written-none entries others) none

-- the same of ODTs
one-behind : (first : Option (List Element)) (xs : Option (List (List Element))) (x : Option (List Element))
    → with_one first (odt_behind xs x) ≡ odt_behind (with_one first xs) x
one-behind None None x = refl
one-behind None (Some xs) None = refl
one-behind None (Some xs) (Some x) = refl
one-behind (Some a) None x = refl
one-behind (Some a) (Some xs) None = refl
one-behind (Some a) (Some xs) (Some x) = refl

pub all-behind : (odts : List (Option (List Element))) (x : Option (List Element)) → all_of (odts ++ x ∷ []) ≡ odt_behind (all_of odts) x
all-behind [] None = refl
all-behind [] (Some x) = refl
all-behind (first ∷ odts) x = ap (with_one first) (all-behind odts x) ∙ one-behind first (all_of odts) x

one-none : {A : Type 0} (first : Option A) (xs ys : Option (List A)) → (xs ≡ None → ys ≡ None) → with_one first xs ≡ None → with_one first ys ≡ None
one-none None xs None go none = refl
one-none None xs (Some ys) go none = refl
one-none (Some a) None ys go none = ap (with_one (Some a)) (go refl)
one-none (Some a) (Some xs) ys go none = absurd cc

pub all-none : {A : Type 0} (odts others : List (Option A)) → all_of odts ≡ None → all_of (odts ++ others) ≡ None
all-none [] others none = absurd cc
all-none (first ∷ odts) others none = one-none first (all_of odts) (all_of (odts ++ others)) (all-none odts others) none

-- with one entry more
pub next-written : (f : ℕ → Entry) (n : ℕ) (xs : List Element) (entry : Entry) (new : Option (List Element))
    → written (map f (range_with_len 0 n)) ≡ Some xs → entry ≡ f n → entry_behind (Some xs) entry ≡ new
    → written (map f (range_with_len 0 (n + 1))) ≡ new
next-written f n xs entry new before here behind =
    ap written (one-more f n) ∙ written-behind (map f (range_with_len 0 n)) (f n)
    ∙ ap (λ it. entry_behind it (f n)) before ∙ ap (entry_behind (Some xs)) (sym here) ∙ behind

pub never-written : (f : ℕ → Entry) (n k : ℕ) → k < n → written (map f (range_with_len 0 (k + 1))) ≡ None
    → None ≡ written (map f (range_with_len 0 n))
never-written f n k within none =
    sym (ap written (front-of f n (k + 1) (omega (arith, within)))
    ∙ written-none (map f (range_with_len 0 (k + 1))) (drop (k + 1) (map f (range_with_len 0 n))) none)

-- with one ODT more
pub next-odt : (f : ℕ → Option (List Element)) (n : ℕ) (xs : List (List Element)) (odt : Option (List Element)) (new : Option (List (List Element)))
    → all_of (map f (range_with_len 0 n)) ≡ Some xs → odt ≡ f n → odt_behind (Some xs) odt ≡ new
    → all_of (map f (range_with_len 0 (n + 1))) ≡ new
next-odt f n xs odt new before here behind =
    ap all_of (one-more f n) ∙ all-behind (map f (range_with_len 0 n)) (f n)
    ∙ ap (λ it. odt_behind it (f n)) before ∙ ap (odt_behind (Some xs)) (sym here) ∙ behind

pub never-all : (f : ℕ → Option (List Element)) (n k : ℕ) → k < n → all_of (map f (range_with_len 0 (k + 1))) ≡ None
    → None ≡ all_of (map f (range_with_len 0 n))
never-all f n k within none =
    sym (ap all_of (front-of f n (k + 1) (omega (arith, within)))
    ∙ all-none (map f (range_with_len 0 (k + 1))) (drop (k + 1) (map f (range_with_len 0 n))) none)
