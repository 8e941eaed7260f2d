-- The lists of a slave, and what is kept of them.
use Rattle.std.proofs.Common.{◌≡◌, ◌↔◌, ℕ, zero, suc, ◌+◌, ◌<◌, ◌≤◌, ◌++◌, ◌∷◌, [], List, length, map, get_or, set, take, refl, sym, ap, subst, ◌∙◌, arith, Bool, true, false, Option, Some, None}
use Rattle.std.proofs.Common.{IsTrue, ◌||◌, ◌==◌, if◌then◌else◌, cond, filter, is_some, nat_lt, position, OnOk, Result, Ok, Err}
use Rattle.std.specs.List.{list_any, position_or_len}
use Rattle.std.proofs.lemmas.Bool.Decides.{nat_tests}
use Rattle.std.proofs.lemmas.List.Quantifiers.{position-Some}
use Rattle.std.proofs.lemmas.List.Sums.{fails_before_first}
use Rattle.std.proofs.lemmas.List.{append_assoc, append-nil, map-append, take_all, take_more}
use Rattle.std.proofs.lemmas.List.Elements.{filter-append}
use Rattle.captured_session.specs.Alike.{ReadsAlike}
use Rattle.captured_session.specs.Lists.{ListOf, list_at}
use Rattle.captured_session.specs.SetUps.{SetUp}
use Rattle.captured_session.specs.declared.fact.Fact.{Fact}
use Rattle.captured_samples.specs.Places.{odt_in}
use Rattle.captured_samples.specs.Slaves.{Tells, state_of}
use Rattle.captured_samples.specs.Standing.{ListIn, ListsIn, Start, Told, alike_some, and_packet, give, give_if, given_to, hand_if, handed_of, hands}
use Rattle.captured_samples.specs.Standing.{has_list, shown_in, stands, told_fact, told_facts, told_found, told_list, with_fact, with_facts, with_found, with_list}
use Rattle.captured_samples.specs.declared.list_state.ListState.{ListState}

-- tests that hold in the same cases are the same
pub same_test : {A : Type 0} (a b : Bool) → (IsTrue a ↔ A) → (IsTrue b ↔ A) → a ≡ b
same_test true true p q = refl
same_test false false p q = refl
same_test true false p q = sym (q.1 (p.0 refl))
same_test false true p q = p.1 (q.0 refl)

-- the list that a set-up tells, if there is one, is read alike
pub alike-found : (start : Start) (a b f : ListOf) (o : Option ListOf) (is : Bool) → b ≡ a → o ≡ Some f
    → (IsTrue is ↔ ReadsAlike b f) → is ≡ alike_some start a o
alike-found start a b f o is same there tells =
    same_test is (start.alike b f) tells (start.tells b f)
    ∙ ap (λ (l : ListOf). start.alike l f) same ∙ ap (alike_some start a) (sym there)

pub alike-none : (start : Start) (a : ListOf) (o : Option ListOf) → o ≡ None → false ≡ alike_some start a o
alike-none start a o there = ap (alike_some start a) (sym there)

-- of lists as they are kept
pub has_list-kept : (n : ℕ) (xs : List ListIn)
    → list_any (λ (s : ListState). s.samples.list.list == n) (map state_of xs) ≡ has_list n xs
has_list-kept n [] = refl
has_list-kept n (x ∷ later) = ap (λ b. (x.list.list == n) || b) (has_list-kept n later)

-- whether a packet is of a list
abbrev pub owns : List ℕ → ListState → Bool
owns p s = is_some (odt_in s.samples.list p)

-- of the first list that a packet is of, where it stands
pub record Owner (p : List ℕ) (xs : List ListIn) (i : ℕ) (s : ListState) : Type 0 where
  pub x : ListIn
  pub is : s ≡ state_of x
  pub given : map state_of (give p xs) ≡ set (map state_of xs) i (state_of (given_to p x))
  pub told : hands p xs ≡ handed_of x (shown_in (and_packet p x))

first-gives : (p : List ℕ) (x : ListIn) (later : List ListIn) (o : Option ℕ) → is_some o ≡ true
    → map state_of (give_if o x (given_to p x) (give p later) later) ≡ state_of (given_to p x) ∷ map state_of later
first-gives p x later (Some k) own = refl
first-gives p x later None own = absurd cc

first-tells : (own others : List Told) (o : Option ℕ) → is_some o ≡ true → hand_if o own others ≡ own
first-tells own others (Some k) is = refl
first-tells own others None is = absurd cc

later-gives : (p : List ℕ) (x : ListIn) (later : List ListIn) (o : Option ℕ) → is_some o ≡ false
    → give_if o x (given_to p x) (give p later) later ≡ x ∷ give p later
later-gives p x later None other = refl
later-gives p x later (Some k) other = absurd cc

later-tells : (own others : List Told) (o : Option ℕ) → is_some o ≡ false → hand_if o own others ≡ others
later-tells own others None is = refl
later-tells own others (Some k) is = absurd cc

pub owner : (p : List ℕ) (xs : List ListIn) (i : ℕ) (s : ListState) → i < length (map state_of xs)
    → s ≡ get_or (map state_of xs) i s → owns p s ≡ true
    → ((k : ℕ) → k < i → owns p (get_or (map state_of xs) k s) ≡ false) → Owner p xs i s
owner p [] i s lt is own before = absurd (omega arith)
owner p (x ∷ later) zero s lt is own before =
    let first : is_some (odt_in x.list p) ≡ true = ap (owns p) (sym is) ∙ own in
    record {
      x = x;
      is = is;
      given = first-gives p x later (odt_in x.list p) first;
      told = first-tells (handed_of x (shown_in (and_packet p x))) (hands p later) (odt_in x.list p) first;
    }
owner p (x ∷ later) (suc i) s lt is own before =
    let other : is_some (odt_in x.list p) ≡ false = before 0 (omega arith) in
    let rest = owner p later i s (omega arith) is own (λ k below. before (suc k) (omega arith)) in
    record {
      x = rest.x;
      is = rest.is;
      given = ap (map state_of) (later-gives p x later (odt_in x.list p) other) ∙ ap (λ ys. state_of x ∷ ys) rest.given;
      told = later-tells (handed_of x (shown_in (and_packet p x))) (hands p later) (odt_in x.list p) other ∙ rest.told;
    }

pub nobody-gives : (p : List ℕ) (xs : List ListIn) (d : ListState)
    → ((k : ℕ) → k < length (map state_of xs) → owns p (get_or (map state_of xs) k d) ≡ false)
    → (give p xs ≡ xs) × (hands p xs ≡ [])
nobody-gives p [] d none = (refl, refl)
nobody-gives p (x ∷ later) d none =
    let other : is_some (odt_in x.list p) ≡ false = none 0 (omega arith) in
    let rest = nobody-gives p later d (λ k below. none (suc k) (omega arith)) in (
      later-gives p x later (odt_in x.list p) other ∙ ap (λ ys. x ∷ ys) rest.0,
      later-tells (handed_of x (shown_in (and_packet p x))) (hands p later) (odt_in x.list p) other ∙ rest.1,
    )

-- one fact more
pub facts-behind : (s : SetUp) (fs : List Fact) (f : Fact) (ls : ListsIn)
    → with_facts s (fs ++ f ∷ []) ls ≡ with_fact s f (with_facts s fs ls)
facts-behind s [] f ls = refl
facts-behind s (g ∷ fs) f ls = facts-behind s fs f (with_fact s g ls)

pub told-behind : (s : SetUp) (fs : List Fact) (f : Fact) (ls : ListsIn)
    → told_facts s (fs ++ f ∷ []) ls ≡ told_facts s fs ls ++ told_fact s f (with_facts s fs ls)
told-behind s [] f ls = append-nil (told_fact s f ls)
told-behind s (g ∷ fs) f ls =
    ap (λ ts. told_fact s g ls ++ ts) (told-behind s fs f (with_fact s g ls))
    ∙ sym (append_assoc (told_fact s g ls) (told_facts s fs (with_fact s g ls)) (told_fact s f (with_facts s fs (with_fact s g ls))))

-- of lists that are kept, those before the last and the last
pub record HasLast (xs : List ListIn) (before : List ListState) (s : ListState) : Type 0 where
  pub earlier : List ListIn
  pub x : ListIn
  pub is : xs ≡ earlier ++ x ∷ []
  pub others : before ≡ map state_of earlier
  pub last : s ≡ state_of x

pub has_last : (xs : List ListIn) (before : List ListState) (s : ListState) → before ++ s ∷ [] ≡ map state_of xs
    → HasLast xs before s
has_last [] [] s e = absurd cc
has_last [] (b ∷ before) s e = absurd cc
has_last (x ∷ []) [] s e = record { earlier = []; x = x; is = refl; others = refl; last = cc }
has_last (x ∷ y ∷ later) [] s e = absurd cc
has_last (x ∷ later) (b ∷ before) s e =
    let more : before ++ s ∷ [] ≡ map state_of later = cc in
    let same : b ≡ state_of x = cc in
    let rest = has_last later before s more in
    record {
      earlier = x ∷ rest.earlier;
      x = rest.x;
      is = ap (λ ys. x ∷ ys) rest.is;
      others = ap (λ t. t ∷ before) same ∙ ap (λ ts. state_of x ∷ ts) rest.others;
      last = rest.last;
    }

-- by the place that is found
pub owner-at : (p : List ℕ) (xs : List ListIn) (ys : List ListState) (i : ℕ) (s : ListState) → ys ≡ map state_of xs
    → position (owns p) ys ≡ Some i → s ≡ get_or ys i s → Owner p xs i s
owner-at p xs ys i s e found is =
    let here : s ≡ get_or (map state_of xs) i s = is ∙ ap (λ (zs : List ListState). get_or zs i s) e in
    let facts = position-Some (owns p) (map state_of xs) i s (ap (position (owns p)) (sym e) ∙ found) in
    owner p xs i s facts.0 here (ap (owns p) here ∙ facts.1) facts.2

pub owned-at : (p : List ℕ) (ys : List ListState) (i : ℕ) (s : ListState) → position (owns p) ys ≡ Some i
    → is_some (odt_in (get_or ys i s).samples.list p) ≡ true
owned-at p ys i s found = (position-Some (owns p) ys i s found).1

before-none : (b : Bool) (n len k : ℕ) → nat_lt n len ≡ b → cond b (Some n) None ≡ None → k < len → k < n
before-none true n len k test none lt = absurd cc
before-none false n len k test none lt = grind (arith, nat_tests)

pub none-gives : (p : List ℕ) (xs : List ListIn) (ys : List ListState) → ys ≡ map state_of xs → position (owns p) ys ≡ None
    → (give p xs ≡ xs) × (hands p xs ≡ [])
none-gives p [] ys e none = (refl, refl)
none-gives p (x ∷ later) ys e none =
    let all : List ListState = map state_of (x ∷ later) in
    let never : position (owns p) all ≡ None = ap (position (owns p)) (sym e) ∙ none in
    nobody-gives p (x ∷ later) (state_of x)
    (λ k lt. fails_before_first (owns p) all k (state_of x)
    (before-none (nat_lt (position_or_len (owns p) all) (length all)) (position_or_len (owns p) all) (length all) k refl never lt))

-- what follows from what is promised if all goes well
pub on_ok : {T E A B : Type 0} (r : Result T E) → (A → B) → OnOk r A → OnOk r B
on_ok (Ok t) f a = f a
on_ok (Err e) f a = a

-- nothing more was told, or in two steps
pub tells-nothing : (t : List Told → Type 0) (ts : List Told) → ts ≡ [] → Tells t t ts
tells-nothing t ts none before was = subst t (sym (append-nil before) ∙ ap (λ (us : List Told). before ++ us) (sym none)) was

pub tells-both : (a b c : List Told → Type 0) (ts us : List Told) → Tells a b ts → Tells b c us → Tells a c (ts ++ us)
tells-both a b c ts us first second before was = subst c (append_assoc before ts us) (second (before ++ ts) (first before was))

pub if-true : {A : Type 0} (b : Bool) (x y : A) → b ≡ true → (if b then x else y) ≡ x
if-true true x y is = refl
if-true false x y is = absurd cc

pub if-false : {A : Type 0} (b : Bool) (x y : A) → b ≡ false → (if b then x else y) ≡ y
if-false false x y is = refl
if-false true x y is = absurd cc

-- a list of this number is there, or isn't
pub has-by : (n : ℕ) (xs : List ListIn) (ys : List ListState) (is : Bool)
    → is ≡ list_any (λ (s : ListState). s.samples.list.list == n) ys → ys ≡ map state_of xs → has_list n xs ≡ is
has-by n xs ys is test e =
    sym (test ∙ ap (λ (zs : List ListState). list_any (λ (s : ListState). s.samples.list.list == n) zs) e ∙ has_list-kept n xs)

pub with-there : (s : SetUp) (n : ℕ) (ls : ListsIn) → has_list n ls.lists ≡ true
    → (with_list s n ls ≡ ls) × (told_list s n ls ≡ [])
with-there s n ls there = (
  if-true (has_list n ls.lists) ls (with_found ls (list_at s n)) there,
  if-true (has_list n ls.lists) [] (told_found ls (list_at s n)) there,
)

pub with-new : (s : SetUp) (n : ℕ) (ls : ListsIn) (o : Option ListOf) → has_list n ls.lists ≡ false → list_at s n ≡ o
    → (with_list s n ls ≡ with_found ls o) × (told_list s n ls ≡ told_found ls o)
with-new s n ls o there found = (
  if-false (has_list n ls.lists) ls (with_found ls (list_at s n)) there ∙ ap (with_found ls) found,
  if-false (has_list n ls.lists) [] (told_found ls (list_at s n)) there ∙ ap (told_found ls) found,
)

-- whether the last one stands
pub stands-last : (start : Start) (s : SetUp) (x : ListIn) (l : ListState) (is : Bool) → l ≡ state_of x
    → is ≡ alike_some start l.samples.list (list_at s l.samples.list.list) → stands start s x ≡ is
stands-last start s x l is same test =
    sym (test ∙ ap (λ (m : ListState). alike_some start m.samples.list (list_at s m.samples.list.list)) same)

filter-one : (f : ListIn → Bool) (x : ListIn) (b : Bool) → f x ≡ b → filter f (x ∷ []) ≡ cond b (x ∷ []) []
filter-one f x b is = ap (λ (c : Bool). cond c (x ∷ []) []) is

pub kept-more : (f : ListIn → Bool) (xs : List ListIn) (before kept new : List ListState) (l : ListState) (last : HasLast xs before l)
    → f last.x ≡ true → kept ≡ map state_of (filter f last.earlier) → new ≡ kept ++ l ∷ [] → new ≡ map state_of (filter f xs)
kept-more f xs before kept new l last is was more =
    more ∙ ap (λ (ys : List ListState). ys ++ l ∷ []) was
    ∙ ap (λ (y : ListState). map state_of (filter f last.earlier) ++ y ∷ []) last.last
    ∙ sym (map-append state_of (filter f last.earlier) (last.x ∷ []))
    ∙ ap (λ (ys : List ListIn). map state_of (filter f last.earlier ++ ys)) (sym (filter-one f last.x true is))
    ∙ ap (map state_of) (sym (filter-append f last.earlier (last.x ∷ [])))
    ∙ ap (λ (ys : List ListIn). map state_of (filter f ys)) (sym last.is)

pub kept-same : (f : ListIn → Bool) (xs : List ListIn) (before kept : List ListState) (l : ListState) (last : HasLast xs before l)
    → f last.x ≡ false → kept ≡ map state_of (filter f last.earlier) → kept ≡ map state_of (filter f xs)
kept-same f xs before kept l last is was =
    was ∙ ap (map state_of) (sym (append-nil (filter f last.earlier)))
    ∙ ap (λ (ys : List ListIn). map state_of (filter f last.earlier ++ ys)) (sym (filter-one f last.x false is))
    ∙ ap (map state_of) (sym (filter-append f last.earlier (last.x ∷ [])))
    ∙ ap (λ (ys : List ListIn). map state_of (filter f ys)) (sym last.is)

pub kept-none : (f : ListIn → Bool) (xs : List ListIn) → [] ≡ map state_of xs → [] ≡ map state_of (filter f xs)
kept-none f [] e = refl
kept-none f (x ∷ xs) e = absurd cc

-- one fact more, at a place
pub facts-more : (s : SetUp) (fs : List Fact) (i : ℕ) (f : Fact) (ls : ListsIn) → i < length fs → f ≡ get_or fs i f
    → (with_facts s (take (i + 1) fs) ls ≡ with_fact s f (with_facts s (take i fs) ls))
    × (told_facts s (take (i + 1) fs) ls ≡ told_facts s (take i fs) ls ++ told_fact s f (with_facts s (take i fs) ls))
facts-more s fs i f ls lt is =
    let split : take (i + 1) fs ≡ take i fs ++ f ∷ [] =
    take_more fs i f lt ∙ ap (λ (g : Fact). take i fs ++ g ∷ []) (sym is) in (
      ap (λ (gs : List Fact). with_facts s gs ls) split ∙ facts-behind s (take i fs) f ls,
      ap (λ (gs : List Fact). told_facts s gs ls) split ∙ told-behind s (take i fs) f ls,
    )

pub all-facts : (fs gs : List Fact) (i : ℕ) → gs ≡ fs → length gs ≤ i → take i fs ≡ fs
all-facts fs gs i same far = take_all i fs (subst (λ (hs : List Fact). length hs ≤ i) same far)
