-- The lists that a set-up tells: to read them once more changes nothing.
use Rattle.std.proofs.Common.{◌≡◌, ◌⊎◌, ℕ, ◌++◌, ◌∷◌, [], List, map, refl, sym, ap, ◌∙◌, Bool, true, false, Option, Some, None}
use Rattle.std.proofs.Common.{◌||◌, ◌&&◌, ◌==◌, if◌then◌else◌, cond, filter, inl, inr}
use Rattle.std.specs.List.{list_all}
use Rattle.std.proofs.lemmas.Bool.{eq-eqb}
use Rattle.std.proofs.lemmas.List.{append_assoc, append-nil, map-append}
use Rattle.std.proofs.lemmas.List.Folds.{list_all-append, list_any-append}
use Rattle.std.proofs.lemmas.Option.{same_Some}
use Rattle.captured_session.specs.Alike.{ReadsAlike, SamePids}
use Rattle.captured_session.specs.Lists.{ListOf, is_plain, is_told, has_pids, list_at, list_of}
use Rattle.captured_session.specs.SetUps.{SetUp}
use Rattle.captured_session.specs.declared.element.Element.{Element}
use Rattle.captured_session.specs.declared.fact.Fact.{Fact}
use Rattle.captured_session.specs.declared.fact.Fact.TheVariants.{Cleared, Entries, Entry, FirstPid, LostAll, LostList, LostOdt, Mode, Odts}
use Rattle.captured_session.specs.declared.form.Form.{Form}
use Rattle.captured_session.specs.declared.id_field.IdField.{IdField}
use Rattle.captured_session.specs.declared.id_field.IdField.TheVariants.{Absolute, RelativeByte, RelativeWord, RelativeWordAligned}
use Rattle.captured_session.specs.declared.list_mode.ListMode.{ListMode}
use Rattle.captured_samples.specs.Inner.{broken_state, marked_state}
use Rattle.captured_samples.specs.Places.{odt_in}
use Rattle.captured_samples.specs.Slaves.{AllMet, AllRead, IsMet, StatesOf, lists_in, state_of, states_of}
use Rattle.captured_samples.specs.Standing.{ListIn, ListsIn, Start, Told, alike_some, begins_anew, broken, for_each, give, give_if, given_to, has_list, has_number}
use Rattle.captured_samples.specs.Standing.{marked, read_anew, stands, stands_in, still, told_fact, told_facts, told_list, with_fact, with_facts, with_found, with_list}
use Rattle.captured_samples.specs.declared.list_state.ListState.{ListState}
use Rattle.captured_samples.proofs.ListsLemmas.{with-new, with-there}

-- behind a gap, as it is kept
pub marked-kept : (xs : List ListIn) → map marked_state (map state_of xs) ≡ map state_of (map marked xs)
marked-kept [] = refl
marked-kept (x ∷ later) = ap (λ (ys : List ListState). state_of (marked x) ∷ ys) (marked-kept later)

pub broken-kept : (xs : List ListIn) → map broken_state (map state_of xs) ≡ map state_of (map broken xs)
broken-kept [] = refl
broken-kept (x ∷ later) = ap (λ (ys : List ListState). state_of (broken x) ∷ ys) (broken-kept later)

-- the lists stay behind a gap, and with a packet
pub lists-marked : (xs : List ListIn) → map (λ (x : ListIn). x.list) (map marked xs) ≡ map (λ (x : ListIn). x.list) xs
lists-marked [] = refl
lists-marked (x ∷ later) = ap (λ (ls : List ListOf). x.list ∷ ls) (lists-marked later)

pub lists-broken : (xs : List ListIn) → map (λ (x : ListIn). x.list) (map broken xs) ≡ map (λ (x : ListIn). x.list) xs
lists-broken [] = refl
lists-broken (x ∷ later) = ap (λ (ls : List ListOf). x.list ∷ ls) (lists-broken later)

lists-if : (p : List ℕ) (x : ListIn) (later others : List ListIn) (o : Option ℕ)
    → map (λ (x : ListIn). x.list) others ≡ map (λ (x : ListIn). x.list) later
    → map (λ (x : ListIn). x.list) (give_if o x (given_to p x) others later) ≡ x.list ∷ map (λ (x : ListIn). x.list) later
lists-if p x later others None same = ap (λ (ls : List ListOf). x.list ∷ ls) same
lists-if p x later others (Some k) same = refl

pub lists-given : (p : List ℕ) (xs : List ListIn) → map (λ (x : ListIn). x.list) (give p xs) ≡ map (λ (x : ListIn). x.list) xs
lists-given p [] = refl
lists-given p (x ∷ later) = lists-if p x later (give p later) (odt_in x.list p) (lists-given p later)

-- a list has the number that was asked for
number-if : (b : Bool) (l f : ListOf) (n : ℕ) → l.list ≡ n → (if b then Some l else None) ≡ Some f → f.list ≡ n
number-if true l f n is e = ap (λ (x : ListOf). x.list) (sym (same_Some l f e)) ∙ is
number-if false l f n is e = absurd cc

number-of : (form : Form) (n : ℕ) (m : Option ListMode) (first : Option ℕ) (odts : Option (List (List Element))) (f : ListOf)
    → list_of form n m first odts ≡ Some f → f.list ≡ n
number-of form n (Some mode) first (Some odts) f e =
    number-if (is_told form mode && is_plain form mode && has_pids form.field first)
    (record { list = n; form = form; mode = mode; first_pid = first; odts = odts }) f n refl e
number-of form n (Some mode) first None f e = absurd cc
number-of form n None first odts f e = absurd cc

pub number-told : (s : SetUp) (n : ℕ) (f : ListOf) → list_at s n ≡ Some f → f.list ≡ n
number-told s n f e = number-of s.form n _ _ _ f e

-- a list is read as it is
same-pids : (field : IdField) (a : Option ℕ) → SamePids field a a
same-pids Absolute a = refl
same-pids RelativeByte a = tt
same-pids RelativeWord a = tt
same-pids RelativeWordAligned a = tt

pub reads-same : (l : ListOf) → ReadsAlike l l
reads-same l = record { list = refl; form = refl; mode = refl; pids = same-pids l.form.field l.first_pid; odts = refl }

pub stands-told : (start : Start) (s : SetUp) (n : ℕ) (f : ListOf) → list_at s n ≡ Some f → stands_in start s f ≡ true
stands-told start s n f e =
    let there : list_at s f.list ≡ Some f = ap (list_at s) (number-told s n f e) ∙ e in
    ap (alike_some start f) there ∙ (start.tells f f).1 (reads-same f)

-- tests of all, with one more
pub both-true : (a b : Bool) → (a && b) ≡ true → (a ≡ true) × (b ≡ true)
both-true true b e = (refl, e)
both-true false b e = absurd cc

and-true : (a b : Bool) → a ≡ true → b ≡ true → (a && b) ≡ true
and-true a b p q = ap (λ (c : Bool). c && b) p ∙ q

all-push : (f : ListOf → Bool) (xs : List ListOf) (x : ListOf) → list_all f xs ≡ true → f x ≡ true
    → list_all f (xs ++ x ∷ []) ≡ true
all-push f xs x all is =
    list_all-append f xs (x ∷ []) ∙ and-true (list_all f xs) (f x && true) all (and-true (f x) true is refl)

-- with one fact more the lists are these and others
pub record Grows (old new : List ListOf) : Type 0 where
  pub more : List ListOf
  pub is : new ≡ old ++ more

pub grows-none : (old : List ListOf) → Grows old old
grows-none old = record { more = []; is = sym (append-nil old) }

pub grows-both : (a b c : List ListOf) → Grows a b → Grows b c → Grows a c
grows-both a b c first second = record {
  more = first.more ++ second.more;
  is = second.is ∙ ap (λ (xs : List ListOf). xs ++ second.more) first.is ∙ append_assoc a first.more second.more;
}

lists-found : (ls : ListsIn) (f : ListOf) → lists_in (with_found ls (Some f)) ≡ lists_in ls ++ f ∷ []
lists-found ls f =
    map-append (λ (x : ListIn). x.list) ls.lists (record { number = ls.begun; list = f; came = []; gap = false } ∷ [])

-- the lists that stand, and what is said of the list of a number
pub record Begins (start : Start) (s : SetUp) (n : ℕ) (old new : ListsIn) : Type 0 where
  pub grows : Grows (lists_in old) (lists_in new)
  pub stand : list_all (stands_in start s) (lists_in old) ≡ true → list_all (stands_in start s) (lists_in new) ≡ true
  pub met : (has_number n (lists_in new) ≡ true) ⊎ (list_at s n ≡ None)

has-last : (n : ℕ) (xs : List ListOf) (f : ListOf) → f.list ≡ n → has_number n (xs ++ f ∷ []) ≡ true
has-last n xs f is =
    list_any-append (λ (l : ListOf). l.list == n) xs (f ∷ [])
    ∙ ap (λ (b : Bool). has_number n xs || (b || false)) (eq-eqb f.list n is) ∙ or-true (has_number n xs)
  where
    or-true : (b : Bool) → (b || (true || false)) ≡ true
    or-true true = refl
    or-true false = refl

begins-found : (start : Start) (s : SetUp) (n : ℕ) (ls : ListsIn) (o : Option ListOf) → list_at s n ≡ o
    → Begins start s n ls (with_found ls o)
begins-found start s n ls None e =
    record { grows = grows-none (lists_in ls); stand = λ all. all; met = inr e }
begins-found start s n ls (Some f) e = record {
  grows = record { more = f ∷ []; is = lists-found ls f };
  stand = λ all. ap (list_all (stands_in start s)) (lists-found ls f)
      ∙ all-push (stands_in start s) (lists_in ls) f all (stands-told start s n f e);
  met = inl (ap (has_number n) (lists-found ls f) ∙ has-last n (lists_in ls) f (number-told s n f e));
}

begins-if : (start : Start) (s : SetUp) (n : ℕ) (ls : ListsIn) (b : Bool) → has_list n ls.lists ≡ b
    → Begins start s n ls (if b then ls else with_found ls (list_at s n))
begins-if start s n ls true there =
    record { grows = grows-none (lists_in ls); stand = λ all. all; met = inl there }
begins-if start s n ls false there = begins-found start s n ls (list_at s n) refl

-- the same of a fact, and of facts
pub record Goes (start : Start) (s : SetUp) (f : Fact) (old new : ListsIn) : Type 0 where
  pub grows : Grows (lists_in old) (lists_in new)
  pub stand : list_all (stands_in start s) (lists_in old) ≡ true → list_all (stands_in start s) (lists_in new) ≡ true
  pub met : IsMet s f (lists_in new)

goes-same : (start : Start) (s : SetUp) (f : Fact) (ls : ListsIn) → IsMet s f (lists_in ls) → Goes start s f ls ls
goes-same start s f ls met = record { grows = grows-none (lists_in ls); stand = λ all. all; met = met }

pub goes : (start : Start) (s : SetUp) (f : Fact) (ls : ListsIn) → Goes start s f ls (with_fact s f ls)
goes start s (Odts n count) ls =
    let b = begins-if start s n ls (has_list n ls.lists) refl in
    record { grows = b.grows; stand = b.stand; met = b.met }
goes start s (Entries l o n) ls = goes-same start s (Entries l o n) ls tt
goes start s (Entry l o e x) ls = goes-same start s (Entry l o e x) ls tt
goes start s (Cleared l) ls = goes-same start s (Cleared l) ls tt
goes start s (Mode l m) ls = goes-same start s (Mode l m) ls tt
goes start s (FirstPid l p) ls = goes-same start s (FirstPid l p) ls tt
goes start s (LostOdt l o) ls = goes-same start s (LostOdt l o) ls tt
goes start s (LostList l) ls = goes-same start s (LostList l) ls tt
goes start s LostAll ls = goes-same start s LostAll ls tt

-- what is met stays so as lists are added
has-more : (n : ℕ) (xs ys : List ListOf) → has_number n xs ≡ true → has_number n (xs ++ ys) ≡ true
has-more n xs ys there =
    list_any-append (λ (l : ListOf). l.list == n) xs ys ∙ ap (λ (b : Bool). b || has_number n ys) there

met-more : (s : SetUp) (f : Fact) (old new : List ListOf) → Grows old new → IsMet s f old → IsMet s f new
met-more s (Odts n count) old new g (inl there) = inl (ap (has_number n) g.is ∙ has-more n old g.more there)
met-more s (Odts n count) old new g (inr none) = inr none
met-more s (Entries l o n) old new g met = tt
met-more s (Entry l o e x) old new g met = tt
met-more s (Cleared l) old new g met = tt
met-more s (Mode l m) old new g met = tt
met-more s (FirstPid l p) old new g met = tt
met-more s (LostOdt l o) old new g met = tt
met-more s (LostList l) old new g met = tt
met-more s LostAll old new g met = tt

pub record GoAll (start : Start) (s : SetUp) (fs : List Fact) (old new : ListsIn) : Type 0 where
  pub grows : Grows (lists_in old) (lists_in new)
  pub stand : list_all (stands_in start s) (lists_in old) ≡ true → list_all (stands_in start s) (lists_in new) ≡ true
  pub met : AllMet s fs (lists_in new)

pub go-all : (start : Start) (s : SetUp) (fs : List Fact) (ls : ListsIn) → GoAll start s fs ls (with_facts s fs ls)
go-all start s [] ls = record { grows = grows-none (lists_in ls); stand = λ all. all; met = tt }
go-all start s (f ∷ fs) ls =
    let one = goes start s f ls in
    let rest = go-all start s fs (with_fact s f ls) in
    record {
      grows = grows-both (lists_in ls) (lists_in (with_fact s f ls)) (lists_in (with_facts s fs (with_fact s f ls))) one.grows rest.grows;
      stand = λ all. rest.stand (one.stand all);
      met = (met-more s f (lists_in (with_fact s f ls)) (lists_in (with_facts s fs (with_fact s f ls))) rest.grows one.met, rest.met);
    }

-- those that still stand do
still-if : (start : Start) (s : SetUp) (x : ListIn) (later : List ListIn) (b : Bool) → stands_in start s x.list ≡ b
    → list_all (stands_in start s) (map (λ (x : ListIn). x.list) later) ≡ true
    → list_all (stands_in start s) (map (λ (x : ListIn). x.list) (cond b (x ∷ later) later)) ≡ true
still-if start s x later true is all = and-true (stands_in start s x.list) _ is all
still-if start s x later false is all = all

pub still-stand : (start : Start) (s : SetUp) (xs : List ListIn)
    → list_all (stands_in start s) (map (λ (x : ListIn). x.list) (filter (stands start s) xs)) ≡ true
still-stand start s [] = refl
still-stand start s (x ∷ later) =
    still-if start s x (filter (stands start s) later) (stands start s x) refl (still-stand start s later)

-- the lists that were read are those that the set-up tells
pub all_read : (start : Start) (s : SetUp) (ls : ListsIn) → AllRead start s (lists_in (read_anew start s ls))
all_read start s ls =
    let all = go-all start s s.facts (still start s ls) in
    record { stand = all.stand (still-stand start s ls.lists); met = all.met }

-- and to read them once more changes nothing
filter-all : (start : Start) (s : SetUp) (xs : List ListIn)
    → list_all (stands_in start s) (map (λ (x : ListIn). x.list) xs) ≡ true → filter (stands start s) xs ≡ xs
filter-all start s [] all = refl
filter-all start s (x ∷ later) all =
    let parts = both-true (stands_in start s x.list) (list_all (stands_in start s) (map (λ (x : ListIn). x.list) later)) all in
    ap (λ (b : Bool). cond b (x ∷ filter (stands start s) later) (filter (stands start s) later)) parts.0
    ∙ ap (λ (ys : List ListIn). x ∷ ys) (filter-all start s later parts.1)

one-same : (s : SetUp) (f : Fact) (ls : ListsIn) → IsMet s f (lists_in ls) → (with_fact s f ls ≡ ls) × (told_fact s f ls ≡ [])
one-same s (Odts n count) ls (inl there) = with-there s n ls there
one-same s (Odts n count) ls (inr none) = none-same (has_list n ls.lists) refl
  where
    none-same : (b : Bool) → has_list n ls.lists ≡ b → (with_list s n ls ≡ ls) × (told_list s n ls ≡ [])
    none-same true there = with-there s n ls there
    none-same false there = with-new s n ls None there none
one-same s (Entries l o n) ls met = (refl, refl)
one-same s (Entry l o e x) ls met = (refl, refl)
one-same s (Cleared l) ls met = (refl, refl)
one-same s (Mode l m) ls met = (refl, refl)
one-same s (FirstPid l p) ls met = (refl, refl)
one-same s (LostOdt l o) ls met = (refl, refl)
one-same s (LostList l) ls met = (refl, refl)
one-same s LostAll ls met = (refl, refl)

facts-same : (s : SetUp) (fs : List Fact) (ls : ListsIn) → AllMet s fs (lists_in ls)
    → (with_facts s fs ls ≡ ls) × (told_facts s fs ls ≡ [])
facts-same s [] ls met = (refl, refl)
facts-same s (f ∷ fs) ls met =
    let one = one-same s f ls met.0 in
    let rest = facts-same s fs ls met.1 in (
      ap (with_facts s fs) one.0 ∙ rest.0,
      ap (λ (ts : List Told). ts ++ told_facts s fs (with_fact s f ls)) one.1 ∙ ap (told_facts s fs) one.0 ∙ rest.1,
    )

pub read-same : (start : Start) (s : SetUp) (ls : ListsIn) → AllRead start s (lists_in ls)
    → (read_anew start s ls ≡ ls) × (begins_anew start s ls ≡ [])
read-same start s ls read =
    let all : still start s ls ≡ ls = ap (λ (xs : List ListIn). record ls { lists = xs }) (filter-all start s ls.lists read.stand) in
    let facts = facts-same s s.facts ls read.met in
    (ap (with_facts s s.facts) all ∙ facts.0, ap (told_facts s s.facts) all ∙ facts.1)

-- each list behind a gap, as all are kept
states-same : (xs ys : List ListState) (n m : ℕ) → xs ≡ ys → n ≡ m
    → ◌≡◌ {A = StatesOf} (record { lists = xs; begun = n }) (record { lists = ys; begun = m })
states-same xs ys n m a b = cc

pub each-kept : (f : ListState → ListState) (g : ListIn → ListIn) (v : StatesOf) (ls : ListsIn) (old new : List ListState)
    → v ≡ states_of ls → old ≡ v.lists → new ≡ map f old → map f (map state_of ls.lists) ≡ map state_of (map g ls.lists)
    → ◌≡◌ {A = StatesOf} (record { lists = new; begun = v.begun }) (states_of (for_each g ls))
each-kept f g v ls old new e was is all =
    states-same new (map state_of (map g ls.lists)) v.begun ls.begun
    (is ∙ ap (map f) (was ∙ ap (λ (w : StatesOf). w.lists) e) ∙ all) (ap (λ (w : StatesOf). w.begun) e)
