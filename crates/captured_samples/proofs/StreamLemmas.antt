-- What stands between the frames that a slave sent and the samples that are shown of them.
use Rattle.std.proofs.Common.{◌≡◌, ◌≢◌, ◌⊎◌, ℕ, suc, ◌<◌, ◌++◌, ◌∷◌, [], List, length, map, refl, sym, ap, subst, ◌∙◌, arith, Bool, true, false, Option, Some, None}
use Rattle.std.proofs.Common.{◌||◌, ◌&&◌, ◌==◌, if◌then◌else◌, cond, filter, inl, inr, nat_le, nat_lt}
use Rattle.std.specs.List.{AllByRecursion}
use Rattle.std.proofs.lemmas.Bool.{eq-eqb, eqb-true}
use Rattle.std.proofs.lemmas.Bool.Decides.{nat_tests}
use Rattle.std.proofs.lemmas.Option.{same_Some}
use Rattle.captured_session.specs.Commands.{word}
use Rattle.captured_session.specs.Lists.{ListOf, list_at}
use Rattle.captured_session.specs.SetUps.{SetUp}
use Rattle.captured_session.specs.declared.fact.Fact.{Fact}
use Rattle.captured_session.specs.declared.fact.Fact.TheVariants.{Cleared, Entries, Entry, FirstPid, LostAll, LostList, LostOdt, Mode, Odts}
use Rattle.captured_session.specs.declared.id_field.IdField.{IdField}
use Rattle.captured_session.specs.declared.id_field.IdField.TheVariants.{Absolute, RelativeByte, RelativeWord, RelativeWordAligned}
use Rattle.captured_samples.specs.Frames.{anew, is_sample, of_master, of_slave, read_of, step_of}
use Rattle.captured_samples.specs.Places.{below, fits, odt_by_field, odt_by_pid, odt_in, odt_of_list, plain_pid}
use Rattle.captured_samples.specs.Samples.{ShownOf, behind_at, shown_of, under_way}
use Rattle.captured_samples.specs.Standing.{ListIn, ListsIn, Start, Told, and_packet, began, broken, for_each, give, give_if, given_to, hand_if, handed, handed_of, hands}
use Rattle.captured_samples.specs.Standing.{has_list, is_whole, lists_of, marked, read_anew, set_up_of, shown_in, stands, still, with_any, with_fact, with_facts, with_found, with_packet, with_slave}
use Rattle.captured_samples.specs.Stream.{AllCame, AreOf, IsTold, NothingElse, NothingMissing, NothingTwice, if_sample, stream_of, stream_with}
use Rattle.captured_samples.specs.declared.counter_steps.CounterStep.{CounterStep}
use Rattle.captured_samples.specs.declared.counter_steps.CounterStep.TheVariants.{Behind, First, Jump, Next}
use Rattle.captured_samples.proofs.ReadLemmas.{both-true}
use Rattle.captured_samples.proofs.TurnLemmas.{last_is_under_way, under_way_in_turn, under_way_is_last}

-- one packet more in the stream
are-more : (came stream : List (Option (List ℕ))) (p : List ℕ) → AreOf came stream → AreOf came (Some p ∷ stream)
are-more [] stream p are = tt
are-more (c ∷ came) stream p are = inr are

abbrev AllAre : List (Option (List ℕ)) → List ListIn → Type 0
AllAre stream xs = AllByRecursion (λ (x : ListIn). AreOf x.came stream) xs

all-append : (stream : List (Option (List ℕ))) (xs ys : List ListIn) → AllAre stream xs → AllAre stream ys → AllAre stream (xs ++ ys)
all-append stream [] ys a b = b
all-append stream (x ∷ xs) ys a b = (a.0, all-append stream xs ys a.1 b)

all-cond : (stream : List (Option (List ℕ))) (x : ListIn) (xs : List ListIn) (b : Bool) → AreOf x.came stream → AllAre stream xs
    → AllAre stream (cond b (x ∷ xs) xs)
all-cond stream x xs true one all = (one, all)
all-cond stream x xs false one all = all

all-still : (stream : List (Option (List ℕ))) (start : Start) (s : SetUp) (xs : List ListIn) → AllAre stream xs
    → AllAre stream (filter (stands start s) xs)
all-still stream start s [] all = tt
all-still stream start s (x ∷ xs) all =
    all-cond stream x (filter (stands start s) xs) (stands start s x) all.0 (all-still stream start s xs all.1)

all-found : (stream : List (Option (List ℕ))) (ls : ListsIn) (o : Option ListOf) → AllAre stream ls.lists
    → AllAre stream (with_found ls o).lists
all-found stream ls None all = all
all-found stream ls (Some f) all = all-append stream ls.lists _ all (tt, tt)

all-if : (stream : List (Option (List ℕ))) (ls ms : ListsIn) (b : Bool) → AllAre stream ls.lists → AllAre stream ms.lists
    → AllAre stream (if b then ls else ms).lists
all-if stream ls ms true one other = one
all-if stream ls ms false one other = other

all-fact : (stream : List (Option (List ℕ))) (s : SetUp) (f : Fact) (ls : ListsIn) → AllAre stream ls.lists
    → AllAre stream (with_fact s f ls).lists
all-fact stream s (Odts n count) ls all =
    all-if stream ls (with_found ls (list_at s n)) (has_list n ls.lists) all (all-found stream ls (list_at s n) all)
all-fact stream s (Entries l o n) ls all = all
all-fact stream s (Entry l o e x) ls all = all
all-fact stream s (Cleared l) ls all = all
all-fact stream s (Mode l m) ls all = all
all-fact stream s (FirstPid l p) ls all = all
all-fact stream s (LostOdt l o) ls all = all
all-fact stream s (LostList l) ls all = all
all-fact stream s LostAll ls all = all

all-facts : (stream : List (Option (List ℕ))) (s : SetUp) (fs : List Fact) (ls : ListsIn) → AllAre stream ls.lists
    → AllAre stream (with_facts s fs ls).lists
all-facts stream s [] ls all = all
all-facts stream s (f ∷ fs) ls all = all-facts stream s fs (with_fact s f ls) (all-fact stream s f ls all)

all-read : (stream : List (Option (List ℕ))) (start : Start) (s : SetUp) (ls : ListsIn) → AllAre stream ls.lists
    → AllAre stream (read_anew start s ls).lists
all-read stream start s ls all =
    all-facts stream s s.facts (still start s ls) (all-still stream start s ls.lists all)

all-marked : (stream : List (Option (List ℕ))) (xs : List ListIn) → AllAre stream xs → AllAre (None ∷ stream) (map marked xs)
all-marked stream [] all = tt
all-marked stream (x ∷ xs) all = ((refl, all.0), all-marked stream xs all.1)

all-broken : (stream : List (Option (List ℕ))) (xs : List ListIn) → AllAre stream xs → AllAre (None ∷ stream) (map broken xs)
all-broken stream [] all = tt
all-broken stream (x ∷ xs) all = ((refl, all.0), all-broken stream xs all.1)

all-more : (stream : List (Option (List ℕ))) (p : List ℕ) (xs : List ListIn) → AllAre stream xs → AllAre (Some p ∷ stream) xs
all-more stream p [] all = tt
all-more stream p (x ∷ xs) all = (are-more x.came stream p all.0, all-more stream p xs all.1)

all-give-if : (stream : List (Option (List ℕ))) (p : List ℕ) (x : ListIn) (others later : List ListIn) (o : Option ℕ)
    → AreOf x.came stream → AllAre (Some p ∷ stream) others → AllAre (Some p ∷ stream) later
    → AllAre (Some p ∷ stream) (give_if o x (given_to p x) others later)
all-give-if stream p x others later None one all rest = (are-more x.came stream p one, all)
all-give-if stream p x others later (Some k) one all rest = (inl (refl, one), rest)

all-given : (stream : List (Option (List ℕ))) (p : List ℕ) (xs : List ListIn) → AllAre stream xs
    → AllAre (Some p ∷ stream) (give p xs)
all-given stream p [] all = tt
all-given stream p (x ∷ xs) all =
    all-give-if stream p x (give p xs) xs (odt_in x.list p) all.0 (all-given stream p xs all.1) (all-more stream p xs all.1)

any-if : (stream : List (Option (List ℕ))) (start : Start) (s : SetUp) (p : List ℕ) (ls : ListsIn) (b : Bool) → AllAre stream ls.lists
    → AllAre (if b then Some p ∷ stream else stream) (if b then with_packet start s p ls else ls).lists
any-if stream start s p ls true all = all-given stream p (read_anew start s ls).lists (all-read stream start s ls all)
any-if stream start s p ls false all = all

all-any : (stream : List (Option (List ℕ))) (start : Start) (s : SetUp) (p : List ℕ) (ls : ListsIn) → AllAre stream ls.lists
    → AllAre (if_sample p stream) (with_any start s p ls).lists
all-any stream start s p ls all = any-if stream start s p ls (is_sample p) all

all-slave : (stream : List (Option (List ℕ))) (start : Start) (s : SetUp) (step : CounterStep) (p : List ℕ) (ls : ListsIn)
    → AllAre stream ls.lists → AllAre (stream_with step p stream) (with_slave start s step p ls).lists
all-slave stream start s Behind p ls all = all
all-slave stream start s Next p ls all = all-any stream start s p ls all
all-slave stream start s First p ls all =
    all-any (None ∷ stream) start s p (for_each broken ls) (all-broken stream ls.lists all)
all-slave stream start s Jump p ls all =
    all-any (None ∷ stream) start s p (for_each marked (read_anew start s ls))
    (all-marked stream (read_anew start s ls).lists (all-read stream start s ls all))

pub all_came : AllCame
all_came start [] = tt
all_came start (of_master n p ∷ before) = all_came start before
all_came start (of_slave n p ∷ before) =
    all-slave (stream_of before) start (set_up_of start before) (step_of (read_of before) n p) p (lists_of start before) (all_came start before)
all_came start (anew ∷ before) = all-broken (stream_of before) (lists_of start before).lists (all_came start before)

-- what is told of a packet
told-later : (p : List ℕ) (x : ListIn) (xs : List ListIn) (ts : List Told) → AllByRecursion (IsTold p xs) ts
    → AllByRecursion (IsTold p (x ∷ xs)) ts
told-later p x xs [] all = tt
told-later p x xs (t ∷ ts) all = (one-later t all.0, told-later p x xs ts all.1)
  where
    one-later : (t : Told) → IsTold p xs t → IsTold p (x ∷ xs) t
    one-later (began number list) is = tt
    one-later (handed number shown mark) is = record {
      x = is.x;
      is = inr is.is;
      front = is.front;
      packets = is.packets;
      are = is.are;
      many = is.many;
      last = is.last;
      number = is.number;
      shown = is.shown;
      mark = is.mark;
    }

told-whole : (p : List ℕ) (x : ListIn) (xs : List ListIn) (b : Bool) → is_whole (shown_in (and_packet p x)) ≡ b
    → AllByRecursion (IsTold p (x ∷ xs))
    (if b then handed x.number (shown_in (and_packet p x)) (record { overload = (shown_in (and_packet p x)).overload; gap = x.gap }) ∷ [] else [])
told-whole p x xs false whole = tt
told-whole p x xs true whole =
    let packets = under_way x.list (Some p ∷ x.came) in
    let parts = both-true (nat_lt 0 (length packets)) (length packets == length x.list.odts) whole in
    let back = under_way_is_last x.list (Some p ∷ x.came) in (
      record {
        x = x;
        is = inl refl;
        front = back.0;
        packets = packets;
        are = under_way_in_turn x.list (Some p ∷ x.came);
        many = eqb-true (length packets) (length x.list.odts) parts.1;
        last = back.1;
        number = refl;
        shown = refl;
        mark = refl;
      },
      tt,
    )

told-if : (p : List ℕ) (x : ListIn) (xs : List ListIn) (o : Option ℕ) → AllByRecursion (IsTold p xs) (hands p xs)
    → AllByRecursion (IsTold p (x ∷ xs)) (hand_if o (handed_of x (shown_in (and_packet p x))) (hands p xs))
told-if p x xs None all = told-later p x xs (hands p xs) all
told-if p x xs (Some k) all = told-whole p x xs (is_whole (shown_in (and_packet p x))) refl

pub nothing_else : NothingElse
nothing_else p [] = tt
nothing_else p (x ∷ xs) = told-if p x xs (odt_in x.list p) (nothing_else p xs)

-- a sample whose packets came is told
tells-own : (own others : List Told) (o : Option ℕ) → o ≢ None → hand_if o own others ≡ own
tells-own own others None other = absurd (other refl)
tells-own own others (Some k) other = refl

whole-of : (l : ListOf) (q : List ℕ) (packets : List (List ℕ)) → length (q ∷ packets) ≡ length l.odts
    → is_whole (shown_of l (q ∷ packets)) ≡ true
whole-of l q packets many = and-so _ _ (lt-some (length packets)) (eq-eqb (length (q ∷ packets)) (length l.odts) many)
  where
    and-so : (a b : Bool) → a ≡ true → b ≡ true → (a && b) ≡ true
    and-so a b p q = ap (λ (c : Bool). c && b) p ∙ q

    lt-some : (n : ℕ) → nat_lt 0 (suc n) ≡ true
    lt-some n = grind (arith, nat_tests)

hands-own : (x : ListIn) (shown : ShownOf) → is_whole shown ≡ true
    → handed_of x shown ≡ handed x.number shown (record { overload = shown.overload; gap = x.gap }) ∷ []
hands-own x shown whole =
    ap (λ (b : Bool). if b then handed x.number shown (record { overload = shown.overload; gap = x.gap }) ∷ [] else []) whole

pub nothing_missing : NothingMissing
nothing_missing p [] x later front packets q none are many last own =
    let is : under_way x.list (Some p ∷ x.came) ≡ q ∷ packets = last_is_under_way x.list (Some p ∷ x.came) front packets q are last in
    tells-own (handed_of x (shown_in (and_packet p x))) (hands p later) (odt_in x.list p) own
    ∙ ap (λ (ps : List (List ℕ)). handed_of x (shown_of x.list ps)) is
    ∙ hands-own x (shown_of x.list (q ∷ packets)) (whole-of x.list q packets many)
nothing_missing p (y ∷ before) x later front packets q none are many last own =
    ap (λ (o : Option ℕ). hand_if o (handed_of y (shown_in (and_packet p y))) (hands p (before ++ x ∷ later))) none.0
    ∙ nothing_missing p before x later front packets q none.1 are many last own

-- an ODT of a packet is one of the list
below-lt : (n k m : ℕ) → below n k ≡ Some m → m < n
below-lt n k m e = lt-if (nat_lt k n) refl e
  where
    lt-if : (b : Bool) → nat_lt k n ≡ b → (if b then Some k else None) ≡ Some m → m < n
    lt-if true is some = let same : k ≡ m = same_Some k m some in grind (arith, nat_tests)
    lt-if false is some = absurd cc

if-some : (b : Bool) (o : Option ℕ) (k : ℕ) → (if b then o else None) ≡ Some k → o ≡ Some k
if-some true o k e = e
if-some false o k e = absurd cc

if-none : (b : Bool) (o : Option ℕ) (k : ℕ) → (if b then None else o) ≡ Some k → o ≡ Some k
if-none false o k e = e
if-none true o k e = absurd cc

pid-lt : (n pid : ℕ) (first : Option ℕ) (k : ℕ) → odt_by_pid n pid first ≡ Some k → k < n
pid-lt n pid None k e = absurd cc
pid-lt n pid (Some first) k e = below-lt n _ k (if-some (nat_le first pid) _ k e)

list-lt : (list n pid told k : ℕ) → odt_of_list list n pid told ≡ Some k → k < n
list-lt list n pid told k e = below-lt n pid k (if-some (told == list) _ k e)

field-lt : (l : ListOf) (field : IdField) (pid : ℕ) (rest : List ℕ) (k : ℕ) → odt_by_field l field pid rest ≡ Some k
    → k < length l.odts
field-lt l Absolute pid rest k e = pid-lt (length l.odts) pid l.first_pid k e
field-lt l RelativeByte pid [] k e = absurd cc
field-lt l RelativeByte pid (a ∷ rest) k e = list-lt l.list (length l.odts) pid a k e
field-lt l RelativeWord pid [] k e = absurd cc
field-lt l RelativeWord pid (a ∷ []) k e = absurd cc
field-lt l RelativeWord pid (a ∷ b ∷ rest) k e = list-lt l.list (length l.odts) pid (word l.form.order a b) k e
field-lt l RelativeWordAligned pid [] k e = absurd cc
field-lt l RelativeWordAligned pid (z ∷ []) k e = absurd cc
field-lt l RelativeWordAligned pid (z ∷ a ∷ []) k e = absurd cc
field-lt l RelativeWordAligned pid (z ∷ a ∷ b ∷ rest) k e =
    list-lt l.list (length l.odts) pid (word l.form.order a b) k e

odt-lt : (l : ListOf) (p : List ℕ) (k : ℕ) → odt_in l p ≡ Some k → k < length l.odts
odt-lt l [] k e = absurd cc
odt-lt l (pid ∷ rest) k e = field-lt l l.form.field (plain_pid l.form pid) rest k (if-none (nat_le 0xFC pid) _ k e)

-- behind a whole sample a packet begins another one
begins-anew : (l : ListOf) (before : List (List ℕ)) (p : List ℕ) (k : ℕ) (a b c : Bool) → c ≡ false
    → ((if a && (b || c) then (if b then [] else before) ++ p ∷ [] else []) ≡ [])
    ⊎ ((if a && (b || c) then (if b then [] else before) ++ p ∷ [] else []) ≡ p ∷ [])
begins-anew l before p k false b c is = inl refl
begins-anew l before p k true true c is = inr refl
begins-anew l before p k true false false is = inl refl
begins-anew l before p k true false true is = absurd cc

not-last : (k n : ℕ) → k < n → (k == n) ≡ false
not-last k n lt = grind (arith, nat_tests)

twice-at : (l : ListOf) (before : List (List ℕ)) (p : List ℕ) (o : Option ℕ) → odt_in l p ≡ o → length before ≡ length l.odts → o ≢ None
    → (behind_at l before p o ≡ []) ⊎ (behind_at l before p o ≡ p ∷ [])
twice-at l before p None odt many own = absurd (own refl)
twice-at l before p (Some k) odt many own =
    let lt : k < length before = subst (λ (n : ℕ). k < n) (sym many) (odt-lt l p k odt) in
    begins-anew l before p k (fits l k p) (k == 0) (k == length before) (not-last k (length before) lt)

pub nothing_twice : NothingTwice
nothing_twice l came p whole own =
    let packets = under_way l came in
    let parts = both-true (nat_lt 0 (length packets)) (length packets == length l.odts) whole in
    twice-at l packets p (odt_in l p) refl (eqb-true (length packets) (length l.odts) parts.1) own
