-- Samples are laid out only within their measurement, and where their list runs.
use Rattle.daq_store.specs.Running.{is_active}
use Rattle.session.proofs.StartLemmas.{same_calls}
use Rattle.std.proofs.Common.{◌≡◌, ℕ, zero, suc, ◌+◌, ◌<◌, ◌≤◌, Bool, true, false, ◌&&◌, not, nat_eq, if◌then◌else◌, List, [], ◌∷◌, ◌++◌, append-nil, refl, sym, ap, ◌∙◌, subst, arith, ◌⊎◌, inl, inr}
use Rattle.std.specs.Prelude.{find, Option, Some, None}
use Rattle.std.proofs.lemmas.Bool.{false≢true}
use Rattle.std.proofs.lemmas.Bool.Decides.{eqb_tells, leb_tells}
use Rattle.std.proofs.lemmas.List.Elements.{filter-append}
use Rattle.xcp_base.specs.Samples.{SampleParts}
use Rattle.xcp_base.specs.declared.item.Item.TheVariants.{Marker, Sample}
use Rattle.xcp_base.specs.declared.limits.TheConstants.{MAX_LISTS}
use Rattle.session.specs.Exchanges.{Exchange, past_after_packet, past_behind, reply_in}
use Rattle.session.specs.Past.{Past, new_past, none_given}
use Rattle.session.specs.Starts.{runs, starts}
use Rattle.session.specs.declared.profile.Profile.{Profile}
use Rattle.slave_outbox.specs.Deeds.{Deed, Started, Stopped, is_order_of, is_start, passes}
use Rattle.slave_outbox.specs.Deeds.{Took as TookItem}
use Rattle.slave_outbox.specs.Deeds.{runs as runs_there}
use Rattle.slave_outbox.specs.Outboxes.{Laid, origins_in}
use Rattle.slave_outbox.specs.declared.origin.Origin.TheVariants as origin
use Rattle.slave_channels.specs.Ordering.{one_if, starts_noted, stops_noted}
use Rattle.slave.specs.Log.{Act, CameBack, Discarded, Heard, HungUp, Opened, Refused, Sent, Took, deeds_of, is_newest, is_sample_of, laid, laid_by, opened, ordered_by, past_of, reply_laid, sample_laid, starts_on, stops_at, waits, with_starts}
use Rattle.slave.specs.Session.{HasPositive, IsWithin, Rests, from_list}
use Rattle.slave.specs.Standing.{IsLog, IsStart, JustOpened, NoneRuns}
use Rattle.slave.proofs.ChangeLemmas.{change-accepted}
use Rattle.slave.proofs.DeedLemmas.{opened-more, unsent-runs}
use Rattle.slave.proofs.LaidLemmas.{log-behind}
use Rattle.slave.proofs.LogLemmas.{ties}
use Rattle.slave.proofs.RunLemmas.{apart, pass-runs}
use Rattle.slave.proofs.TogetherLemmas.{filter-else}

is-bool : (b : Bool) → (b ≡ true) ⊎ (b ≡ false)
is-bool true = inl refl
is-bool false = inr refl

-- no list from number n on runs by any orders
starts-low : (set : ℕ → Bool) (n l : ℕ) (ds : List Deed) → n ≤ l → runs_there (starts_noted set n ++ ds) l ≡ runs_there ds l
starts-low set zero l ds over = refl
starts-low set (suc n) l ds over = one (set n) n (starts_noted set n) (apart n l (λ e. omega (arith, e, over))) ∙ starts-low set n l ds (omega (arith, over)) where
  one : (b : Bool) (n : ℕ) (xs : List Deed) → nat_eq n l ≡ false → runs_there ((one_if b (Started n) ++ xs) ++ ds) l ≡ runs_there (xs ++ ds) l
  one true n xs other = ap (λ e. is_start (if e then Some (Started n) else find (is_order_of l) (xs ++ ds))) other
  one false n xs other = refl

stops-low : (set : ℕ → Bool) (n l : ℕ) (ds : List Deed) → n ≤ l → runs_there (stops_noted set n ++ ds) l ≡ runs_there ds l
stops-low set zero l ds over = refl
stops-low set (suc n) l ds over = one (set n) n (stops_noted set n) (apart n l (λ e. omega (arith, e, over))) ∙ stops-low set n l ds (omega (arith, over)) where
  one : (b : Bool) (n : ℕ) (xs : List Deed) → nat_eq n l ≡ false → runs_there ((one_if b (Stopped n) ++ xs) ++ ds) l ≡ runs_there (xs ++ ds) l
  one true n xs other = ap (λ e. is_start (if e then Some (Stopped n) else find (is_order_of l) (xs ++ ds))) other
  one false n xs other = refl

ordered-low : (d : Profile) (c : ℕ) (act : Act) (log : List Act) (ds : List Deed) (l : ℕ) → MAX_LISTS ≤ l → runs_there (ordered_by d c act log ds) l ≡ runs_there ds l
ordered-low d c act log ds l over =
    let all = with_starts d c act log ds in
    stops-low (λ k. stops_at d act log k && runs_there all k) MAX_LISTS l all over ∙ starts-low (starts_on d c act log) MAX_LISTS l ds over

if-low : (b : Bool) (xs ys : List Deed) (l : ℕ) → runs_there xs l ≡ runs_there ys l → runs_there (if b then xs else ys) l ≡ runs_there ys l
if-low true xs ys l same = same
if-low false xs ys l same = refl

none-over : (d : Profile) (m c l : ℕ) (log : List Act) → MAX_LISTS ≤ l → runs_there (deeds_of d m c log) l ≡ false
none-over d m c l [] over = refl
none-over d m c l (Heard x ∷ log) over =
    if-low (is_newest m log) (ordered_by d c (Heard x) log (deeds_of d m c log)) (deeds_of d m c log) l (ordered-low d c (Heard x) log (deeds_of d m c log) l over) ∙ none-over d m c l log over
none-over d m c l (Refused packet code ∷ log) over = none-over d m c l log over
none-over d m c l (Opened at ∷ log) over = none-over d m c l log over
none-over d m c l (Took n k x ∷ log) over = if-low (nat_eq n m && nat_eq k c) (TookItem x ∷ deeds_of d m c log) (deeds_of d m c log) l refl ∙ none-over d m c l log over
none-over d m c l (CameBack n k past ∷ log) over = none-over d m c l log over
none-over d m c l (Sent n ∷ log) over = none-over d m c l log over
none-over d m c l (HungUp ∷ log) over =
    if-low (is_newest m log) (ordered_by d c HungUp log (deeds_of d m c log)) (deeds_of d m c log) l (ordered-low d c HungUp log (deeds_of d m c log) l over) ∙ none-over d m c l log over
none-over d m c l (Discarded ∷ log) over = unsent-runs m c (origins_in (waits d log)) (deeds_of d m c log) l ∙ none-over d m c l log over

-- a list of which a sample passes is one that there may be
below-max : (d : Profile) (m c l : ℕ) (log : List Act) → passes (deeds_of d m c log) l ≡ true → l < MAX_LISTS
below-max d m c l log is =
    elim (leb_tells MAX_LISTS l) [
      | inl w ↦ absurd (false≢true (sym (none-over d m c l log w.1) ∙ pass-runs (deeds_of d m c log) l is))
      | inr w ↦ omega (arith, w.1)
    ]

-- it is told whether some list runs
abbrev pub SomeRuns : Past → Type 0
SomeRuns past = (l : ℕ) × (l < MAX_LISTS) × (runs past l ≡ true)

some-below : (f : ℕ → Bool) (n : ℕ) → ((l : ℕ) → l < n → f l ≡ false) ⊎ ((l : ℕ) × (l < n) × (f l ≡ true))
some-below f zero = inl (λ l below. absurd (omega (arith, below)))
some-below f (suc n) =
    elim (is-bool (f n)) [
      | inl yes_n ↦ inr (n, omega arith, yes_n)
      | inr no_n ↦ elim (some-below f n) [
        | inl none ↦ inl (λ l below. elim (eqb_tells l n) [
          | inl w ↦ ap f w.1 ∙ no_n
          | inr w ↦ none l (omega (arith, below, w.1))
        ])
        | inr some ↦ inr (some.0, omega (arith, some.1), some.2)
      ]
    ]

some-or-none : (past : Past) → NoneRuns past ⊎ SomeRuns past
some-or-none past = some-below (runs past) MAX_LISTS

some-not-none : (past : Past) → SomeRuns past → NoneRuns past → ⊥
some-not-none past some none = false≢true (sym (none some.0 some.1) ∙ some.2)

-- a measurement is open: it was opened just before a start, and since then some list ran
pub record IsOpen (d : Profile) (log : List Act) : Type 0 where
  pub since : List Act
  pub start : Exchange
  pub at : ℕ → Bool
  pub before : List Act
  pub log_is : log ≡ since ++ Heard start ∷ Opened at ∷ before
  pub count : opened log ≡ 1 + opened before
  pub none_before : NoneRuns (past_of d before)
  pub accepted : HasPositive (reply_in d (past_of d before) start)
  pub never_ended : (later sooner : List Act) → since ≡ later ++ sooner → NoneRuns (past_of d (sooner ++ Heard start ∷ Opened at ∷ before)) → ⊥

-- an act more, behind which some list runs
goes-on : (d : Profile) (act : Act) (log : List Act) → opened (act ∷ log) ≡ opened log → SomeRuns (past_of d (act ∷ log)) → IsOpen d log → IsOpen d (act ∷ log)
goes-on d act log same some open_so = record {
  since = act ∷ open_so.since;
  start = open_so.start;
  at = open_so.at;
  before = open_so.before;
  log_is = ap (λ xs. act ∷ xs) open_so.log_is;
  count = same ∙ open_so.count;
  none_before = open_so.none_before;
  accepted = open_so.accepted;
  never_ended = λ later sooner is none. ends later sooner is none;
} where
  whole : (sooner : List Act) → act ∷ open_so.since ≡ sooner → sooner ++ Heard open_so.start ∷ Opened open_so.at ∷ open_so.before ≡ act ∷ log
  whole sooner is = ap (λ xs. xs ++ Heard open_so.start ∷ Opened open_so.at ∷ open_so.before) (sym is) ∙ ap (λ xs. act ∷ xs) (sym open_so.log_is)

  tail-is : (x y : Act) (xs ys : List Act) → x ∷ xs ≡ y ∷ ys → xs ≡ ys
  tail-is x y xs ys e = cc

  ends : (later sooner : List Act) → act ∷ open_so.since ≡ later ++ sooner → NoneRuns (past_of d (sooner ++ Heard open_so.start ∷ Opened open_so.at ∷ open_so.before)) → ⊥
  ends [] sooner is none = some-not-none (past_of d (act ∷ log)) some (subst (λ xs. NoneRuns (past_of d xs)) (whole sooner is) none)
  ends (x ∷ later) sooner is none = open_so.never_ended later sooner (tail-is act x open_so.since (later ++ sooner) is) none

-- the newest act opened a measurement
opened-last : (d : Profile) (log : List Act) → IsLog d log → JustOpened d log → (at : ℕ → Bool) × (before : List Act) × (log ≡ Opened at ∷ before) × NoneRuns (past_of d before)
opened-last d [] is just = absurd just
opened-last d (Heard x ∷ log) is just = absurd just
opened-last d (Refused packet code ∷ log) is just = absurd just
opened-last d (Opened at ∷ log) is just = (at, log, refl, is.0)
opened-last d (Took m c x ∷ log) is just = absurd just
opened-last d (CameBack m c past ∷ log) is just = absurd just
opened-last d (Sent n ∷ log) is just = absurd just
opened-last d (HungUp ∷ log) is just = absurd just
opened-last d (Discarded ∷ log) is just = absurd just

-- a packet behind which a list runs, and before which none does, starts it
exchange-starts : (d : Profile) (past : Past) (x : Exchange) (l : ℕ) → runs past l ≡ false → runs (past_behind d past x) l ≡ true → starts d past x.packet l ≡ true
exchange-starts d past x l before behind = by x.out_of_memory refl where
  by : (b : Bool) → x.out_of_memory ≡ b → starts d past x.packet l ≡ true
  by true out = absurd (false≢true (sym before ∙ (sym (ap (λ b. runs (if b then past else past_after_packet d past x.given x.packet) l) out) ∙ behind)))
  by false fine =
      let after : runs (past_after_packet d past x.given x.packet) l ≡ true = sym (ap (λ b. runs (if b then past else past_after_packet d past x.given x.packet) l) fine) ∙ behind in
      ap (λ b. not b && runs (past_after_packet d past none_given x.packet) l) before
      ∙ ap (λ calls. is_active calls l) (same_calls d past none_given x.given x.packet) ∙ after

none-new : (l : ℕ) → runs new_past l ≡ false
none-new l = grind arith

begins-open : (d : Profile) (x : Exchange) (log : List Act) → IsLog d log → JustOpened d log → SomeRuns (past_of d (Heard x ∷ log)) → IsOpen d (Heard x ∷ log)
begins-open d x log is just some =
    let (at, before, log_is, none) = opened-last d log is just in
    record {
      since = [];
      start = x;
      at = at;
      before = before;
      log_is = ap (λ xs. Heard x ∷ xs) log_is;
      count = ap opened log_is ∙ opened-more at before;
      none_before = none;
      accepted = subst (λ xs. HasPositive (reply_in d (past_of d xs) x)) log_is
          (change-accepted d (Heard x) log some.0 (λ same. false≢true (sym (still at before log_is (none some.0 some.1)) ∙ (sym same ∙ some.2))));
      never_ended = λ later sooner nothing none_runs. some-not-none (past_of d (Heard x ∷ log)) some
          (subst (λ xs. NoneRuns (past_of d xs)) (ap (λ xs. xs ++ Heard x ∷ Opened at ∷ before) (rest-none later sooner nothing) ∙ ap (λ xs. Heard x ∷ xs) (sym log_is)) none_runs);
    } where
      still : (at : ℕ → Bool) (before : List Act) → log ≡ Opened at ∷ before → runs (past_of d before) some.0 ≡ false → runs (past_of d log) some.0 ≡ false
      still at before is none = ap (λ xs. runs (past_of d xs) some.0) is ∙ none

      rest-none : (later sooner : List Act) → [] ≡ later ++ sooner → sooner ≡ []
      rest-none [] sooner is = sym is
      rest-none (y ∷ later) sooner is = absurd cc

-- where a list runs, a measurement is open
open-so : (d : Profile) (log : List Act) → IsLog d log → SomeRuns (past_of d log) → IsOpen d log
open-so d [] is some = absurd (false≢true (sym (none-new some.0) ∙ some.2))
open-so d (Heard x ∷ log) is some =
    elim (some-or-none (past_of d log)) [
      | inl none ↦
          let start : IsStart d (past_of d log) x.packet = (some.0, some.1, exchange-starts d (past_of d log) x some.0 (none some.0 some.1) some.2) in
          begins-open d x log is.2 (is.1.in_one start none) some
      | inr before ↦ goes-on d (Heard x) log refl some (open-so d log is.2 before)
    ]
open-so d (Refused packet code ∷ log) is some = goes-on d (Refused packet code) log refl some (open-so d log is.2 some)
open-so d (Opened at ∷ log) is some = absurd (some-not-none (past_of d log) some is.0)
open-so d (Took m c x ∷ log) is some = goes-on d (Took m c x) log refl some (open-so d log is.2 some)
open-so d (CameBack m c past ∷ log) is some = goes-on d (CameBack m c past) log refl some (open-so d log is.1 some)
open-so d (Sent n ∷ log) is some = goes-on d (Sent n) log refl some (open-so d log is.1 some)
open-so d (HungUp ∷ log) is some = absurd (false≢true (sym (none-new some.0) ∙ some.2))
open-so d (Discarded ∷ log) is some = goes-on d Discarded log refl some (open-so d log is some)

within-so : (d : Profile) (m l : ℕ) (log : List Act) → m + 1 ≡ opened log → runs (past_of d log) l ≡ true → IsOpen d log → IsWithin d m l log
within-so d m l log newest running open_so = record {
  newest = newest;
  running = running;
  since = open_so.since;
  start = open_so.start;
  at = open_so.at;
  before = open_so.before;
  log_is = open_so.log_is;
  number = omega (arith, newest, open_so.count);
  none_before = open_so.none_before;
  accepted = open_so.accepted;
  never_ended = open_so.never_ended;
}

-- a sample that passes is within its measurement
pub passes-within : (d : Profile) (m c l : ℕ) (log : List Act) → IsLog d log → passes (deeds_of d m c log) l ≡ true → IsWithin d m l log
passes-within d m c l log is pass =
    let below = below-max d m c l log pass in
    let tie = ties d log is m c l below (pass-runs (deeds_of d m c log) l pass) in
    within-so d m l log tie.0 tie.1 (open-so d log is (l, below, tie.1))

pub within : (d : Profile) (log : List Act) → IsLog d log → (m c : ℕ) (s : SampleParts) (later earlier : List Act) → log ≡ later ++ Took m c (Sample s) ∷ earlier
    → passes (deeds_of d m c earlier) s.list ≡ true → IsWithin d m s.list earlier
within d log is m c s later earlier split pass =
    let there = log-behind d later (Took m c (Sample s) ∷ earlier) (subst (IsLog d) split is) in
    passes-within d m c s.list earlier there.2 pass

-- a list that doesn't run
list-append : (l : ℕ) (xs ys : List Laid) → from_list l (xs ++ ys) ≡ from_list l xs ++ from_list l ys
list-append l xs ys = filter-append (λ (x : Laid). is_sample_of l x.origin) xs ys

reply-no-list : (l : ℕ) (reply : Option (List ℕ)) → from_list l (reply_laid reply) ≡ []
reply-no-list l None = refl
reply-no-list l (Some packet) = refl

sample-no-list : (l n k : ℕ) (b : Bool) (s : SampleParts) → (b ≡ true → nat_eq s.list l ≡ false) → from_list l (sample_laid b n k s) ≡ []
sample-no-list l n k false s other = refl
sample-no-list l n k true s other = filter-else (is_sample_of l) (origin.Sample n k s.list) s.packets (other refl)

by-none : (d : Profile) (act : Act) (log : List Act) (l : ℕ) → IsLog d (act ∷ log) → runs (past_of d log) l ≡ false → from_list l (laid_by d act log) ≡ []
by-none d (Heard x) log l is rests = reply-no-list l (reply_in d (past_of d log) x)
by-none d (Refused packet code) log l is rests = refl
by-none d (Opened at) log l is rests = refl
by-none d (Took m c (Sample s)) log l is rests =
    sample-no-list l m c (passes (deeds_of d m c log) s.list) s
    (λ pass. apart s.list l (λ same. false≢true (sym rests ∙ (ap (runs (past_of d log)) (sym same) ∙ (passes-within d m c s.list log is.2 pass).running))))
by-none d (Took m c (Marker k)) log l is rests = refl
by-none d (CameBack m c past) log l is rests = refl
by-none d (Sent n) log l is rests = refl
by-none d HungUp log l is rests = refl
by-none d Discarded log l is rests = refl

rests-before : (d : Profile) (l : ℕ) (act : Act) (since before : List Act) → Rests d l (act ∷ since) before → Rests d l since before
rests-before d l act since before rests = λ later sooner x is. rests (act ∷ later) sooner x (ap (λ xs. act ∷ xs) is)

silent-so : (d : Profile) (l : ℕ) (since before : List Act) → IsLog d (since ++ before) → Rests d l since before → from_list l (laid d (since ++ before)) ≡ from_list l (laid d before)
silent-so d l [] before is rests = refl
silent-so d l (act ∷ since) before is rests =
    let own = laid_by d act (since ++ before) in
    list-append l (laid d (since ++ before)) own
    ∙ ap (λ xs. from_list l (laid d (since ++ before)) ++ xs) (by-none d act (since ++ before) l is (rests [] since act refl))
    ∙ append-nil (from_list l (laid d (since ++ before)))
    ∙ silent-so d l since before (log-behind d (act ∷ []) (since ++ before) is) (rests-before d l act since before rests)

pub silent : (d : Profile) (log : List Act) → IsLog d log → (l : ℕ) (later since before : List Act) → log ≡ later ++ (since ++ before) → Rests d l since before
    → from_list l (laid d (since ++ before)) ≡ from_list l (laid d before)
silent d log is l later since before split rests = silent-so d l since before (log-behind d later (since ++ before) (subst (IsLog d) split is)) rests
