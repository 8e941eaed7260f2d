-- How much was done with the rings of a slave.
use Rattle.std.proofs.Common.{◌≡◌, ◌≢◌, ℕ, zero, suc, ◌+◌, ◌*◌, ◌<◌, ◌≤◌, Bool, true, false, ◌&&◌, ◌||◌, not, nat_eq, nat_lt, if◌then◌else◌, List, [], ◌∷◌, ◌++◌, append_assoc, length, refl, sym, ap, ◌∙◌, arith, length-append, inl, inr}
use Rattle.std.specs.Prelude.{count_by, Err, Option, Some, None}
use Rattle.std.proofs.lemmas.List.Sums.{sum_by-cons}
use Rattle.std.proofs.lemmas.Bool.{false≢true}
use Rattle.std.proofs.lemmas.Bool.Decides.{eqb_tells}
use Rattle.xcp_base.specs.Samples.{SampleParts}
use Rattle.xcp_base.specs.declared.item.Item.TheVariants.{Marker, Sample}
use Rattle.xcp_base.specs.declared.limits.TheConstants.{MAX_LISTS}
use Rattle.session.specs.Exchanges.{reply_in}
use Rattle.session.specs.Fields.{packet_of}
use Rattle.session.specs.declared.profile.Profile.{Profile}
use Rattle.slave_outbox.specs.Deeds.{Deed, Started, Stopped, Unsent, marks_of, passed, passes, stops_of, taken}
use Rattle.slave_outbox.specs.Deeds.{Took as TookItem}
use Rattle.slave_outbox.specs.Deeds.{runs as runs_there}
use Rattle.slave_outbox.specs.Outboxes.{origins_in, together}
use Rattle.slave_outbox.specs.declared.origin.Origin.{Origin}
use Rattle.slave_outbox.specs.declared.origin.Origin.TheVariants as origin
use Rattle.slave_channels.specs.Ordering.{one_if, starts_noted, stops_noted}
use Rattle.slave.specs.Log.{Act, CameBack, Discarded, Heard, HungUp, Opened, Refused, Sent, Took, deeds_of, has_part, is_back, is_newest, is_of_ring, is_opening, is_out, opened, ordered_by, past_of, reply_laid, sample_laid, starts_on, stops_at, unsent_by, unsent_one, waits, with_starts}
use Rattle.slave.specs.Standing.{IsLog}
use Rattle.slave.proofs.TogetherLemmas.{count-origins-append, count-origins-drop, origins-together}

-- what no sample that was thrown away changes, none of them do
unsent-changes-not : {X : Type 0} (f : List Deed → X) → ((k : ℕ) (ds : List Deed) → f (Unsent k ∷ ds) ≡ f ds) → (m c : ℕ) (os : List Origin) (ds : List Deed) → f (unsent_by m c os ++ ds) ≡ f ds
unsent-changes-not f keeps m c [] ds = refl
unsent-changes-not f keeps m c (o ∷ os) ds =
    ap f (append_assoc (unsent_by m c os) (unsent_one m c o) ds)
    ∙ unsent-changes-not f keeps m c os (unsent_one m c o ++ ds) ∙ one o where
      if-one : (b : Bool) (l : ℕ) → f ((if b then Unsent l ∷ [] else []) ++ ds) ≡ f ds
      if-one true l = keeps l ds
      if-one false l = refl

      one : (o : Origin) → f (unsent_one m c o ++ ds) ≡ f ds
      one origin.Reply = refl
      one (origin.Sample n k l) = if-one (nat_eq n m && nat_eq k c) l

-- so the orders, the marks, and what was taken and passed are the same
pub unsent-runs : (m c : ℕ) (os : List Origin) (ds : List Deed) (l : ℕ) → runs_there (unsent_by m c os ++ ds) l ≡ runs_there ds l
unsent-runs m c os ds l = unsent-changes-not (λ xs. runs_there xs l) (λ k xs. refl) m c os ds

pub unsent-stops : (m c : ℕ) (os : List Origin) (ds : List Deed) (l : ℕ) → stops_of (unsent_by m c os ++ ds) l ≡ stops_of ds l
unsent-stops m c os ds l = unsent-changes-not (λ xs. stops_of xs l) (λ k xs. refl) m c os ds

pub unsent-marks : (m c : ℕ) (os : List Origin) (ds : List Deed) (l : ℕ) → marks_of (unsent_by m c os ++ ds) l ≡ marks_of ds l
unsent-marks m c os ds l = unsent-changes-not (λ xs. marks_of xs l) (λ k xs. refl) m c os ds

pub unsent-passes : (m c : ℕ) (os : List Origin) (ds : List Deed) (l : ℕ) → passes (unsent_by m c os ++ ds) l ≡ passes ds l
unsent-passes m c os ds l =
    let all = unsent_by m c os ++ ds in
    ap (λ b. b && not (nat_lt (marks_of all l) (stops_of all l))) (unsent-runs m c os ds l)
    ∙ ap (λ n. runs_there ds l && not (nat_lt n (stops_of all l))) (unsent-marks m c os ds l)
    ∙ ap (λ n. runs_there ds l && not (nat_lt (marks_of ds l) n)) (unsent-stops m c os ds l)

pub unsent-passed : (m c : ℕ) (os : List Origin) (ds : List Deed) → passed (unsent_by m c os ++ ds) ≡ passed ds
unsent-passed m c os ds = unsent-changes-not passed (λ k xs. refl) m c os ds

pub unsent-taken : (m c : ℕ) (os : List Origin) (ds : List Deed) → taken (unsent_by m c os ++ ds) ≡ taken ds
unsent-taken m c os ds = unsent-changes-not taken (λ k xs. refl) m c os ds

-- as many of them as there are samples of the ring
pub unsent-length : (m c : ℕ) (os : List Origin) → length (unsent_by m c os) ≡ count_by (is_of_ring m c) os
unsent-length m c [] = refl
unsent-length m c (o ∷ os) =
    omega (arith, length-append (unsent_by m c os) (unsent_one m c o), unsent-length m c os, one o, sum_by-cons (λ x. if is_of_ring m c x then 1 else 0) o os) where
      if-one : (b : Bool) (l : ℕ) → length (if b then Unsent l ∷ [] else []) ≡ (if b then 1 else 0)
      if-one true l = refl
      if-one false l = refl

      one : (o : Origin) → length (unsent_one m c o) ≡ (if is_of_ring m c o then 1 else 0)
      one origin.Reply = refl
      one (origin.Sample n k l) = if-one (nat_eq n m && nat_eq k c) l

one-few : {X : Type 0} (b : Bool) (x : X) → length (one_if b x) ≤ 1
one-few true x = omega arith
one-few false x = omega arith

pub starts-few : (set : ℕ → Bool) (n : ℕ) → length (starts_noted set n) ≤ n
starts-few set zero = omega arith
starts-few set (suc n) = omega (arith, length-append (one_if (set n) (Started n)) (starts_noted set n), one-few (set n) (Started n), starts-few set n)

pub stops-few : (set : ℕ → Bool) (n : ℕ) → length (stops_noted set n) ≤ n
stops-few set zero = omega arith
stops-few set (suc n) = omega (arith, length-append (one_if (set n) (Stopped n)) (stops_noted set n), one-few (set n) (Stopped n), stops-few set n)

ordered-few : (d : Profile) (c : ℕ) (act : Act) (log : List Act) (ds : List Deed) → length (ordered_by d c act log ds) ≤ 32 + length ds
ordered-few d c act log ds =
    let all = with_starts d c act log ds in
    let stopped = λ (l : ℕ). stops_at d act log l && runs_there all l in
    omega (arith, length-append (stops_noted stopped MAX_LISTS) all, stops-few stopped MAX_LISTS, length-append (starts_noted (starts_on d c act log) MAX_LISTS) ds, starts-few (starts_on d c act log) MAX_LISTS)

if-few : (b : Bool) (xs ys : List Deed) (k : ℕ) → length xs ≤ k → length ys ≤ k → length (if b then xs else ys) ≤ k
if-few true xs ys k x y = x
if-few false xs ys k x y = y

-- a reply that waits is of no ring, and an act lays out no more than one sample
reply-of-none : (m c : ℕ) (reply : Option (List ℕ)) → count_by (is_of_ring m c) (origins_in (reply_laid reply)) ≡ 0
reply-of-none m c None = refl
reply-of-none m c (Some packet) = refl

sample-one : (m c n k : ℕ) (b : Bool) (s : SampleParts) → count_by (is_of_ring m c) (origins_in (sample_laid b n k s)) ≤ 1
sample-one m c n k false s = omega arith
sample-one m c n k true s = by s.packets where
  if-one : (b : Bool) → (if b then 1 else 0) ≤ 1
  if-one true = omega arith
  if-one false = omega arith

  by : (qs : List (List ℕ)) → count_by (is_of_ring m c) (origins_in (together (origin.Sample n k s.list) qs)) ≤ 1
  by [] = omega arith
  by (q ∷ qs) =
      let o = origin.Sample n k s.list in
      let one : count_by (is_of_ring m c) (origins_in (together o (q ∷ qs))) ≡ count_by (is_of_ring m c) (o ∷ []) = ap (count_by (is_of_ring m c)) (origins-together o (q ∷ qs) (omega arith)) in
      omega (arith, one, if-one (nat_eq n m && nat_eq k c), sum_by-cons (λ x. if is_of_ring m c x then 1 else 0) o [])

-- no act does more than 32 deeds at a ring, where each sample of it that waits is one that may come
pub deeds-and-waits-few : (d : Profile) (m c : ℕ) (log : List Act) → length (deeds_of d m c log) + count_by (is_of_ring m c) (origins_in (waits d log)) ≤ 32 * length log
deeds-and-waits-few d m c [] = omega arith
deeds-and-waits-few d m c (Heard x ∷ log) =
    let ds = deeds_of d m c log in
    let reply = reply_in d (past_of d log) x in
    omega (
      arith,
      deeds-and-waits-few d m c log,
      if-few (is_newest m log) (ordered_by d c (Heard x) log ds) ds (32 + length ds) (ordered-few d c (Heard x) log ds) (omega arith),
      count-origins-append (is_of_ring m c) (waits d log) (reply_laid reply),
      reply-of-none m c reply,
    )
deeds-and-waits-few d m c (Refused packet code ∷ log) =
    let reply = Some (packet_of (Err code)) in
    omega (arith, deeds-and-waits-few d m c log, count-origins-append (is_of_ring m c) (waits d log) (reply_laid reply), reply-of-none m c reply)
deeds-and-waits-few d m c (Opened at ∷ log) = omega (arith, deeds-and-waits-few d m c log)
deeds-and-waits-few d m c (Took n k (Sample s) ∷ log) =
    let ds = deeds_of d m c log in
    let b = passes (deeds_of d n k log) s.list in
    omega (
      arith,
      deeds-and-waits-few d m c log,
      if-few (nat_eq n m && nat_eq k c) (TookItem (Sample s) ∷ ds) ds (1 + length ds) (omega arith) (omega arith),
      count-origins-append (is_of_ring m c) (waits d log) (sample_laid b n k s),
      sample-one m c n k b s,
    )
deeds-and-waits-few d m c (Took n k (Marker x) ∷ log) =
    let ds = deeds_of d m c log in
    omega (
      arith,
      deeds-and-waits-few d m c log,
      if-few (nat_eq n m && nat_eq k c) (TookItem (Marker x) ∷ ds) ds (1 + length ds) (omega arith) (omega arith),
    )
deeds-and-waits-few d m c (CameBack n k past ∷ log) = omega (arith, deeds-and-waits-few d m c log)
deeds-and-waits-few d m c (Sent n ∷ log) = omega (arith, deeds-and-waits-few d m c log, count-origins-drop (is_of_ring m c) n (waits d log))
deeds-and-waits-few d m c (HungUp ∷ log) =
    let ds = deeds_of d m c log in
    omega (
      arith,
      deeds-and-waits-few d m c log,
      if-few (is_newest m log) (ordered_by d c HungUp log ds) ds (32 + length ds) (ordered-few d c HungUp log ds) (omega arith),
    )
deeds-and-waits-few d m c (Discarded ∷ log) =
    let os = origins_in (waits d log) in
    omega (arith, deeds-and-waits-few d m c log, length-append (unsent_by m c os) (deeds_of d m c log), unsent-length m c os)

pub deeds-few : (d : Profile) (m c : ℕ) (log : List Act) → length (deeds_of d m c log) ≤ 32 * length log
deeds-few d m c log = omega (arith, deeds-and-waits-few d m c log)

pub opened-more : (at : ℕ → Bool) (log : List Act) → opened (Opened at ∷ log) ≡ 1 + opened log
opened-more at log = sum_by-cons (λ a. if is_opening a then 1 else 0) (Opened at) log

not-newest : (m : ℕ) (log : List Act) → opened log ≤ m → is_newest m log ≡ false
not-newest m log least =
    elim (eqb_tells (m + 1) (opened log)) [
      | inl w ↦ absurd (omega (arith, w.1, least))
      | inr w ↦ w.0
    ]

not-taken : (n m k c : ℕ) → n < m → (nat_eq n m && nat_eq k c) ≡ false
not-taken n m k c less =
    elim (eqb_tells n m) [
      | inl w ↦ absurd (omega (arith, w.1, less))
      | inr w ↦ ap (λ b. b && nat_eq k c) w.0
    ]

-- no sample of a measurement that was not opened waits
sample-none : (n m k c : ℕ) (b : Bool) (s : SampleParts) → n < m → count_by (is_of_ring m c) (origins_in (sample_laid b n k s)) ≡ 0
sample-none n m k c false s less = refl
sample-none n m k c true s less = by s.packets where
  by : (qs : List (List ℕ)) → count_by (is_of_ring m c) (origins_in (together (origin.Sample n k s.list) qs)) ≡ 0
  by [] = refl
  by (q ∷ qs) =
      let o = origin.Sample n k s.list in
      ap (count_by (is_of_ring m c)) (origins-together o (q ∷ qs) (omega arith))
      ∙ sum_by-cons (λ x. if is_of_ring m c x then 1 else 0) o [] ∙ ap (λ b. (if b then 1 else 0) + 0) (not-taken n m k c less)

waits-none : (d : Profile) (m c : ℕ) (log : List Act) → IsLog d log → opened log ≤ m → count_by (is_of_ring m c) (origins_in (waits d log)) ≡ 0
waits-none d m c [] is least = refl
waits-none d m c (Heard x ∷ log) is least =
    let reply = reply_in d (past_of d log) x in
    omega (arith, waits-none d m c log is.2 least, count-origins-append (is_of_ring m c) (waits d log) (reply_laid reply), reply-of-none m c reply)
waits-none d m c (Refused packet code ∷ log) is least =
    let reply = Some (packet_of (Err code)) in
    omega (arith, waits-none d m c log is.2 least, count-origins-append (is_of_ring m c) (waits d log) (reply_laid reply), reply-of-none m c reply)
waits-none d m c (Opened at ∷ log) is least = waits-none d m c log is.1 (omega (arith, least, opened-more at log))
waits-none d m c (Took n k (Sample s) ∷ log) is least =
    let b = passes (deeds_of d n k log) s.list in
    omega (arith, waits-none d m c log is.2 least, count-origins-append (is_of_ring m c) (waits d log) (sample_laid b n k s), sample-none n m k c b s (omega (arith, is.0, least)))
waits-none d m c (Took n k (Marker x) ∷ log) is least = waits-none d m c log is.2 least
waits-none d m c (CameBack n k past ∷ log) is least = waits-none d m c log is.1 least
waits-none d m c (Sent n ∷ log) is least = omega (arith, waits-none d m c log is.1 least, count-origins-drop (is_of_ring m c) n (waits d log))
waits-none d m c (HungUp ∷ log) is least = waits-none d m c log is least
waits-none d m c (Discarded ∷ log) is least = refl

none-long : {X : Type 0} (xs : List X) → length xs ≡ 0 → xs ≡ []
none-long [] is = refl
none-long (x ∷ xs) is = absurd (omega (arith, is))

-- nothing was done in a measurement that was not opened
pub deeds-none : (d : Profile) (m c : ℕ) (log : List Act) → IsLog d log → opened log ≤ m → deeds_of d m c log ≡ []
deeds-none d m c [] is least = refl
deeds-none d m c (Heard x ∷ log) is least =
    ap (λ b. if b then ordered_by d c (Heard x) log (deeds_of d m c log) else deeds_of d m c log) (not-newest m log least) ∙ deeds-none d m c log is.2 least
deeds-none d m c (Refused packet code ∷ log) is least = deeds-none d m c log is.2 least
deeds-none d m c (Opened at ∷ log) is least = deeds-none d m c log is.1 (omega (arith, least, opened-more at log))
deeds-none d m c (Took n k x ∷ log) is least =
    ap (λ b. if b then TookItem x ∷ deeds_of d m c log else deeds_of d m c log) (not-taken n m k c (omega (arith, is.0, least))) ∙ deeds-none d m c log is.2 least
deeds-none d m c (CameBack n k past ∷ log) is least = deeds-none d m c log is.1 least
deeds-none d m c (Sent n ∷ log) is least = deeds-none d m c log is.1 least
deeds-none d m c (HungUp ∷ log) is least =
    ap (λ b. if b then ordered_by d c HungUp log (deeds_of d m c log) else deeds_of d m c log) (not-newest m log least) ∙ deeds-none d m c log is least
deeds-none d m c (Discarded ∷ log) is least =
    let os = origins_in (waits d log) in
    ap (λ ds. ds ++ deeds_of d m c log) (none-long (unsent_by m c os) (unsent-length m c os ∙ waits-none d m c log is least)) ∙ deeds-none d m c log is least

-- nothing came back of a measurement that was not opened
pub back-none : (d : Profile) (m c : ℕ) (log : List Act) → IsLog d log → opened log ≤ m → is_back m c log ≡ false
back-none d m c [] is least = refl
back-none d m c (Heard x ∷ log) is least = back-none d m c log is.2 least
back-none d m c (Refused packet code ∷ log) is least = back-none d m c log is.2 least
back-none d m c (Opened at ∷ log) is least = back-none d m c log is.1 (omega (arith, least, opened-more at log))
back-none d m c (Took n k x ∷ log) is least = back-none d m c log is.2 least
back-none d m c (CameBack n k past ∷ log) is least = ap (λ b. b || is_back m c log) (not-taken n m k c (omega (arith, is.0.there, least))) ∙ back-none d m c log is.1 least
back-none d m c (Sent n ∷ log) is least = back-none d m c log is.1 least
back-none d m c (HungUp ∷ log) is least = back-none d m c log is least
back-none d m c (Discarded ∷ log) is least = back-none d m c log is least

-- nor has an event channel a part of it
pub part-none : (m c : ℕ) (log : List Act) → opened log ≤ m → has_part m c log ≡ false
part-none m c [] least = refl
part-none m c (Heard x ∷ log) least = part-none m c log least
part-none m c (Refused packet code ∷ log) least = part-none m c log least
part-none m c (Opened at ∷ log) least =
    elim (eqb_tells m (opened log)) [
      | inl w ↦ absurd (omega (arith, least, opened-more at log, w.1))
      | inr w ↦ ap (λ b. if b then at c else has_part m c log) w.0 ∙ part-none m c log (omega (arith, least, opened-more at log))
    ]
part-none m c (Took n k x ∷ log) least = part-none m c log least
part-none m c (CameBack n k past ∷ log) least = part-none m c log least
part-none m c (Sent n ∷ log) least = part-none m c log least
part-none m c (HungUp ∷ log) least = part-none m c log least
part-none m c (Discarded ∷ log) least = part-none m c log least

-- behind an opening the newest measurement is out where it has a part, and the others as before
pub out-newest : (d : Profile) (c : ℕ) (at : ℕ → Bool) (log : List Act) → IsLog d log → is_out (opened log) c (Opened at ∷ log) ≡ at c
out-newest d c at log is =
    elim (eqb_tells (opened log) (opened log)) [
      | inl w ↦
          ap (λ b. (if b then at c else has_part (opened log) c log) && not (is_back (opened log) c log)) w.0
          ∙ ap (λ b. at c && not b) (back-none d (opened log) c log is (omega arith)) ∙ and_true (at c)
      | inr w ↦ absurd (w.1 refl)
    ] where
      and_true : (b : Bool) → (b && true) ≡ b
      and_true true = refl
      and_true false = refl

pub out-other : (m c : ℕ) (at : ℕ → Bool) (log : List Act) → m ≢ opened log → is_out m c (Opened at ∷ log) ≡ is_out m c log
out-other m c at log other =
    elim (eqb_tells m (opened log)) [
      | inl w ↦ absurd (other w.1)
      | inr w ↦ ap (λ b. (if b then at c else has_part m c log) && not (is_back m c log)) w.0
    ]

-- where it has none, the same is out as before
pub out-no-part : (d : Profile) (m c : ℕ) (at : ℕ → Bool) (log : List Act) → IsLog d log → at c ≡ false → is_out m c (Opened at ∷ log) ≡ is_out m c log
out-no-part d m c at log is none =
    elim (eqb_tells m (opened log)) [
      | inl w ↦
          ap (λ k. is_out k c (Opened at ∷ log)) w.1 ∙ out-newest d c at log is ∙ none
          ∙ sym (ap (λ k. is_out k c log) w.1 ∙ ap (λ b. b && not (is_back (opened log) c log)) (part-none (opened log) c log (omega arith)))
      | inr w ↦ out-other m c at log w.1
    ]

-- a part that is out is a part, and did not come back
pub out-part : (m c : ℕ) (log : List Act) → is_out m c log ≡ true → has_part m c log ≡ true
out-part m c log is = left (has_part m c log) (not (is_back m c log)) is where
  left : (a b : Bool) → (a && b) ≡ true → a ≡ true
  left true b is = refl
  left false b is = absurd (false≢true is)

pub out-back : (m c : ℕ) (log : List Act) → is_out m c log ≡ true → is_back m c log ≡ false
out-back m c log is = right (has_part m c log) (is_back m c log) is where
  right : (a b : Bool) → (a && not b) ≡ true → b ≡ false
  right true true is = absurd (false≢true is)
  right true false is = refl
  right false b is = absurd (false≢true is)
