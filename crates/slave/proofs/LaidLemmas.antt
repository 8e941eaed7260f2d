-- What was laid out, in order: the answers, and what is from each ring; and what became of it.
use Rattle.std.proofs.Common.{◌≡◌, ℕ, zero, suc, ◌+◌, Bool, true, false, ◌&&◌, ◌||◌, nat_eq, if◌then◌else◌, List, [], ◌∷◌, ◌++◌, append-nil, append_assoc, length, length-append, take as first, drop, refl, sym, ap, ◌∙◌, subst, arith, ◌⊎◌, inl, inr}
use Rattle.std.specs.Prelude.{◌==◌, ◌<◌, count_by, flat_map, option_to_list, Err, Option, Some, None}
use Rattle.std.specs.List.{AllByRecursion}
use mathlib.Core.List.{IsPrefix}
use Rattle.std.proofs.lemmas.Bool.{false≢true}
use Rattle.std.proofs.lemmas.Bool.Decides.{eqb_tells}
use Rattle.std.proofs.lemmas.List.{map-append, take-append-drop}
use Rattle.std.proofs.lemmas.List.Concat.{flat_map-append}
use Rattle.std.proofs.lemmas.List.Elements.{filter-append}
use Rattle.std.proofs.lemmas.List.Sums.{sum_by-append, sum_by-cons, sum_by-take-drop}
use Rattle.xcp_base.specs.Samples.{SampleParts}
use Rattle.xcp_base.specs.declared.item.Item.TheVariants.{Marker, Sample}
use Rattle.xcp_base.specs.declared.limits.TheConstants.{MAX_LISTS}
use Rattle.session.specs.Exchanges.{reply_in}
use Rattle.session.specs.Fields.{packet_of}
use Rattle.session.specs.declared.profile.Profile.{Profile}
use Rattle.daq_engine.proofs.PidLemmas.{all-append, all-front}
use Rattle.slave_outbox.specs.Deeds.{Deed, Started, Stopped, Unsent, is_unsent_of, passed, passes, unsent_of, written_by}
use Rattle.slave_outbox.specs.Deeds.{Took as TookItem}
use Rattle.slave_outbox.specs.Deeds.{runs as runs_there}
use Rattle.slave_outbox.specs.Outboxes.{Laid, origins_in, packets_in}
use Rattle.slave_outbox.specs.Origins.{is_reply}
use Rattle.slave_outbox.specs.declared.origin.Origin.{Origin}
use Rattle.slave_outbox.specs.declared.origin.Origin.TheVariants as origin
use Rattle.slave_channels.specs.Ordering.{one_if, starts_noted, stops_noted}
use Rattle.slave.specs.Log.{Act, CameBack, Discarded, Heard, HungUp, Opened, Refused, Sent, Took, deeds_of, is_back, is_newest, is_of_ring, is_out, is_sample_of, laid, laid_by, ordered_by, past_of, reply_laid, sample_laid, sent_laid, starts_on, stops_at, thrown, unsent_by, unsent_one, waits, with_starts}
use Rattle.slave.specs.Session.{IsAnswered, IsSince, NoneThrows, answers_in, ends, from_ring, replies_by, replies_of, sample_of}
use Rattle.slave.specs.Standing.{IsLog}
use Rattle.slave.specs.Thinned.{IsWithout}
use Rattle.slave.proofs.DeedLemmas.{out-back, unsent-passed}
use Rattle.slave.proofs.ThinnedLemmas.{without-behind, without-filter, without-packets, without-same}
use Rattle.slave.proofs.TogetherLemmas.{count-ends, count-filter, filter-else, filter-here, origins-together}
use Rattle.transmitter.specs.Items.{count_of}

-- what is laid out later stands behind, and so is what is sent later
grows : (d : Profile) (later earlier : List Act) → IsPrefix (laid d earlier) (laid d (later ++ earlier))
grows d [] earlier = ([], append-nil (laid d earlier))
grows d (act ∷ later) earlier =
    let before = grows d later earlier in
    let own = laid_by d act (later ++ earlier) in
    (before.0 ++ own, sym (append_assoc (laid d earlier) before.0 own) ∙ ap (λ xs. xs ++ own) before.1)

pub in-order : (d : Profile) (log later earlier : List Act) → log ≡ later ++ earlier → IsPrefix (laid d earlier) (laid d log)
in-order d log later earlier is = subst (λ xs. IsPrefix (laid d earlier) (laid d xs)) (sym is) (grows d later earlier)

sent-grows : (d : Profile) (later earlier : List Act) → IsPrefix (sent_laid d earlier) (sent_laid d (later ++ earlier))
sent-grows d [] earlier = ([], append-nil (sent_laid d earlier))
sent-grows d (Heard x ∷ later) earlier = sent-grows d later earlier
sent-grows d (Refused packet code ∷ later) earlier = sent-grows d later earlier
sent-grows d (Opened at ∷ later) earlier = sent-grows d later earlier
sent-grows d (Took m c x ∷ later) earlier = sent-grows d later earlier
sent-grows d (CameBack m c past ∷ later) earlier = sent-grows d later earlier
sent-grows d (Sent n ∷ later) earlier =
    let before = sent-grows d later earlier in
    let own = first n (waits d (later ++ earlier)) in
    (before.0 ++ own, sym (append_assoc (sent_laid d earlier) before.0 own) ∙ ap (λ xs. xs ++ own) before.1)
sent-grows d (HungUp ∷ later) earlier = sent-grows d later earlier
sent-grows d (Discarded ∷ later) earlier = sent-grows d later earlier

pub sent-in-order : (d : Profile) (log later earlier : List Act) → log ≡ later ++ earlier → IsPrefix (sent_laid d earlier) (sent_laid d log)
sent-in-order d log later earlier is = subst (λ xs. IsPrefix (sent_laid d earlier) (sent_laid d xs)) (sym is) (sent-grows d later earlier)

-- each that was laid out was sent or thrown away, or waits
count-append : {X : Type 0} (test : X → Bool) (xs ys : List X) → count_by test (xs ++ ys) ≡ count_by test xs + count_by test ys
count-append test xs ys = sum_by-append (λ x. if test x then 1 else 0) xs ys

pub each-once : (d : Profile) (test : Laid → Bool) (log : List Act) → count_by test (laid d log) ≡ count_by test (sent_laid d log) + count_by test (thrown d log) + count_by test (waits d log)
each-once d test [] = refl
each-once d test (Heard x ∷ log) =
    let own = reply_laid (reply_in d (past_of d log) x) in
    omega (arith, each-once d test log, count-append test (laid d log) own, count-append test (waits d log) own)
each-once d test (Refused packet code ∷ log) =
    let own = reply_laid (Some (packet_of (Err code))) in
    omega (arith, each-once d test log, count-append test (laid d log) own, count-append test (waits d log) own)
each-once d test (Opened at ∷ log) = ap (count_by test) (append-nil (laid d log)) ∙ each-once d test log
each-once d test (Took m c (Sample s) ∷ log) =
    let own = sample_laid (passes (deeds_of d m c log) s.list) m c s in
    omega (arith, each-once d test log, count-append test (laid d log) own, count-append test (waits d log) own)
each-once d test (Took m c (Marker k) ∷ log) = ap (count_by test) (append-nil (laid d log)) ∙ each-once d test log
each-once d test (CameBack m c past ∷ log) = ap (count_by test) (append-nil (laid d log)) ∙ each-once d test log
each-once d test (Sent n ∷ log) =
    omega (
      arith,
      ap (count_by test) (append-nil (laid d log)),
      each-once d test log,
      count-append test (sent_laid d log) (first n (waits d log)),
      sum_by-take-drop (λ x. if test x then 1 else 0) (waits d log) n,
    )
each-once d test (HungUp ∷ log) = ap (count_by test) (append-nil (laid d log)) ∙ each-once d test log
each-once d test (Discarded ∷ log) =
    omega (arith, ap (count_by test) (append-nil (laid d log)), each-once d test log, count-append test (thrown d log) (waits d log))

all-back : {X : Type 0} (P : X → Type 0) (xs ys : List X) → AllByRecursion P (xs ++ ys) → AllByRecursion P ys
all-back P [] ys all = all
all-back P (x ∷ xs) ys all = all-back P xs ys all.1

lays-more : (P : Laid → Type 0) (d : Profile) (act : Act) (log : List Act) → AllByRecursion P (laid d (act ∷ log)) → AllByRecursion P (sent_laid d log) × AllByRecursion P (waits d log)
    → AllByRecursion P (sent_laid d log) × AllByRecursion P (waits d log ++ laid_by d act log)
lays-more P d act log all before = (before.0, all-append P (waits d log) (laid_by d act log) before.1 (all-back P (laid d log) (laid_by d act log) all))

-- what holds of all that was laid out holds of what was sent, and of what waits
pub all-parts : (P : Laid → Type 0) (d : Profile) (log : List Act) → AllByRecursion P (laid d log) → AllByRecursion P (sent_laid d log) × AllByRecursion P (waits d log)
all-parts P d [] all = (tt, tt)
all-parts P d (Heard x ∷ log) all = lays-more P d (Heard x) log all (all-parts P d log (all-front P (laid d log) (laid_by d (Heard x) log) all))
all-parts P d (Refused packet code ∷ log) all = lays-more P d (Refused packet code) log all (all-parts P d log (all-front P (laid d log) (laid_by d (Refused packet code) log) all))
all-parts P d (Opened at ∷ log) all = all-parts P d log (all-front P (laid d log) [] all)
all-parts P d (Took m c (Sample s) ∷ log) all =
    lays-more P d (Took m c (Sample s)) log all (all-parts P d log (all-front P (laid d log) (laid_by d (Took m c (Sample s)) log) all))
all-parts P d (Took m c (Marker k) ∷ log) all = all-parts P d log (all-front P (laid d log) [] all)
all-parts P d (CameBack m c past ∷ log) all = all-parts P d log (all-front P (laid d log) [] all)
all-parts P d (Sent n ∷ log) all =
    let before = all-parts P d log (all-front P (laid d log) [] all) in
    let ws = waits d log in
    let both = subst (AllByRecursion P) (sym (take-append-drop n ws)) before.1 in
    (all-append P (sent_laid d log) (first n ws) before.0 (all-front P (first n ws) (drop n ws) both), all-back P (first n ws) (drop n ws) both)
all-parts P d (HungUp ∷ log) all = all-parts P d log (all-front P (laid d log) [] all)
all-parts P d (Discarded ∷ log) all = ((all-parts P d log (all-front P (laid d log) [] all)).0, tt)

-- as long as nothing is thrown away, what is laid out is sent or waits, in order
since-more : (d : Profile) (act : Act) (log earlier : List Act) → sent_laid d (act ∷ log) ++ waits d (act ∷ log) ≡ (sent_laid d log ++ waits d log) ++ laid_by d act log → IsSince d log earlier → IsSince d (act ∷ log) earlier
since-more d act log earlier more before =
    let own = laid_by d act log in
    let old = waits d earlier in
    record {
      since = before.since ++ own;
      laid_is = ap (λ xs. xs ++ own) before.laid_is ∙ append_assoc (laid d earlier) before.since own;
      sent_is = more ∙ ap (λ xs. xs ++ own) before.sent_is ∙ append_assoc (sent_laid d earlier) (old ++ before.since) own ∙ ap (λ xs. sent_laid d earlier ++ xs) (append_assoc old before.since own);
    }

none-more : (d : Profile) (log : List Act) → sent_laid d log ++ waits d log ≡ (sent_laid d log ++ waits d log) ++ []
none-more d log = sym (append-nil (sent_laid d log ++ waits d log))

own-more : (d : Profile) (log : List Act) (own : List Laid) → sent_laid d log ++ (waits d log ++ own) ≡ (sent_laid d log ++ waits d log) ++ own
own-more d log own = sym (append_assoc (sent_laid d log) (waits d log) own)

sent-more : (d : Profile) (n : ℕ) (log : List Act) → (sent_laid d log ++ first n (waits d log)) ++ drop n (waits d log) ≡ (sent_laid d log ++ waits d log) ++ []
sent-more d n log =
    append_assoc (sent_laid d log) (first n (waits d log)) (drop n (waits d log)) ∙ ap (λ xs. sent_laid d log ++ xs) (take-append-drop n (waits d log)) ∙ none-more d log

since-so : (d : Profile) (later earlier : List Act) → NoneThrows later → IsSince d (later ++ earlier) earlier
since-so d [] earlier none = record {
  since = [];
  laid_is = sym (append-nil (laid d earlier));
  sent_is = ap (λ xs. sent_laid d earlier ++ xs) (sym (append-nil (waits d earlier)));
}
since-so d (Heard x ∷ later) earlier none =
    let log = later ++ earlier in
    since-more d (Heard x) log earlier (own-more d log (laid_by d (Heard x) log)) (since-so d later earlier none)
since-so d (Refused packet code ∷ later) earlier none =
    let log = later ++ earlier in
    since-more d (Refused packet code) log earlier (own-more d log (laid_by d (Refused packet code) log)) (since-so d later earlier none)
since-so d (Opened at ∷ later) earlier none = since-more d (Opened at) (later ++ earlier) earlier (none-more d (later ++ earlier)) (since-so d later earlier none)
since-so d (Took m c (Sample s) ∷ later) earlier none =
    let log = later ++ earlier in
    since-more d (Took m c (Sample s)) log earlier (own-more d log (laid_by d (Took m c (Sample s)) log)) (since-so d later earlier none)
since-so d (Took m c (Marker k) ∷ later) earlier none =
    since-more d (Took m c (Marker k)) (later ++ earlier) earlier (none-more d (later ++ earlier)) (since-so d later earlier none)
since-so d (CameBack m c past ∷ later) earlier none =
    since-more d (CameBack m c past) (later ++ earlier) earlier (none-more d (later ++ earlier)) (since-so d later earlier none)
since-so d (Sent n ∷ later) earlier none = since-more d (Sent n) (later ++ earlier) earlier (sent-more d n (later ++ earlier)) (since-so d later earlier none)
since-so d (HungUp ∷ later) earlier none = since-more d HungUp (later ++ earlier) earlier (none-more d (later ++ earlier)) (since-so d later earlier none)
since-so d (Discarded ∷ later) earlier none = absurd (false≢true (sym none))

pub is-since : (d : Profile) (log later earlier : List Act) → log ≡ later ++ earlier → NoneThrows later → IsSince d log earlier
is-since d log later earlier is none = subst (λ xs. IsSince d xs earlier) (sym is) (since-so d later earlier none)

-- what went by is a front of what was laid out, and what was sent is that without what was thrown away
record IsGone (d : Profile) (log : List Act) : Type 0 where
  front : List Laid
  laid_is : laid d log ≡ front ++ waits d log
  sent_is : IsWithout (length (thrown d log)) front (sent_laid d log)

gone-same : (d : Profile) (act : Act) (log : List Act) → thrown d (act ∷ log) ≡ thrown d log → sent_laid d (act ∷ log) ≡ sent_laid d log → waits d (act ∷ log) ≡ waits d log ++ laid_by d act log → IsGone d log → IsGone d (act ∷ log)
gone-same d act log same sent wait gone = record {
  front = gone.front;
  laid_is = ap (λ xs. xs ++ laid_by d act log) gone.laid_is ∙ append_assoc gone.front (waits d log) (laid_by d act log) ∙ ap (λ xs. gone.front ++ xs) (sym wait);
  sent_is = subst (λ xs. IsWithout (length xs) gone.front (sent_laid d (act ∷ log))) (sym same) (subst (λ xs. IsWithout (length (thrown d log)) gone.front xs) (sym sent) gone.sent_is);
}

is-gone : (d : Profile) (log : List Act) → IsGone d log
is-gone d [] = record { front = []; laid_is = refl; sent_is = (refl, refl) }
is-gone d (Heard x ∷ log) = gone-same d (Heard x) log refl refl refl (is-gone d log)
is-gone d (Refused packet code ∷ log) = gone-same d (Refused packet code) log refl refl refl (is-gone d log)
is-gone d (Opened at ∷ log) = gone-same d (Opened at) log refl refl (sym (append-nil (waits d log))) (is-gone d log)
is-gone d (Took m c (Sample s) ∷ log) = gone-same d (Took m c (Sample s)) log refl refl refl (is-gone d log)
is-gone d (Took m c (Marker k) ∷ log) = gone-same d (Took m c (Marker k)) log refl refl (sym (append-nil (waits d log))) (is-gone d log)
is-gone d (CameBack m c past ∷ log) = gone-same d (CameBack m c past) log refl refl (sym (append-nil (waits d log))) (is-gone d log)
is-gone d (Sent n ∷ log) =
    let gone = is-gone d log in
    let wait = waits d log in
    record {
      front = gone.front ++ first n wait;
      laid_is =
          append-nil (laid d log) ∙ gone.laid_is ∙ ap (λ xs. gone.front ++ xs) (sym (take-append-drop n wait))
          ∙ sym (append_assoc gone.front (first n wait) (drop n wait));
      sent_is = without-same (length (thrown d log)) gone.front (sent_laid d log) (first n wait) gone.sent_is;
    }
is-gone d (HungUp ∷ log) = gone-same d HungUp log refl refl (sym (append-nil (waits d log))) (is-gone d log)
is-gone d (Discarded ∷ log) =
    let gone = is-gone d log in
    let wait = waits d log in
    record {
      front = gone.front ++ wait;
      laid_is = append-nil (laid d log) ∙ gone.laid_is ∙ sym (append-nil (gone.front ++ wait));
      sent_is = subst (λ k. IsWithout k (gone.front ++ wait) (sent_laid d log)) (sym (length-append (thrown d log) wait))
          (without-behind (length (thrown d log)) gone.front (sent_laid d log) wait gone.sent_is);
    }

-- so with what waits
pub sent-are : (d : Profile) (log : List Act) → IsWithout (length (thrown d log) + length (waits d log)) (laid d log) (sent_laid d log)
sent-are d log =
    let gone = is-gone d log in
    subst (λ xs. IsWithout (length (thrown d log) + length (waits d log)) xs (sent_laid d log)) (sym gone.laid_is)
    (without-behind (length (thrown d log)) gone.front (sent_laid d log) (waits d log) gone.sent_is)

pub packets-append : (xs ys : List Laid) → packets_in (xs ++ ys) ≡ packets_in xs ++ packets_in ys
packets-append xs ys = map-append (λ (x : Laid). x.packet) xs ys

answers-append : (xs ys : List Laid) → answers_in (xs ++ ys) ≡ answers_in xs ++ answers_in ys
answers-append xs ys = filter-append (λ (x : Laid). is_reply x.origin) xs ys

answer-packets-append : (xs ys : List Laid) → packets_in (answers_in (xs ++ ys)) ≡ packets_in (answers_in xs) ++ packets_in (answers_in ys)
answer-packets-append xs ys = ap packets_in (answers-append xs ys) ∙ packets-append (answers_in xs) (answers_in ys)

-- the answer of an act is the reply to its packet
reply-answers : (reply : Option (List ℕ)) → packets_in (answers_in (reply_laid reply)) ≡ option_to_list reply
reply-answers None = refl
reply-answers (Some packet) = refl

sample-answers : (b : Bool) (m c : ℕ) (s : SampleParts) → answers_in (sample_laid b m c s) ≡ []
sample-answers false m c s = refl
sample-answers true m c s = filter-else is_reply (origin.Sample m c s.list) s.packets refl

answers-by : (d : Profile) (act : Act) (log : List Act) → packets_in (answers_in (laid_by d act log)) ≡ replies_by d act log
answers-by d (Heard x) log = reply-answers (reply_in d (past_of d log) x)
answers-by d (Refused packet code) log = refl
answers-by d (Opened at) log = refl
answers-by d (Took m c (Sample s)) log = ap packets_in (sample-answers (passes (deeds_of d m c log) s.list) m c s)
answers-by d (Took m c (Marker k)) log = refl
answers-by d (CameBack m c past) log = refl
answers-by d (Sent n) log = refl
answers-by d HungUp log = refl
answers-by d Discarded log = refl

pub answers-laid : (d : Profile) (log : List Act) → packets_in (answers_in (laid d log)) ≡ replies_of d log
answers-laid d [] = refl
answers-laid d (act ∷ log) =
    answer-packets-append (laid d log) (laid_by d act log)
    ∙ ap (λ qs. qs ++ packets_in (answers_in (laid_by d act log))) (answers-laid d log)
    ∙ ap (λ qs. replies_of d log ++ qs) (answers-by d act log)

-- those that were sent since nothing waited are the first of those that were laid out since
pub answers-sent : (d : Profile) (log : List Act) → (n : ℕ) × IsWithout n (replies_of d log) (packets_in (answers_in (sent_laid d log)))
answers-sent d log =
    let answers = without-filter (λ (x : Laid). is_reply x.origin) (length (thrown d log) + length (waits d log)) (laid d log) (sent_laid d log) (sent-are d log) in
    let packets = without-packets answers.0 (answers_in (laid d log)) (answers_in (sent_laid d log)) answers.1 in
    (answers.0, subst (λ qs. IsWithout answers.0 qs (packets_in (answers_in (sent_laid d log)))) (answers-laid d log) packets)

pub is-answered : (d : Profile) (log later earlier : List Act) → log ≡ later ++ earlier → NoneThrows later → waits d earlier ≡ [] → IsAnswered d log earlier
is-answered d log later earlier is none nothing =
    let so = is-since d log later earlier is none in
    let sent = sent_laid d log in
    let old = sent_laid d earlier in
    let sent_is : sent ++ waits d log ≡ old ++ so.since = so.sent_is ∙ ap (λ xs. old ++ (xs ++ so.since)) nothing in
    record {
      since = packets_in (answers_in so.since);
      replies_are =
          sym (answers-laid d log) ∙ ap (λ xs. packets_in (answers_in xs)) so.laid_is ∙ answer-packets-append (laid d earlier) so.since
          ∙ ap (λ qs. qs ++ packets_in (answers_in so.since)) (answers-laid d earlier);
      first_are = (
        packets_in (answers_in (waits d log)),
        sym (answer-packets-append sent (waits d log)) ∙ ap (λ xs. packets_in (answers_in xs)) sent_is ∙ answer-packets-append old so.since,
      );
    }

-- what no order changes, the orders of an act don't
starts-change-not : {X : Type 0} (f : List Deed → X) → ((k : ℕ) (ds : List Deed) → f (Started k ∷ ds) ≡ f ds) → (set : ℕ → Bool) (n : ℕ) (ds : List Deed) → f (starts_noted set n ++ ds) ≡ f ds
starts-change-not f keeps set zero ds = refl
starts-change-not f keeps set (suc n) ds = one (set n) ∙ starts-change-not f keeps set n ds where
  one : (b : Bool) → f ((one_if b (Started n) ++ starts_noted set n) ++ ds) ≡ f (starts_noted set n ++ ds)
  one true = keeps n (starts_noted set n ++ ds)
  one false = refl

stops-change-not : {X : Type 0} (f : List Deed → X) → ((k : ℕ) (ds : List Deed) → f (Stopped k ∷ ds) ≡ f ds) → (set : ℕ → Bool) (n : ℕ) (ds : List Deed) → f (stops_noted set n ++ ds) ≡ f ds
stops-change-not f keeps set zero ds = refl
stops-change-not f keeps set (suc n) ds = one (set n) ∙ stops-change-not f keeps set n ds where
  one : (b : Bool) → f ((one_if b (Stopped n) ++ stops_noted set n) ++ ds) ≡ f (stops_noted set n ++ ds)
  one true = keeps n (stops_noted set n ++ ds)
  one false = refl

orders-change-not : {X : Type 0} (f : List Deed → X) → ((k : ℕ) (ds : List Deed) → f (Started k ∷ ds) ≡ f ds) → ((k : ℕ) (ds : List Deed) → f (Stopped k ∷ ds) ≡ f ds)
    → (d : Profile) (c : ℕ) (act : Act) (log : List Act) (ds : List Deed) → f (ordered_by d c act log ds) ≡ f ds
orders-change-not f starts stops d c act log ds =
    let all = with_starts d c act log ds in
    stops-change-not f stops (λ l. stops_at d act log l && runs_there all l) MAX_LISTS all ∙ starts-change-not f starts (starts_on d c act log) MAX_LISTS ds

ordered-pass : (d : Profile) (c : ℕ) (act : Act) (log : List Act) (ds : List Deed) → passed (ordered_by d c act log ds) ≡ passed ds
ordered-pass = orders-change-not passed (λ k ds. refl) (λ k ds. refl)

if-pass : (b : Bool) (xs ys : List Deed) → passed xs ≡ passed ys → passed (if b then xs else ys) ≡ passed ys
if-pass true xs ys same = same
if-pass false xs ys same = refl

ring-append : (m c : ℕ) (xs ys : List Laid) → from_ring m c (xs ++ ys) ≡ from_ring m c xs ++ from_ring m c ys
ring-append m c xs ys = filter-append (λ (x : Laid). is_of_ring m c x.origin) xs ys

-- a reply is from no ring
reply-no-ring : (m c : ℕ) (reply : Option (List ℕ)) → from_ring m c (reply_laid reply) ≡ []
reply-no-ring m c None = refl
reply-no-ring m c (Some packet) = refl

-- what is laid out of another ring is not of this one
sample-else : (m c n k : ℕ) (b : Bool) (s : SampleParts) → (nat_eq n m && nat_eq k c) ≡ false → from_ring m c (sample_laid b n k s) ≡ []
sample-else m c n k false s other = refl
sample-else m c n k true s other = filter-else (is_of_ring m c) (origin.Sample n k s.list) s.packets other

sample-here : (m c n k : ℕ) (b : Bool) (s : SampleParts) → (nat_eq n m && nat_eq k c) ≡ true → from_ring m c (sample_laid b n k s) ≡ sample_laid b n k s
sample-here m c n k false s this = refl
sample-here m c n k true s this = filter-here (is_of_ring m c) (origin.Sample n k s.list) s.packets this

abbrev pub WrittenOf : Profile → ℕ → ℕ → List Act → Type 0
WrittenOf d m c log = from_ring m c (laid d log) ≡ flat_map (sample_of m c) (passed (deeds_of d m c log))

-- an act that lays nothing out of the ring, and writes nothing
written-on : (d : Profile) (m c : ℕ) (act : Act) (log : List Act) → from_ring m c (laid_by d act log) ≡ [] → passed (deeds_of d m c (act ∷ log)) ≡ passed (deeds_of d m c log) → WrittenOf d m c log → WrittenOf d m c (act ∷ log)
written-on d m c act log none same before =
    ring-append m c (laid d log) (laid_by d act log) ∙ ap (λ xs. from_ring m c (laid d log) ++ xs) none ∙ append-nil (from_ring m c (laid d log))
    ∙ before ∙ ap (flat_map (sample_of m c)) (sym same)

pub is-bool : (b : Bool) → (b ≡ true) ⊎ (b ≡ false)
is-bool true = inl refl
is-bool false = inr refl

pub both-same : (n m k c : ℕ) → (nat_eq n m && nat_eq k c) ≡ true → (n ≡ m) × (k ≡ c)
both-same n m k c is =
    elim (eqb_tells n m) [
      | inl w ↦ elim (eqb_tells k c) [
        | inl v ↦ (w.1, v.1)
        | inr v ↦ absurd (false≢true (sym (ap (λ b. nat_eq n m && b) v.0 ∙ and_false (nat_eq n m)) ∙ is))
      ]
      | inr w ↦ absurd (false≢true (sym (ap (λ b. b && nat_eq k c) w.0) ∙ is))
    ] where
      and_false : (b : Bool) → (b && false) ≡ false
      and_false true = refl
      and_false false = refl

-- a sample more of the ring
passed-more : (b : Bool) (s : SampleParts) (m c : ℕ) → sample_laid b m c s ≡ flat_map (sample_of m c) (if b then s ∷ [] else [])
passed-more true s m c = sym (append-nil (sample_of m c s))
passed-more false s m c = refl

passed-if : (b : Bool) (ss : List SampleParts) (s : SampleParts) → (if b then ss ++ s ∷ [] else ss) ≡ ss ++ (if b then s ∷ [] else [])
passed-if true ss s = refl
passed-if false ss s = sym (append-nil ss)

written-here : (d : Profile) (m c : ℕ) (s : SampleParts) (log : List Act) → (nat_eq m m && nat_eq c c) ≡ true → WrittenOf d m c log → WrittenOf d m c (Took m c (Sample s) ∷ log)
written-here d m c s log this before =
    let ds = deeds_of d m c log in
    let b = passes ds s.list in
    let own = sample_laid b m c s in
    let more : List SampleParts = if b then s ∷ [] else [] in
    ring-append m c (laid d log) own
    ∙ ap (λ xs. from_ring m c (laid d log) ++ xs) (sample-here m c m c b s this ∙ passed-more b s m c)
    ∙ ap (λ xs. xs ++ flat_map (sample_of m c) more) before
    ∙ sym (flat_map-append (sample_of m c) (passed ds) more)
    ∙ ap (flat_map (sample_of m c)) (sym (passed-if b (passed ds) s))
    ∙ ap (λ e. flat_map (sample_of m c) (passed (if e then TookItem (Sample s) ∷ ds else ds))) (sym this)

written-took : (d : Profile) (m c n k : ℕ) (s : SampleParts) (log : List Act) → WrittenOf d m c log → WrittenOf d m c (Took n k (Sample s) ∷ log)
written-took d m c n k s log before =
    elim (is-bool (nat_eq n m && nat_eq k c)) [
      | inl this ↦
          let (same, also) = both-same n m k c this in
          let P : ℕ → ℕ → Type 0 = λ x y. WrittenOf d m c (Took x y (Sample s) ∷ log) in
          subst (λ x. P x k) (sym same) (subst (λ y. P m y) (sym also)
          (written-here d m c s log (ap (λ x. nat_eq x m && nat_eq c c) (sym same) ∙ ap (λ y. nat_eq n m && nat_eq y c) (sym also) ∙ this) before))
      | inr other ↦
          written-on d m c (Took n k (Sample s)) log (sample-else m c n k (passes (deeds_of d n k log) s.list) s other)
          (ap (λ b. passed (if b then TookItem (Sample s) ∷ deeds_of d m c log else deeds_of d m c log)) other) before
    ]

-- what was laid out of a ring are the samples of it that passed
pub written-laid : (d : Profile) (m c : ℕ) (log : List Act) → WrittenOf d m c log
written-laid d m c [] = refl
written-laid d m c (Heard x ∷ log) =
    written-on d m c (Heard x) log (reply-no-ring m c (reply_in d (past_of d log) x))
    (if-pass (is_newest m log) (ordered_by d c (Heard x) log (deeds_of d m c log)) (deeds_of d m c log) (ordered-pass d c (Heard x) log (deeds_of d m c log))) (written-laid d m c log)
written-laid d m c (Refused packet code ∷ log) = written-on d m c (Refused packet code) log refl refl (written-laid d m c log)
written-laid d m c (Opened at ∷ log) = written-on d m c (Opened at) log refl refl (written-laid d m c log)
written-laid d m c (Took n k (Sample s) ∷ log) = written-took d m c n k s log (written-laid d m c log)
written-laid d m c (Took n k (Marker x) ∷ log) =
    written-on d m c (Took n k (Marker x)) log refl (if-pass (nat_eq n m && nat_eq k c) (TookItem (Marker x) ∷ deeds_of d m c log) (deeds_of d m c log) refl) (written-laid d m c log)
written-laid d m c (CameBack n k past ∷ log) = written-on d m c (CameBack n k past) log refl refl (written-laid d m c log)
written-laid d m c (Sent n ∷ log) = written-on d m c (Sent n) log refl refl (written-laid d m c log)
written-laid d m c (HungUp ∷ log) =
    written-on d m c HungUp log refl
    (if-pass (is_newest m log) (ordered_by d c HungUp log (deeds_of d m c log)) (deeds_of d m c log) (ordered-pass d c HungUp log (deeds_of d m c log))) (written-laid d m c log)
written-laid d m c (Discarded ∷ log) = written-on d m c Discarded log refl (unsent-passed m c (origins_in (waits d log)) (deeds_of d m c log)) (written-laid d m c log)

-- what was thrown away of a ring is noted there
abbrev is_there : ℕ → ℕ → ℕ → Origin → Bool
is_there m c l o = is_of_ring m c o && is_sample_of l o

ordered-unsent : (l : ℕ) (d : Profile) (c : ℕ) (act : Act) (log : List Act) (ds : List Deed) → unsent_of (ordered_by d c act log ds) l ≡ unsent_of ds l
ordered-unsent l = orders-change-not (λ ds. unsent_of ds l) (λ k ds. refl) (λ k ds. refl)

if-unsent : (b : Bool) (xs ys : List Deed) (l : ℕ) → unsent_of xs l ≡ unsent_of ys l → unsent_of (if b then xs else ys) l ≡ unsent_of ys l
if-unsent true xs ys l same = same
if-unsent false xs ys l same = refl

unsent-one : (m c l : ℕ) (o : Origin) → count_by (is_unsent_of l) (unsent_one m c o) ≡ (if is_of_ring m c o && is_sample_of l o then 1 else 0)
unsent-one m c l origin.Reply = refl
unsent-one m c l (origin.Sample n k j) = one (nat_eq n m && nat_eq k c) where
  one : (b : Bool) → count_by (is_unsent_of l) (if b then Unsent j ∷ [] else []) ≡ (if b && nat_eq j l then 1 else 0)
  one true = omega (arith, sum_by-cons (λ x. if is_unsent_of l x then 1 else 0) (Unsent j) [])
  one false = refl

unsent-count : (m c l : ℕ) (os : List Origin) → count_by (is_unsent_of l) (unsent_by m c os) ≡ count_by (is_there m c l) os
unsent-count m c l [] = refl
unsent-count m c l (o ∷ os) =
    omega (arith, count-append (is_unsent_of l) (unsent_by m c os) (unsent_one m c o), unsent-count m c l os, unsent-one m c l o, sum_by-cons (λ x. if is_there m c l x then 1 else 0) o os)

pub unsent-noted : (d : Profile) (m c l : ℕ) (log : List Act) → unsent_of (deeds_of d m c log) l ≡ count_by (ends m c l) (thrown d log)
unsent-noted d m c l [] = refl
unsent-noted d m c l (Heard x ∷ log) =
    let ds = deeds_of d m c log in
    if-unsent (is_newest m log) (ordered_by d c (Heard x) log ds) ds l (ordered-unsent l d c (Heard x) log ds) ∙ unsent-noted d m c l log
unsent-noted d m c l (Refused packet code ∷ log) = unsent-noted d m c l log
unsent-noted d m c l (Opened at ∷ log) = unsent-noted d m c l log
unsent-noted d m c l (Took n k x ∷ log) =
    let ds = deeds_of d m c log in
    if-unsent (nat_eq n m && nat_eq k c) (TookItem x ∷ ds) ds l refl ∙ unsent-noted d m c l log
unsent-noted d m c l (CameBack n k past ∷ log) = unsent-noted d m c l log
unsent-noted d m c l (Sent n ∷ log) = unsent-noted d m c l log
unsent-noted d m c l (HungUp ∷ log) =
    let ds = deeds_of d m c log in
    if-unsent (is_newest m log) (ordered_by d c HungUp log ds) ds l (ordered-unsent l d c HungUp log ds) ∙ unsent-noted d m c l log
unsent-noted d m c l (Discarded ∷ log) =
    let ws = waits d log in
    omega (
      arith,
      count-append (is_unsent_of l) (unsent_by m c (origins_in ws)) (deeds_of d m c log),
      unsent-count m c l (origins_in ws),
      count-ends (is_there m c l) ws,
      unsent-noted d m c l log,
      count-append (ends m c l) (thrown d log) ws,
    )

-- each sample that passed has a packet
abbrev HasSome : SampleParts → Type 0
HasSome s = 0 < length s.packets

abbrev HaveSome : Profile → ℕ → ℕ → List Act → Type 0
HaveSome d m c log = AllByRecursion HasSome (passed (deeds_of d m c log))

some-same : (d : Profile) (m c : ℕ) (act : Act) (log : List Act) → passed (deeds_of d m c (act ∷ log)) ≡ passed (deeds_of d m c log) → HaveSome d m c log → HaveSome d m c (act ∷ log)
some-same d m c act log same before = subst (AllByRecursion HasSome) (sym same) before

some-passed : (b : Bool) (ss : List SampleParts) (s : SampleParts) → (b ≡ true → HasSome s) → AllByRecursion HasSome ss → AllByRecursion HasSome (if b then ss ++ s ∷ [] else ss)
some-passed true ss s some before = all-append HasSome ss (s ∷ []) before (some refl, tt)
some-passed false ss s some before = before

some-if : (b : Bool) (ds : List Deed) (s : SampleParts) → AllByRecursion HasSome (passed (TookItem (Sample s) ∷ ds)) → AllByRecursion HasSome (passed ds)
    → AllByRecursion HasSome (passed (if b then TookItem (Sample s) ∷ ds else ds))
some-if true ds s with_it before = with_it
some-if false ds s with_it before = before

some-here : (d : Profile) (m c : ℕ) (s : SampleParts) (log : List Act) → (passes (deeds_of d m c log) s.list ≡ true → HasSome s) → HaveSome d m c log → HaveSome d m c (Took m c (Sample s) ∷ log)
some-here d m c s log some before =
    let ds = deeds_of d m c log in
    some-if (nat_eq m m && nat_eq c c) ds s (some-passed (passes ds s.list) (passed ds) s some before) before

some-took : (d : Profile) (m c n k : ℕ) (s : SampleParts) (log : List Act) → (passes (deeds_of d n k log) s.list ≡ true → HasSome s) → HaveSome d m c log → HaveSome d m c (Took n k (Sample s) ∷ log)
some-took d m c n k s log some before =
    elim (is-bool (nat_eq n m && nat_eq k c)) [
      | inl this ↦
          let (same, also) = both-same n m k c this in
          let P : ℕ → ℕ → Type 0 = λ x y. HaveSome d m c (Took x y (Sample s) ∷ log) in
          let Q : ℕ → ℕ → Type 0 = λ x y. passes (deeds_of d x y log) s.list ≡ true → HasSome s in
          let here : Q m c = subst (λ x. Q x c) same (subst (λ y. Q n y) also some) in
          subst (λ x. P x k) (sym same) (subst (λ y. P m y) (sym also) (some-here d m c s log here before))
      | inr other ↦
          some-same d m c (Took n k (Sample s)) log (ap (λ b. passed (if b then TookItem (Sample s) ∷ deeds_of d m c log else deeds_of d m c log)) other) before
    ]

passed-some : (d : Profile) (m c : ℕ) (log : List Act) → IsLog d log → HaveSome d m c log
passed-some d m c [] is = tt
passed-some d m c (Heard x ∷ log) is =
    let ds = deeds_of d m c log in
    some-same d m c (Heard x) log (if-pass (is_newest m log) (ordered_by d c (Heard x) log ds) ds (ordered-pass d c (Heard x) log ds)) (passed-some d m c log is.2)
passed-some d m c (Refused packet code ∷ log) is = passed-some d m c log is.2
passed-some d m c (Opened at ∷ log) is = passed-some d m c log is.1
passed-some d m c (Took n k (Sample s) ∷ log) is = some-took d m c n k s log (λ pass. (is.1.packets pass).some) (passed-some d m c log is.2)
passed-some d m c (Took n k (Marker x) ∷ log) is =
    let ds = deeds_of d m c log in
    some-same d m c (Took n k (Marker x)) log (if-pass (nat_eq n m && nat_eq k c) (TookItem (Marker x) ∷ ds) ds refl) (passed-some d m c log is.2)
passed-some d m c (CameBack n k past ∷ log) is = passed-some d m c log is.1
passed-some d m c (Sent n ∷ log) is = passed-some d m c log is.1
passed-some d m c (HungUp ∷ log) is =
    let ds = deeds_of d m c log in
    some-same d m c HungUp log (if-pass (is_newest m log) (ordered_by d c HungUp log ds) ds (ordered-pass d c HungUp log ds)) (passed-some d m c log is)
passed-some d m c (Discarded ∷ log) is = some-same d m c Discarded log (unsent-passed m c (origins_in (waits d log)) (deeds_of d m c log)) (passed-some d m c log is)

-- so it has one last packet
samples-end : (m c l : ℕ) (ss : List SampleParts) → AllByRecursion HasSome ss → count_by (λ (x : Laid). x.last && is_sample_of l x.origin) (flat_map (sample_of m c) ss) ≡ count_of l ss
samples-end m c l [] all = refl
samples-end m c l (s ∷ ss) all =
    let test : Laid → Bool = λ x. x.last && is_sample_of l x.origin in
    let o : Origin = origin.Sample m c s.list in
    let one : count_by test (sample_of m c s) ≡ count_by (is_sample_of l) (o ∷ []) =
    count-ends (is_sample_of l) (sample_of m c s) ∙ ap (count_by (is_sample_of l)) (origins-together o s.packets all.0) in
    omega (
      arith,
      count-append test (sample_of m c s) (flat_map (sample_of m c) ss),
      one,
      sum_by-cons (λ x. if is_sample_of l x then 1 else 0) o [],
      samples-end m c l ss all.1,
      sum_by-cons (λ (x : SampleParts). if x.list == l then 1 else 0) s ss,
    )

ends-passed : (d : Profile) (m c l : ℕ) (log : List Act) → IsLog d log → count_by (ends m c l) (laid d log) ≡ count_of l (passed (deeds_of d m c log))
ends-passed d m c l log is =
    count-filter (is_of_ring m c) (is_sample_of l) (laid d log)
    ∙ ap (count_by (λ (x : Laid). x.last && is_sample_of l x.origin)) (written-laid d m c log)
    ∙ samples-end m c l (passed (deeds_of d m c log)) (passed-some d m c log is)

-- those of which it was sent, or waits, count as written
pub ends-written : (d : Profile) (log : List Act) → IsLog d log → (m c l : ℕ) → written_by (deeds_of d m c log) l ≡ count_by (ends m c l) (sent_laid d log) + count_by (ends m c l) (waits d log)
ends-written d log is m c l = omega (arith, ends-passed d m c l log is, each-once d (ends m c l) log, unsent-noted d m c l log)

-- behind what came back nothing is laid out of its ring
abbrev pub NoMore : Profile → ℕ → ℕ → List Act → List Act → Type 0
NoMore d m c later earlier = from_ring m c (laid d (later ++ earlier)) ≡ from_ring m c (laid d earlier)

more-none : (d : Profile) (m c : ℕ) (act : Act) (later earlier : List Act) → from_ring m c (laid_by d act (later ++ earlier)) ≡ [] → NoMore d m c later earlier → NoMore d m c (act ∷ later) earlier
more-none d m c act later earlier none before =
    ring-append m c (laid d (later ++ earlier)) (laid_by d act (later ++ earlier))
    ∙ ap (λ xs. from_ring m c (laid d (later ++ earlier)) ++ xs) none ∙ append-nil (from_ring m c (laid d (later ++ earlier))) ∙ before

or_true : (b : Bool) → (b || true) ≡ true
or_true true = refl
or_true false = refl

-- what came back stays so
pub stays-back : (m c : ℕ) (later earlier : List Act) → is_back m c earlier ≡ true → is_back m c (later ++ earlier) ≡ true
stays-back m c [] earlier back = back
stays-back m c (Heard x ∷ later) earlier back = stays-back m c later earlier back
stays-back m c (Refused packet code ∷ later) earlier back = stays-back m c later earlier back
stays-back m c (Opened at ∷ later) earlier back = stays-back m c later earlier back
stays-back m c (Took n k x ∷ later) earlier back = stays-back m c later earlier back
stays-back m c (CameBack n k past ∷ later) earlier back = ap (λ b. (nat_eq n m && nat_eq k c) || b) (stays-back m c later earlier back) ∙ or_true (nat_eq n m && nat_eq k c)
stays-back m c (Sent n ∷ later) earlier back = stays-back m c later earlier back
stays-back m c (HungUp ∷ later) earlier back = stays-back m c later earlier back
stays-back m c (Discarded ∷ later) earlier back = stays-back m c later earlier back

-- no item is taken of a part that came back
took-else : (d : Profile) (m c n k : ℕ) (log : List Act) → is_back m c log ≡ true → is_out n k log ≡ true → (nat_eq n m && nat_eq k c) ≡ false
took-else d m c n k log back out =
    elim (is-bool (nat_eq n m && nat_eq k c)) [
      | inl this ↦
          let (same, also) = both-same n m k c this in
          absurd (false≢true (sym (out-back n k log out) ∙ (ap (λ x. is_back x k log) same ∙ ap (λ y. is_back m y log) also ∙ back)))
      | inr other ↦ other
    ]

pub no-more : (d : Profile) (m c : ℕ) (later earlier : List Act) → IsLog d (later ++ earlier) → is_back m c earlier ≡ true → NoMore d m c later earlier
no-more d m c [] earlier is back = refl
no-more d m c (Heard x ∷ later) earlier is back = more-none d m c (Heard x) later earlier (reply-no-ring m c (reply_in d (past_of d (later ++ earlier)) x)) (no-more d m c later earlier is.2 back)
no-more d m c (Refused packet code ∷ later) earlier is back = more-none d m c (Refused packet code) later earlier refl (no-more d m c later earlier is.2 back)
no-more d m c (Opened at ∷ later) earlier is back = more-none d m c (Opened at) later earlier refl (no-more d m c later earlier is.1 back)
no-more d m c (Took n k (Sample s) ∷ later) earlier is back =
    more-none d m c (Took n k (Sample s)) later earlier
    (sample-else m c n k (passes (deeds_of d n k (later ++ earlier)) s.list) s (took-else d m c n k (later ++ earlier) (stays-back m c later earlier back) is.1.out)) (no-more d m c later earlier is.2 back)
no-more d m c (Took n k (Marker x) ∷ later) earlier is back = more-none d m c (Took n k (Marker x)) later earlier refl (no-more d m c later earlier is.2 back)
no-more d m c (CameBack n k past ∷ later) earlier is back = more-none d m c (CameBack n k past) later earlier refl (no-more d m c later earlier is.1 back)
no-more d m c (Sent n ∷ later) earlier is back = more-none d m c (Sent n) later earlier refl (no-more d m c later earlier is.1 back)
no-more d m c (HungUp ∷ later) earlier is back = more-none d m c HungUp later earlier refl (no-more d m c later earlier is back)
no-more d m c (Discarded ∷ later) earlier is back = more-none d m c Discarded later earlier refl (no-more d m c later earlier is back)

-- what stands behind other acts in a log is a log
pub log-behind : (d : Profile) (later earlier : List Act) → IsLog d (later ++ earlier) → IsLog d earlier
log-behind d [] earlier is = is
log-behind d (Heard x ∷ later) earlier is = log-behind d later earlier is.2
log-behind d (Refused packet code ∷ later) earlier is = log-behind d later earlier is.2
log-behind d (Opened at ∷ later) earlier is = log-behind d later earlier is.1
log-behind d (Took m c x ∷ later) earlier is = log-behind d later earlier is.2
log-behind d (CameBack m c past ∷ later) earlier is = log-behind d later earlier is.1
log-behind d (Sent n ∷ later) earlier is = log-behind d later earlier is.1
log-behind d (HungUp ∷ later) earlier is = log-behind d later earlier is
log-behind d (Discarded ∷ later) earlier is = log-behind d later earlier is
