-- What a slave stands after once something was sent.
use Rattle.std.proofs.Common.{◌≡◌, ℕ, zero, suc, ◌+◌, ◌<◌, ◌≤◌, min, List, [], ◌∷◌, ◌++◌, append-nil, length, drop, take as first, slice_get, refl, sym, ap, ◌∙◌, subst, arith, inl, inr}
use Rattle.std.proofs.lemmas.Bool.Decides.{leb_tells}
use Rattle.session.specs.Standing.{SessionStandsAfter, SessionState}
use Rattle.slave_outbox.specs.Outboxes.{Laid, OutboxState}
use Rattle.slave.specs.Pages.{page_at}
use Rattle.slave_outbox.specs.Outboxes.{StandsAfter as OutboxStandsAfter}
use Rattle.slave_channels.specs.Calls.{rings_of}
use Rattle.slave.specs.Hearing.{GoesBy}
use Rattle.slave.specs.Inner.{PartsGoBy}
use Rattle.slave.specs.Log.{Act, Sent, entries_of, late_in, past_of, sending, sent_laid, waits}
use Rattle.slave_channels.specs.Accounts.{AccountStandsAfter}
use Rattle.slave.specs.Standing.{PartsStandAfter, SlaveState}
use Rattle.slave.specs.declared.limits.TheConstants.{MOST_ACTS, PER_PACKET}
use Rattle.slave.proofs.WeightLemmas.{counted, counted-sent}

take-none : {X : Type 0} (n : ℕ) → first {A = X} n [] ≡ []
take-none zero = refl
take-none (suc n) = refl

pub take-whole : {X : Type 0} (n : ℕ) (xs : List X) → length xs ≤ n → first n xs ≡ xs
take-whole n [] least = take-none n
take-whole zero (x ∷ xs) least = absurd (omega (arith, least))
take-whole (suc n) (x ∷ xs) least = ap (λ ys. x ∷ ys) (take-whole n xs (omega (arith, least)))

drop-none : {X : Type 0} (n : ℕ) → drop {A = X} n [] ≡ []
drop-none zero = refl
drop-none (suc n) = refl

drop-whole : {X : Type 0} (n : ℕ) (xs : List X) → length xs ≤ n → drop n xs ≡ []
drop-whole n [] least = drop-none n
drop-whole zero (x ∷ xs) least = absurd (omega (arith, least))
drop-whole (suc n) (x ∷ xs) least = drop-whole n xs (omega (arith, least))

-- more than all is all
take-min : {X : Type 0} (n m : ℕ) (xs : List X) → m ≡ min n (length xs) → first n xs ≡ first m xs
take-min n m xs is =
    elim (leb_tells n (length xs)) [
      | inl w ↦ let same : n ≡ m = omega (arith, is, w.1) in ap (λ k. first k xs) same
      | inr w ↦ take-whole n xs (omega (arith, w.1)) ∙ sym (take-whole m xs (omega (arith, is, w.1)))
    ]

drop-min : {X : Type 0} (n m : ℕ) (xs : List X) → m ≡ min n (length xs) → drop n xs ≡ drop m xs
drop-min n m xs is =
    elim (leb_tells n (length xs)) [
      | inl w ↦ let same : n ≡ m = omega (arith, is, w.1) in ap (λ k. drop k xs) same
      | inr w ↦ drop-whole n xs (omega (arith, w.1)) ∙ sym (drop-whole m xs (omega (arith, is, w.1)))
    ]

-- the first of what waited was sent
sent-stands : (a b : SlaveState) (shown n : ℕ) → n ≡ min shown (length a.outbox.waits) → b ≡ record a { outbox = b.outbox }
    → ((page : ℕ) (sent waits : List Laid) → OutboxStandsAfter a.outbox page sent waits → OutboxStandsAfter b.outbox page (sent ++ first shown waits) (drop shown waits))
    → PartsGoBy a b (Sent n ∷ [])
sent-stands a b shown n many rest moves = (
  ap (λ (s : SlaveState). rings_of s.channels) rest,
  λ log few stands.
      let d = a.session.profile in
      let has = stands.has in
      let wait = waits d log in
      let n_is : n ≡ min shown (length wait) = many ∙ ap (λ xs. min shown (length xs)) has.outbox.waiting in
      let moved = moves (page_at d log) (sent_laid d log) wait has.outbox in
      let session = ap (λ (s : SlaveState). s.session) rest in
      let channels = ap (λ (s : SlaveState). s.channels) rest in
      record {
        has = record {
          few = omega (arith, few);
          is_log = (omega (arith, n_is), has.is_log);
          profile = ap (λ (s : SessionState). s.profile) session;
          session = subst (λ s. SessionStandsAfter s (past_of d log)) (sym session) has.session;
          outbox = subst (λ ys. OutboxStandsAfter b.outbox (page_at d log) (sent_laid d log ++ ys) (drop n wait)) (take-min shown n wait n_is)
              (subst (λ ys. OutboxStandsAfter b.outbox (page_at d log) (sent_laid d log ++ first shown wait) ys) (drop-min shown n wait n_is) moved);
          channels = λ c ch at. has.channels c ch (ap (λ zs. slice_get zs c) (sym channels) ∙ at);
          out = λ c ch at. has.out c ch (ap (λ zs. slice_get zs c) (sym channels) ∙ at);
          as_logged = λ c ch at. has.as_logged c ch (ap (λ zs. slice_get zs c) (sym channels) ∙ at);
          many = ap length channels ∙ has.many;
          plan = ap (λ (s : SlaveState). s.plan) rest ∙ has.plan;
          account = subst (λ x. AccountStandsAfter x (entries_of d log) (late_in d log)) (sym (ap (λ (s : SlaveState). s.account) rest)) has.account;
          number = ap (λ (s : SlaveState). s.number) rest ∙ has.number;
        };
        ended = λ none c ch at. stands.ended none c ch (ap (λ zs. slice_get zs c) (sym channels) ∙ at);
      },
)

-- where the outbox alone changed, and it stands after the same
outbox-alone : (a b : SlaveState) (log : List Act) → b ≡ record a { outbox = b.outbox }
    → OutboxStandsAfter b.outbox (page_at a.session.profile log) (sent_laid a.session.profile log) (waits a.session.profile log)
    → PartsStandAfter a.session.profile a log → PartsStandAfter a.session.profile b log
outbox-alone a b log rest outbox stands =
    let d = a.session.profile in
    let has = stands.has in
    let session = ap (λ (s : SlaveState). s.session) rest in
    let channels = ap (λ (s : SlaveState). s.channels) rest in
    record {
      has = record {
        few = has.few;
        is_log = has.is_log;
        profile = ap (λ (s : SessionState). s.profile) session;
        session = subst (λ s. SessionStandsAfter s (past_of d log)) (sym session) has.session;
        outbox = outbox;
        channels = λ c ch at. has.channels c ch (ap (λ zs. slice_get zs c) (sym channels) ∙ at);
        out = λ c ch at. has.out c ch (ap (λ zs. slice_get zs c) (sym channels) ∙ at);
        as_logged = λ c ch at. has.as_logged c ch (ap (λ zs. slice_get zs c) (sym channels) ∙ at);
        many = ap length channels ∙ has.many;
        plan = ap (λ (s : SlaveState). s.plan) rest ∙ has.plan;
        account = subst (λ x. AccountStandsAfter x (entries_of d log) (late_in d log)) (sym (ap (λ (s : SlaveState). s.account) rest)) has.account;
        number = ap (λ (s : SlaveState). s.number) rest ∙ has.number;
      };
      ended = λ none c ch at. stands.ended none c ch (ap (λ zs. slice_get zs c) (sym channels) ∙ at);
    }

-- what is shown changes nothing of this
shown-stands : (a b : SlaveState) → b ≡ record a { outbox = b.outbox } → b.outbox ≡ record a.outbox { shown = b.outbox.shown } → PartsGoBy a b []
shown-stands a b rest same = (
  ap (λ (s : SlaveState). rings_of s.channels) rest,
  λ log few stands.
      let d = a.session.profile in
      let box = stands.has.outbox in
      outbox-alone a b log rest
      (subst (λ o. OutboxStandsAfter o (page_at d log) (sent_laid d log) (waits d log)) (sym same)
      (record { gone = box.gone; counter = box.counter; waiting = box.waiting; page_is = box.page_is })) stands,
)

-- nothing was sent
sent-nothing : (a b : SlaveState) (shown n : ℕ) → n ≡ min shown (length a.outbox.waits) → b ≡ record a { outbox = b.outbox }
    → ((page : ℕ) (sent waits : List Laid) → OutboxStandsAfter a.outbox page sent waits → OutboxStandsAfter b.outbox page (sent ++ first shown waits) (drop shown waits))
    → n ≡ 0 → PartsGoBy a b []
sent-nothing a b shown n many rest moves none = (
  ap (λ (s : SlaveState). rings_of s.channels) rest,
  λ log few stands.
      let d = a.session.profile in
      let box = stands.has.outbox in
      let wait = waits d log in
      let sent = sent_laid d log in
      let n_is : 0 ≡ min shown (length wait) = sym none ∙ many ∙ ap (λ xs. min shown (length xs)) box.waiting in
      outbox-alone a b log rest
      (subst (λ ys. OutboxStandsAfter b.outbox (page_at d log) ys wait) (ap (λ ys. sent ++ ys) (take-min shown 0 wait n_is) ∙ append-nil sent)
      (subst (λ ys. OutboxStandsAfter b.outbox (page_at d log) (sent ++ first shown wait) ys) (drop-min shown 0 wait n_is) (moves (page_at d log) sent wait box))) stands,
)

-- so many of what waited, if these are any
sends : (a b : SlaveState) (shown n : ℕ) → n ≡ min shown (length a.outbox.waits) → b ≡ record a { outbox = b.outbox } → a.acts < MOST_ACTS + PER_PACKET
    → ((page : ℕ) (sent waits : List Laid) → OutboxStandsAfter a.outbox page sent waits → OutboxStandsAfter b.outbox page (sent ++ first shown waits) (drop shown waits))
    → GoesBy a b (sending n)
sends a b shown n many rest fits moves =
    counted-sent a b n fits (ap (λ (s : SlaveState). s.acts) rest) (sent-stands a b shown n many rest moves) (sent-nothing a b shown n many rest moves)

pub shows : (a b : SlaveState) → b ≡ record a { outbox = b.outbox } → b.outbox ≡ record a.outbox { shown = b.outbox.shown } → a.acts < MOST_ACTS + PER_PACKET → GoesBy a b []
shows a b rest same fits = counted a b [] fits (omega arith) (omega (arith, ap (λ (s : SlaveState). s.acts) rest)) (shown-stands a b rest same)

pub shown-of : (v w : SlaveState) (o : OutboxState) → w ≡ v → v.acts < MOST_ACTS + PER_PACKET → o ≡ record w.outbox { shown = o.shown } → GoesBy v (record w { outbox = o }) []
shown-of v w o same fits rest =
    subst (λ (u : SlaveState). GoesBy u (record w { outbox = o }) []) same
    (shows w (record w { outbox = o }) refl rest (subst (λ (u : SlaveState). u.acts < MOST_ACTS + PER_PACKET) (sym same) fits))

pub sent-of : (v w : SlaveState) (o : OutboxState) (n : ℕ) → w ≡ v → v.acts < MOST_ACTS + PER_PACKET → n ≡ min v.outbox.shown (length v.outbox.waits)
    → ((page : ℕ) (sent waits : List Laid) → OutboxStandsAfter w.outbox page sent waits → OutboxStandsAfter o page (sent ++ first w.outbox.shown waits) (drop w.outbox.shown waits))
    → GoesBy v (record w { outbox = o }) (sending n)
sent-of v w o n same fits many moves =
    subst (λ (u : SlaveState). ((page : ℕ) (sent waits : List Laid) → OutboxStandsAfter u.outbox page sent waits → OutboxStandsAfter o page (sent ++ first u.outbox.shown waits) (drop u.outbox.shown waits))
    → GoesBy v (record u { outbox = o }) (sending n)) (sym same)
    (λ moved. sends v (record v { outbox = o }) v.outbox.shown n many refl fits moved) moves
