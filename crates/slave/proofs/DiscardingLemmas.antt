-- What a slave stands after once what waited was thrown away.
use Rattle.std.proofs.Common.{◌≡◌, ◌≢◌, ℕ, ◌+◌, ◌-◌, ◌*◌, ◌<◌, ◌≤◌, Bool, true, false, ◌&&◌, not, nat_eq, if◌then◌else◌, List, [], ◌∷◌, ◌++◌, append_assoc, append-nil, length, length-append, take as first, refl, sym, ap, ◌∙◌, subst, arith, ◌⊎◌, inl, inr, slice_get}
use Rattle.std.specs.Prelude.{count_by, Option, Some}
use Rattle.std.proofs.lemmas.Bool.{eq-eqb, ne_eqb}
use Rattle.std.proofs.lemmas.Bool.Decides.{eqb_tells}
use Rattle.std.proofs.lemmas.List.{take_more}
use Rattle.std.proofs.lemmas.List.Sums.{sum_by-append, sum_by-take-le}
use Rattle.std.proofs.lemmas.Option.{get_or_from_slice_get, slice_get_within}
use Rattle.xcp_base.specs.declared.limits.TheConstants.{MAX_LISTS, MAX_TAKEN}
use Rattle.frame_ring.specs.declared.frame_send.FrameSend.{FrameSend}
use Rattle.session.specs.Standing.{SessionStandsAfter, SessionState}
use Rattle.session.specs.declared.profile.Profile.{Profile}
use Rattle.slave_outbox.specs.Deeds.{Deed, Unsent}
use Rattle.slave_outbox.specs.Deeds.{runs as runs_there}
use Rattle.slave_outbox.specs.Intakes.{StandsAfter}
use Rattle.slave_outbox.proofs.DeedLemmas.{stands-beyond}
use Rattle.slave_outbox.specs.Outboxes.{Laid, OutboxState, has_waiting, origins_in}
use Rattle.slave.specs.Pages.{page_at}
use Rattle.slave_outbox.specs.Outboxes.{StandsAfter as OutboxStandsAfter}
use Rattle.slave_outbox.specs.declared.origin.Origin.{Origin}
use Rattle.slave_outbox.specs.declared.origin.Origin.TheVariants as origin
use Rattle.slave_channels.specs.Accounts.{AccountStandsAfter, Entry, end_of, more_unsent}
use Rattle.slave_channels.proofs.AccountLemmas.{same-unsent}
use Rattle.slave_channels.specs.Channels.{ChannelState, GoesOnThere, ShareState}
use Rattle.slave_channels.specs.Calls.{KeepsNoneOf}
use Rattle.slave.specs.Hearing.{GoesBy, KeepsLines}
use Rattle.slave_channels.specs.Calls.{rings_of}
use Rattle.slave.proofs.KeepingLemmas.{lines-but}
use Rattle.slave.specs.Inner.{LeavesFirst, LeavesOne, PartsGoBy, TellsAccount, TellsPart, left_deeds, left_late}
use Rattle.slave.specs.Log.{Act, Discarded, deeds_of, discarding, entries_of, has_part, is_back, is_late, is_of_ring, is_out, late_in, losing, opened, past_of, sent_laid, unsent_by, unsent_one, waits}
use Rattle.slave.specs.Standing.{logged, ChannelHas, HasEnded, IsOut, SlaveStandsAfter, SlaveState, StandsBy, number_of}
use Rattle.slave.proofs.ChannelLemmas.{channel-same}
use Rattle.slave.proofs.KnownLemmas.{back-end, part-at, parts-wait}
use Rattle.slave.proofs.DeedLemmas.{deeds-and-waits-few, unsent-length}
use Rattle.slave.proofs.OutLemmas.{opened-kept, out-kept, some-at}
use Rattle.slave.proofs.SendingLemmas.{take-whole}
use Rattle.slave.proofs.TakingLemmas.{ChangesAt, IsPart, channels-changed, newer-part, older-part, opened-changed, out-changed}
use Rattle.session.specs.Past.{Past}
use Rattle.tasks.specs.Links.{LinkState, takes_orders}

some_inj : {X : Type 0} (x y : X) → Some x ≡ Some y → x ≡ y
some_inj x y e = cc

is-bool : (b : Bool) → (b ≡ true) ⊎ (b ≡ false)
is-bool true = inl refl
is-bool false = inr refl

-- one more of some
first-more : {X : Type 0} (xs : List X) (n : ℕ) (x : X) → slice_get xs n ≡ Some x → first (n + 1) xs ≡ first n xs ++ x ∷ []
first-more xs n x at = take_more xs n x (slice_get_within xs n x at) ∙ ap (λ y. first n xs ++ y ∷ []) (get_or_from_slice_get xs n x x at)

unsent-more : (m c : ℕ) (xs : List Origin) (x : Origin) → unsent_by m c (xs ++ x ∷ []) ≡ unsent_one m c x ++ unsent_by m c xs
unsent-more m c [] x = sym (append-nil (unsent_one m c x))
unsent-more m c (y ∷ xs) x =
    ap (λ ys. ys ++ unsent_one m c y) (unsent-more m c xs x) ∙ append_assoc (unsent_one m c x) (unsent_by m c xs) (unsent_one m c y)

deeds-more : (d : Profile) (log : List Act) (n c m : ℕ) (x : Origin) → slice_get (origins_in (waits d log)) n ≡ Some x → left_deeds d log (n + 1) c m ≡ unsent_one m c x ++ left_deeds d log n c m
deeds-more d log n c m x at =
    let os = origins_in (waits d log) in
    ap (λ ys. unsent_by m c ys ++ deeds_of d m c log) (first-more os n x at) ∙ ap (λ ys. ys ++ deeds_of d m c log) (unsent-more m c (first n os) x)
    ∙ append_assoc (unsent_one m c x) (unsent_by m c (first n os)) (deeds_of d m c log)

late-more : (d : Profile) (log : List Act) (n m l : ℕ) (x : Origin) → slice_get (origins_in (waits d log)) n ≡ Some x → left_late d log (n + 1) m l ≡ left_late d log n m l + (if is_late log m l x then 1 else 0)
late-more d log n m l x at =
    let os = origins_in (waits d log) in
    let one = sum_by-append (λ o. if is_late log m l o then 1 else 0) (first n os) (x ∷ []) in
    let more = ap (count_by (is_late log m l)) (first-more os n x at) in
    omega (arith, more, one)

late-not : (d : Profile) (log : List Act) (n m l : ℕ) (x : Origin) → slice_get (origins_in (waits d log)) n ≡ Some x → is_late log m l x ≡ false → left_late d log n m l ≡ left_late d log (n + 1) m l
late-not d log n m l x at none =
    let zero_more : ◌≡◌ {A = ℕ} (if is_late log m l x then 1 else 0) 0 = ap (λ b. if b then 1 else 0) none in
    omega (arith, late-more d log n m l x at, zero_more)

and_false : (e : Bool) → (e && false) ≡ false
and_false true = refl
and_false false = refl

and_true : (e : Bool) → (e && true) ≡ e
and_true true = refl
and_true false = refl

-- of another ring nothing is thrown away, and of this one a sample of the list is
one-else : (n m k c l : ℕ) → (m ≡ n → c ≡ k → ⊥) → unsent_one n k (origin.Sample m c l) ≡ []
one-else n m k c l other =
    elim (eqb_tells m n) [
      | inl w ↦ ap (λ b. if b && nat_eq c k then Unsent l ∷ [] else []) w.0 ∙ elim (eqb_tells c k) [
        | inl v ↦ absurd (other w.1 v.1)
        | inr v ↦ ap (λ b. if b then Unsent l ∷ [] else []) v.0
      ]
      | inr w ↦ ap (λ b. if b && nat_eq c k then Unsent l ∷ [] else []) w.0
    ]

one-here : (m c l : ℕ) → unsent_one m c (origin.Sample m c l) ≡ Unsent l ∷ []
one-here m c l = ap (λ b. if b && nat_eq c c then Unsent l ∷ [] else []) (same m) ∙ ap (λ b. if b then Unsent l ∷ [] else []) (same c) where
  same : (k : ℕ) → nat_eq k k ≡ true
  same k =
      elim (eqb_tells k k) [
        | inl w ↦ w.0
        | inr w ↦ absurd (w.1 refl)
      ]

one-runs : (m c : ℕ) (x : Origin) (ds : List Deed) (l : ℕ) → runs_there (unsent_one m c x ++ ds) l ≡ runs_there ds l
one-runs m c origin.Reply ds l = refl
one-runs m c (origin.Sample n k j) ds l = by (nat_eq n m && nat_eq k c) where
  by : (b : Bool) → runs_there ((if b then Unsent j ∷ [] else []) ++ ds) l ≡ runs_there ds l
  by true = refl
  by false = refl

-- so much was done at a ring at most, with what of it waits
few-left : (d : Profile) (log : List Act) (n c m : ℕ) → 32 * (1 + length log) ≤ MAX_TAKEN → length (left_deeds d log n c m) < MAX_TAKEN
few-left d log n c m few =
    let os = origins_in (waits d log) in
    let front = sum_by-take-le (λ o. if is_of_ring m c o then 1 else 0) os n in
    omega (arith, few, deeds-and-waits-few d m c log, unsent-length m c (first n os), length-append (unsent_by m c (first n os)) (deeds_of d m c log), front)

-- a part that isn't of the measurement
part-else : (d : Profile) (log : List Act) (n k m c l : ℕ) (p : ShareState) → (m ≡ p.number → c ≡ k → ⊥) → StandsAfter p.intake (left_deeds d log n k p.number)
    → StandsAfter p.intake (unsent_one p.number k (origin.Sample m c l) ++ left_deeds d log n k p.number)
part-else d log n k m c l p other stands =
    subst (λ ds. StandsAfter p.intake (ds ++ left_deeds d log n k p.number)) (sym (one-else p.number m k c l other)) stands

-- an event channel where more was done with the rings of its parts, and no order
has-where : (n : ℕ) (f g : ℕ → List Deed) (ch : ChannelState)
    → ((p : ShareState) → (ch.newer ≡ Some p) ⊎ (ch.older ≡ Some p) → StandsAfter p.intake (f p.number) → StandsAfter p.intake (g p.number))
    → ((l : ℕ) → runs_there (g (n - 1)) l ≡ runs_there (f (n - 1)) l) → ChannelHas n f ch → ChannelHas n g ch
has-where n f g ch parts runs has = record {
  newer = λ p at.
      let part = has.newer p at in
      record { there = part.there; stands = parts p (inl at) part.stands };
  older = λ p at.
      let (part, less) = has.older p at in
      (record { there = part.there; stands = parts p (inr at) part.stands }, less);
  order = has.order;
  newest = has.newest;
  running = λ l below. has.running l below ∙ sym (runs l);
}

-- where no event channel changed
left-beside : (d : Profile) (log : List Act) (n : ℕ) (x : Origin) (a b : SlaveState) → slice_get (origins_in (waits d log)) n ≡ Some x → b ≡ record a { account = b.account }
    → ((c : ℕ) (ch : ChannelState) (p : ShareState) → slice_get a.channels c ≡ Some ch → (ch.newer ≡ Some p) ⊎ (ch.older ≡ Some p)
    → StandsAfter p.intake (left_deeds d log n c p.number) → StandsAfter p.intake (unsent_one p.number c x ++ left_deeds d log n c p.number))
    → AccountStandsAfter b.account (entries_of d log) (left_late d log (n + 1))
    → StandsBy (left_deeds d log n) (left_late d log n) d a log → StandsBy (left_deeds d log (n + 1)) (left_late d log (n + 1)) d b log
left-beside d log n x a b at rest parts account has =
    let channels = ap (λ (s : SlaveState). s.channels) rest in
    let session = ap (λ (s : SlaveState). s.session) rest in
    record {
      few = has.few;
      is_log = has.is_log;
      profile = ap (λ (s : SessionState). s.profile) session ∙ has.profile;
      session = subst (λ s. SessionStandsAfter s (past_of d log)) (sym session) has.session;
      outbox = subst (λ o. OutboxStandsAfter o (page_at d log) (sent_laid d log) (waits d log)) (sym (ap (λ (s : SlaveState). s.outbox) rest)) has.outbox;
      channels = λ c ch there.
          let was = ap (λ zs. slice_get zs c) (sym channels) ∙ there in
          has-where _ (left_deeds d log n c) (left_deeds d log (n + 1) c) ch
          (λ p kept stands. subst (StandsAfter p.intake) (sym (deeds-more d log n c p.number x at)) (parts c ch p was kept stands))
          (λ l. ap (λ ds. runs_there ds l) (deeds-more d log n c _ x at) ∙ one-runs _ c x (left_deeds d log n c _) l) (has.channels c ch was);
      out = λ c ch there. has.out c ch (ap (λ zs. slice_get zs c) (sym channels) ∙ there);
      as_logged = λ c ch there. has.as_logged c ch (ap (λ zs. slice_get zs c) (sym channels) ∙ there);
      many = ap length channels ∙ has.many;
      plan = ap (λ (s : SlaveState). s.plan) rest ∙ has.plan;
      number = ap (λ (s : SlaveState). s.number) rest ∙ has.number;
      account = account;
    }

-- a reply is thrown away
left-reply : (d : Profile) (log : List Act) (n : ℕ) (a b : SlaveState) → slice_get (origins_in (waits d log)) n ≡ Some origin.Reply → b ≡ a
    → StandsBy (left_deeds d log n) (left_late d log n) d a log → StandsBy (left_deeds d log (n + 1)) (left_late d log (n + 1)) d b log
left-reply d log n a b at same has =
    left-beside d log n origin.Reply a b at (same ∙ ap (λ z. record a { account = z }) (ap (λ (s : SlaveState). s.account) (sym same))) (λ c ch p is kept stands. stands)
    (subst (λ z. AccountStandsAfter z (entries_of d log) (left_late d log (n + 1))) (ap (λ (s : SlaveState). s.account) (sym same))
    (same-unsent a.account (entries_of d log) (left_late d log n) (left_late d log (n + 1)) (λ q l below. late-not d log n q l origin.Reply at refl) has.account)) has

-- a sample of a list that there can't be
left-beyond : (d : Profile) (log : List Act) (n m c l : ℕ) (a b : SlaveState) → 32 * (1 + length log) ≤ MAX_TAKEN → slice_get (origins_in (waits d log)) n ≡ Some (origin.Sample m c l) → MAX_LISTS ≤ l → b ≡ a
    → StandsBy (left_deeds d log n) (left_late d log n) d a log → StandsBy (left_deeds d log (n + 1)) (left_late d log (n + 1)) d b log
left-beyond d log n m c l a b few at beyond same has =
    left-beside d log n (origin.Sample m c l) a b at (same ∙ ap (λ z. record a { account = z }) (ap (λ (s : SlaveState). s.account) (sym same)))
    (λ k ch p is kept stands. by k p (nat_eq m p.number && nat_eq c k) stands)
    (subst (λ z. AccountStandsAfter z (entries_of d log) (left_late d log (n + 1))) (ap (λ (s : SlaveState). s.account) (sym same))
    (same-unsent a.account (entries_of d log) (left_late d log n) (left_late d log (n + 1)) (λ q j below. late-not d log n q j (origin.Sample m c l) at (not-of q j below)) has.account)) has where
      by : (k : ℕ) (p : ShareState) (here : Bool) → StandsAfter p.intake (left_deeds d log n k p.number) → StandsAfter p.intake ((if here then Unsent l ∷ [] else []) ++ left_deeds d log n k p.number)
      by k p true stands = stands-beyond p.intake l (left_deeds d log n k p.number) beyond (few-left d log n k p.number few) stands
      by k p false stands = stands

      not-of : (q j : ℕ) → j < MAX_LISTS → is_late log q j (origin.Sample m c l) ≡ false
      not-of q j below =
          elim (eqb_tells l j) [
            | inl w ↦ absurd (omega (arith, w.1, below, beyond))
            | inr w ↦ ap (λ e. nat_eq m q && (e && not (is_out m c log))) w.0 ∙ and_false (nat_eq m q)
          ]

-- a part that isn't kept isn't out
not-out : (out : ℕ → Bool) (ch : ChannelState) (m : ℕ) → IsOut out ch → number_of ch.newer ≢ Some m → number_of ch.older ≢ Some m → out m ≡ false
not-out out ch m is newer older =
    elim (is-bool (out m)) [
      | inl there ↦ absurd (elim (is.kept m there) [ inl w ↦ newer w | inr w ↦ older w ])
      | inr none ↦ none
    ]

-- a sample of a part that came back: the account is told
left-late-one : (d : Profile) (log : List Act) (n m c l : ℕ) (a b : SlaveState) → slice_get (origins_in (waits d log)) n ≡ Some (origin.Sample m c l) → TellsAccount m c l a b
    → StandsBy (left_deeds d log n) (left_late d log n) d a log → StandsBy (left_deeds d log (n + 1)) (left_late d log (n + 1)) d b log
left-late-one d log n m c l a b at tells has =
    let x = origin.Sample m c l in
    let (there, known, part) = part-at d log (waits d log) n x (parts-wait d log has.is_log) at in
    let (ch, here) = some-at a.channels c (omega (arith, there, has.many)) in
    let none = tells.none ch here in
    let back : is_out m c log ≡ false = not-out (λ k. is_out k c log) ch m (has.out c ch here) none.0 none.1 in
    left-beside d log n x a b at tells.rest
    (λ k other p is kept stands. part-else d log n k m c l p (λ same also. gone k other p is kept same also) stands)
    (same-unsent b.account (entries_of d log) (more_unsent m l 1 (left_late d log n)) (left_late d log (n + 1)) (λ q j below. more q j back)
    (tells.account (entries_of d log) (left_late d log n) (back-end d log m c (came-back part back)) has.account)) has where
      number : (p : ShareState) (o : Option ShareState) → o ≡ Some p → number_of o ≡ Some p.number
      number p o is = ap (λ (q : Option ShareState). number_of q) is

      gone : (k : ℕ) (other : ChannelState) (p : ShareState) → slice_get a.channels k ≡ Some other → (other.newer ≡ Some p) ⊎ (other.older ≡ Some p) → m ≡ p.number → c ≡ k → ⊥
      gone k other p is kept same also =
          let (newer, older) = tells.none other (ap (slice_get a.channels) also ∙ is) in
          elim kept [
            | inl w ↦ newer (number p other.newer w ∙ ap Some (sym same))
            | inr w ↦ older (number p other.older w ∙ ap Some (sym same))
          ]

      came-back : has_part m c log ≡ true → is_out m c log ≡ false → is_back m c log ≡ true
      came-back part back = is-not (is_back m c log) (sym (ap (λ e. e && not (is_back m c log)) part) ∙ back) where
        is-not : (e : Bool) → not e ≡ false → e ≡ true
        is-not true is = refl
        is-not false is = sym is

      of-it : (q j : ℕ) → is_out m c log ≡ false → is_late log q j (origin.Sample m c l) ≡ (nat_eq m q && nat_eq l j)
      of-it q j back = ap (λ e. nat_eq m q && (nat_eq l j && not e)) back ∙ ap (λ e. nat_eq m q && e) (and_true (nat_eq l j))

      more : (q j : ℕ) → is_out m c log ≡ false → more_unsent m l 1 (left_late d log n) q j ≡ left_late d log (n + 1) q j
      more q j back =
          elim (eqb_tells q m) [
            | inl w ↦ elim (eqb_tells j l) [
              | inl v ↦
                  let late : is_late log q j (origin.Sample m c l) ≡ true = of-it q j back ∙ ap (λ e. e && nat_eq l j) (eq-eqb m q (sym w.1)) ∙ eq-eqb l j (sym v.1) in
                  let one_more : ◌≡◌ {A = ℕ} (if is_late log q j (origin.Sample m c l) then 1 else 0) 1 = ap (λ e. if e then 1 else 0) late in
                  ap (λ e. if e && nat_eq j l then left_late d log n q j + 1 else left_late d log n q j) w.0
                  ∙ ap (λ e. if e then left_late d log n q j + 1 else left_late d log n q j) v.0 ∙ omega (arith, late-more d log n q j (origin.Sample m c l) at, one_more)
              | inr v ↦
                  let not_late : is_late log q j (origin.Sample m c l) ≡ false = of-it q j back ∙ ap (λ e. nat_eq m q && e) (ne_eqb l j (λ same. v.1 (sym same))) ∙ and_false (nat_eq m q) in
                  ap (λ e. if e && nat_eq j l then left_late d log n q j + 1 else left_late d log n q j) w.0
                  ∙ ap (λ e. if e then left_late d log n q j + 1 else left_late d log n q j) v.0 ∙ late-not d log n q j (origin.Sample m c l) at not_late
            ]
            | inr w ↦
                let not_late : is_late log q j (origin.Sample m c l) ≡ false = of-it q j back ∙ ap (λ e. e && nat_eq l j) (ne_eqb m q (λ same. w.1 (sym same))) in
                ap (λ e. if e && nat_eq j l then left_late d log n q j + 1 else left_late d log n q j) w.0 ∙ late-not d log n q j (origin.Sample m c l) at not_late
          ]

-- a sample of a part that is kept: the part is told
record IsTold (x y : ChannelState) (m l : ℕ) : Type 0 where
  share : ShareState
  next : ShareState
  part : IsPart x y m share.intake next.intake
  goes_on : (ds : List Deed) → length ds < MAX_TAKEN → StandsAfter share.intake ds → StandsAfter next.intake (Unsent l ∷ ds)

part-of : (x y : ChannelState) (m l : ℕ) → GoesOnThere m (Unsent l) x y → IsTold x y m l
part-of x y m l goes =
    elim goes.parts [
      | inl w ↦
          let (older, tells) = w in
          record {
            share = tells.share;
            next = tells.next;
            part = subst (λ k. IsPart x y k tells.share.intake tells.next.intake) tells.number
                (newer-part x y tells.share tells.next tells.before_is
                (ap (λ z. record { link = z; older = y.older; newer = y.newer }) goes.link ∙ ap (λ z. record { link = x.link; older = z; newer = y.newer }) older)
                tells.after_is (tells.number_stays ∙ sym tells.number) tells.opened);
            goes_on = tells.goes_on;
          }
      | inr w ↦
          let (newer, tells) = w in
          record {
            share = tells.share;
            next = tells.next;
            part = subst (λ k. IsPart x y k tells.share.intake tells.next.intake) tells.number
                (older-part x y tells.share tells.next tells.before_is
                (ap (λ z. record { link = z; older = y.older; newer = y.newer }) goes.link ∙ ap (λ z. record { link = x.link; older = y.older; newer = z }) newer)
                tells.after_is (tells.number_stays ∙ sym tells.number) tells.opened);
            goes_on = tells.goes_on;
          }
    ]

changes-at : (a b : SlaveState) (m c l : ℕ) (x y : ChannelState) → TellsPart m c l a b → slice_get a.channels c ≡ Some x → slice_get b.channels c ≡ Some y → ChangesAt a b c x y
changes-at a b m c l x y tells was is = record {
  was = was;
  is = is;
  others = tells.channels.others;
  quiet = λ off. ap (λ z. takes_orders z.newer) (tells.channels.here x y was is).link ∙ off;
  as_many = tells.channels.as_many;
  session = ap (λ (s : SlaveState). s.session) tells.rest;
  plan = ap (λ (s : SlaveState). s.plan) tells.rest;
  number = ap (λ (s : SlaveState). s.number) tells.rest;
}

left-told : (d : Profile) (log : List Act) (n m c l : ℕ) (a b : SlaveState) → 32 * (1 + length log) ≤ MAX_TAKEN → slice_get (origins_in (waits d log)) n ≡ Some (origin.Sample m c l) → TellsPart m c l a b
    → StandsBy (left_deeds d log n) (left_late d log n) d a log → StandsBy (left_deeds d log (n + 1)) (left_late d log (n + 1)) d b log
left-told d log n m c l a b few at tells has =
    let o = origin.Sample m c l in
    let there : c < length d.events.items = (part-at d log (waits d log) n o (parts-wait d log has.is_log) at).0 in
    let (x, was) = some-at a.channels c (omega (arith, there, has.many)) in
    let (y, is) = some-at b.channels c (omega (arith, there, has.many, tells.channels.as_many)) in
    let changes = changes-at a b m c l x y tells was is in
    let told = part-of x y m l (tells.channels.here x y was is) in
    let f = left_deeds d log n in
    let g = left_deeds d log (n + 1) in
    let count = opened log in
    let (within, before) = told.part.part count (f c) (has.channels c x was) in
    let out : is_out m c log ≡ true = told.part.out (λ k. is_out k c log) (has.out c x was) in
    let same : (k q : ℕ) → (m ≡ q → c ≡ k → ⊥) → g k q ≡ f k q = λ k q other. deeds-more d log n k q o at ∙ ap (λ ds. ds ++ f k q) (one-else q m k c l other) in
    let here : ChannelHas count (g c) y =
    told.part.goes count (f c) (g c)
    (subst (StandsAfter told.next.intake) (sym (deeds-more d log n c m o at ∙ ap (λ ds. ds ++ f c m) (one-here m c l))) (told.goes_on (f c m) (few-left d log n c m few) before))
    (λ q other. same c q (λ e z. other (sym e)))
    (λ q j. ap (λ ds. runs_there ds j) (deeds-more d log n c q o at) ∙ one-runs q c o (f c q) j) (has.channels c x was) in
    record {
      few = has.few;
      is_log = has.is_log;
      profile = ap (λ (z : SessionState). z.profile) changes.session ∙ has.profile;
      session = subst (λ z. SessionStandsAfter z (past_of d log)) (sym changes.session) has.session;
      outbox = subst (λ z. OutboxStandsAfter z (page_at d log) (sent_laid d log) (waits d log)) (sym (ap (λ (s : SlaveState). s.outbox) tells.rest)) has.outbox;
      channels = channels-changed count f g a b c x y changes (λ k q other. same k q (λ e z. other (sym z))) here has.channels;
      out = out-changed (λ k q. is_out q k log) (λ k q. is_out q k log) a b c x y changes (λ k q other. refl) (out-kept (λ q. is_out q c log) x y told.part.keeps (has.out c x was)) has.out;
      as_logged = opened-changed d (logged d log) (logged d log) a b c x y changes (λ k ch other is. is) (opened-kept d (logged d log) c x y told.part.keeps (has.as_logged c x was)) has.as_logged;
      many = changes.as_many ∙ has.many;
      plan = changes.plan ∙ has.plan;
      number = changes.number ∙ has.number;
      account = subst (λ z. AccountStandsAfter z (entries_of d log) (left_late d log (n + 1))) (sym (ap (λ (s : SlaveState). s.account) tells.rest))
          (same-unsent a.account (entries_of d log) (left_late d log n) (left_late d log (n + 1))
          (λ q j below. late-not d log n q j o at (ap (λ e. nat_eq m q && (nat_eq l j && not e)) out ∙ ap (λ e. nat_eq m q && e) (and_false (nat_eq l j)) ∙ and_false (nat_eq m q))) has.account);
    }

-- what is from there isn't sent
left-one : (d : Profile) (log : List Act) (n : ℕ) (x : Origin) (a b : SlaveState) → 32 * (1 + length log) ≤ MAX_TAKEN → slice_get (origins_in (waits d log)) n ≡ Some x → LeavesOne x a b
    → StandsBy (left_deeds d log n) (left_late d log n) d a log → StandsBy (left_deeds d log (n + 1)) (left_late d log (n + 1)) d b log
left-one d log n origin.Reply a b few at leaves has = left-reply d log n a b at leaves has
left-one d log n (origin.Sample m c l) a b few at leaves has =
    elim leaves [
      | inl tells ↦ left-told d log n m c l a b few at tells has
      | inr w ↦ elim w [
        | inl tells ↦ left-late-one d log n m c l a b at tells has
        | inr v ↦ left-beyond d log n m c l a b few at v.0 v.1 has
      ]
    ]

one-stays : (x : Origin) (a b : SlaveState) → LeavesOne x a b → (b.session ≡ a.session) × (b.outbox ≡ a.outbox) × (b.acts ≡ a.acts) × (b.next ≡ a.next)
one-stays origin.Reply a b same = (ap (λ (s : SlaveState). s.session) same, ap (λ (s : SlaveState). s.outbox) same, ap (λ (s : SlaveState). s.acts) same, ap (λ (s : SlaveState). s.next) same)
one-stays (origin.Sample m c l) a b leaves =
    elim leaves [
      | inl tells ↦ (ap (λ (s : SlaveState). s.session) tells.rest, ap (λ (s : SlaveState). s.outbox) tells.rest, ap (λ (s : SlaveState). s.acts) tells.rest, ap (λ (s : SlaveState). s.next) tells.rest)
      | inr w ↦ elim w [
        | inl tells ↦ (ap (λ (s : SlaveState). s.session) tells.rest, ap (λ (s : SlaveState). s.outbox) tells.rest, ap (λ (s : SlaveState). s.acts) tells.rest, ap (λ (s : SlaveState). s.next) tells.rest)
        | inr v ↦ (ap (λ (s : SlaveState). s.session) v.1, ap (λ (s : SlaveState). s.outbox) v.1, ap (λ (s : SlaveState). s.acts) v.1, ap (λ (s : SlaveState). s.next) v.1)
      ]
    ]

one-ended : (x : Origin) (a b : SlaveState) (past : Past) → LeavesOne x a b → HasEnded a past → HasEnded b past
one-ended origin.Reply a b past same ended = λ none c ch at. ended none c ch (ap (λ (s : SlaveState). slice_get s.channels c) (sym same) ∙ at)
one-ended (origin.Sample m c l) a b past leaves ended =
    elim leaves [
      | inl tells ↦ λ none k ch at.
          elim (eqb_tells k c) [
            | inl w ↦
                let (x, was) = some-at a.channels k (omega (arith, slice_get_within b.channels k ch at, tells.channels.as_many)) in
                ap (λ z. takes_orders z.newer) (tells.channels.here x ch (ap (slice_get a.channels) (sym w.1) ∙ was) (ap (slice_get b.channels) (sym w.1) ∙ at)).link ∙ ended none k x was
            | inr w ↦ ended none k ch (sym (tells.channels.others k w.1) ∙ at)
          ]
      | inr w ↦ elim w [
        | inl tells ↦ λ none k ch at. ended none k ch (ap (λ (s : SlaveState). slice_get s.channels k) (sym tells.rest) ∙ at)
        | inr v ↦ λ none k ch at. ended none k ch (ap (λ (s : SlaveState). slice_get s.channels k) (sym v.1) ∙ at)
      ]
    ]

-- and each event channel is on its line
one-lines : (x : Origin) (a b : SlaveState) → LeavesOne x a b → KeepsLines a b
one-lines origin.Reply a b same = ap (λ (s : SlaveState). rings_of s.channels) same
one-lines (origin.Sample m c l) a b leaves =
    elim leaves [
      | inl tells ↦
          lines-but c a.channels b.channels tells.channels.as_many tells.channels.others
          (λ u v at now. ap (λ (z : LinkState FrameSend). z.ring) (tells.channels.here u v at now).link)
      | inr w ↦ elim w [
        | inl tells ↦ ap (λ (s : SlaveState). rings_of s.channels) tells.rest
        | inr v ↦ ap (λ (s : SlaveState). rings_of s.channels) v.1
      ]
    ]

-- nothing yet
pub leaves-none : (a : SlaveState) → LeavesFirst 0 a a
leaves-none a = record {
  lines = refl;
  outbox = refl;
  session = refl;
  counted = refl;
  next = refl;
  leaves = λ log few stands.
      let has = stands.has in
      record {
        few = has.few;
        is_log = has.is_log;
        profile = has.profile;
        session = has.session;
        outbox = has.outbox;
        channels = has.channels;
        out = has.out;
        as_logged = has.as_logged;
        many = has.many;
        plan = has.plan;
        number = has.number;
        account = same-unsent a.account (entries_of a.session.profile log) (late_in a.session.profile log) (left_late a.session.profile log 0) (λ q l below. omega arith) has.account;
      };
  ended = λ log few stands. stands.ended;
}

-- one more of what waits
leaves-more : (n : ℕ) (a s b : SlaveState) (x : Origin) → slice_get (origins_in a.outbox.waits) n ≡ Some x → LeavesFirst n a s → LeavesOne x s b → LeavesFirst (n + 1) a b
leaves-more n a s b x at leaves one =
    let (session, outbox, acts, next) = one-stays x s b one in
    record {
      lines = one-lines x s b one ∙ leaves.lines;
      outbox = outbox ∙ leaves.outbox;
      session = session ∙ leaves.session;
      counted = acts ∙ leaves.counted;
      next = next ∙ leaves.next;
      leaves = λ log few stands.
          left-one a.session.profile log n x s b few (ap (λ xs. slice_get (origins_in xs) n) (sym stands.has.outbox.waiting) ∙ at) one (leaves.leaves log few stands);
      ended = λ log few stands. one-ended x s b (past_of a.session.profile log) one (leaves.ended log few stands);
    }

pub leaves-next : (n : ℕ) (a s b v : SlaveState) (x : Origin) → v ≡ s → slice_get (origins_in v.outbox.waits) n ≡ Some x → LeavesFirst n a s → LeavesOne x s b → LeavesFirst (n + 1) a b
leaves-next n a s b v x view at leaves one =
    let same = ap (λ (z : SlaveState). z.outbox) view ∙ leaves.outbox in
    leaves-more n a s b x (ap (λ (o : OutboxState). slice_get (origins_in o.waits) n) (sym same) ∙ at) leaves one

pub leaves-all : (n m : ℕ) (a b : SlaveState) → n ≡ m → LeavesFirst n a b → LeavesFirst m a b
leaves-all n m a b same leaves = subst (λ k. LeavesFirst k a b) same leaves

-- the account was told
pub told-late : (x : Origin) (m c l k : ℕ) (a w b : SlaveState) → x ≡ origin.Sample m c l → w ≡ a → k ≡ l → KeepsNoneOf m c w.channels → b ≡ record w { account = b.account }
    → ((entries : List Entry) (unsent : ℕ → ℕ → ℕ) → m < end_of entries → AccountStandsAfter w.account entries unsent → AccountStandsAfter b.account entries (more_unsent m k 1 unsent)) → LeavesOne x a b
told-late x m c l k a w b is same list none rest account =
    subst (λ o. LeavesOne o a b) (sym is) (subst (λ (z : SlaveState). LeavesOne (origin.Sample m c l) z b) same
    (inr (inl (record {
      none = none;
      account = subst (λ j. (entries : List Entry) (unsent : ℕ → ℕ → ℕ) → m < end_of entries → AccountStandsAfter w.account entries unsent → AccountStandsAfter b.account entries (more_unsent m j 1 unsent)) list account;
      rest = rest;
    }))))

-- all of what waited was thrown away
pub throws-away : (a s b : SlaveState) → LeavesFirst (length (origins_in a.outbox.waits)) a s → b ≡ record s { outbox = b.outbox }
    → ((page : ℕ) (sent wait : List Laid) → OutboxStandsAfter s.outbox page sent wait → OutboxStandsAfter b.outbox page sent []) → PartsGoBy a b (Discarded ∷ [])
throws-away a s b leaves rest discards = (
  ap (λ (z : SlaveState). rings_of z.channels) rest ∙ leaves.lines,
  λ log few stands.
      let d = a.session.profile in
      let os = origins_in (waits d log) in
      let has = leaves.leaves log few stands in
      let n = length (origins_in a.outbox.waits) in
      let many : length os ≤ n = omega (arith, ap (λ xs. length (origins_in xs)) stands.has.outbox.waiting) in
      let all : first n os ≡ os = take-whole n os many in
      let channels = ap (λ (z : SlaveState). z.channels) rest in
      let session = ap (λ (z : SlaveState). z.session) rest in
      record {
        has = record {
          few = omega (arith, few);
          is_log = has.is_log;
          profile = ap (λ (z : SessionState). z.profile) session ∙ has.profile;
          session = subst (λ z. SessionStandsAfter z (past_of d log)) (sym session) has.session;
          outbox = discards (page_at d log) (sent_laid d log) (waits d log) has.outbox;
          channels = λ c ch at.
              channel-same (opened log) (left_deeds d log n c) (λ m. deeds_of d m c (Discarded ∷ log)) (λ m. ap (λ ys. unsent_by m c ys ++ deeds_of d m c log) all) ch
              (has.channels c ch (ap (λ zs. slice_get zs c) (sym channels) ∙ at));
          out = λ c ch at. has.out c ch (ap (λ zs. slice_get zs c) (sym channels) ∙ at);
          as_logged = λ c ch at. has.as_logged c ch (ap (λ zs. slice_get zs c) (sym channels) ∙ at);
          many = ap length channels ∙ has.many;
          plan = ap (λ (z : SlaveState). z.plan) rest ∙ has.plan;
          number = ap (λ (z : SlaveState). z.number) rest ∙ has.number;
          account = subst (λ z. AccountStandsAfter z (entries_of d log) (late_in d (Discarded ∷ log))) (sym (ap (λ (z : SlaveState). z.account) rest))
              (same-unsent s.account (entries_of d log) (left_late d log n) (late_in d (Discarded ∷ log)) (λ q l below. ap (λ ys. late_in d log q l + count_by (is_late log q l) ys) all) has.account);
        };
        ended = λ none c ch at. leaves.ended log few stands none c ch (ap (λ zs. slice_get zs c) (sym channels) ∙ at);
      },
)

-- the master was lost, and then what waited was thrown away
pub hung-up-and-thrown : (a m b : SlaveState) → GoesBy a m (losing a.session.connected) → m.outbox ≡ a.outbox → m.session.profile ≡ a.session.profile → GoesBy m b (discarding (has_waiting m.outbox))
    → GoesBy a b (discarding (has_waiting a.outbox) ++ losing a.session.connected)
hung-up-and-thrown a m b loses outbox profile throws = (
  throws.0 ∙ loses.0,
  λ log stands.
      let d = a.session.profile in
      let lost = losing a.session.connected in
      let between = subst (λ p. SlaveStandsAfter p m (lost ++ log)) (sym profile) (loses.1 log stands) in
      let behind = subst (λ p. SlaveStandsAfter p b (discarding (has_waiting m.outbox) ++ (lost ++ log))) profile (throws.1 (lost ++ log) between) in
      subst (λ xs. SlaveStandsAfter d b xs) (sym (append_assoc (discarding (has_waiting a.outbox)) lost log))
      (subst (λ o. SlaveStandsAfter d b (discarding (has_waiting o) ++ (lost ++ log))) outbox behind),
)
