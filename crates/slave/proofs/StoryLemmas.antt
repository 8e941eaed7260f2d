-- What logs have in common after which one slave stands.
use Rattle.std.proofs.Common.{◌≡◌, ℕ, ◌+◌, ◌%◌, ◌<◌, Bool, true, false, List, length, refl, sym, ap, ◌∙◌, subst, arith, ◌⊎◌, inl, inr, slice_get}
use Rattle.std.specs.Prelude.{Option, Some, None}
use Rattle.std.proofs.lemmas.List.{length-map}
use Rattle.std.proofs.lemmas.List.Elements.{All-from_recursion}
use Rattle.std.specs.List.{AllByRecursion}
use Rattle.xcp_base.specs.declared.limits.TheConstants.{MAX_LISTS}
use Rattle.session.specs.Profiles.{IsProfile}
use Rattle.session.specs.declared.profile.Profile.{Profile}
use Rattle.slave_outbox.specs.Deeds.{Deed, taken}
use Rattle.slave_outbox.specs.Intakes.{StandsAfter}
use Rattle.slave_outbox.specs.Outboxes.{Laid, packets_in}
use Rattle.frame_writer.proofs.SplitLemmas.{split_is_unique, split_of_text}
use Rattle.frame_writer.proofs.TextLemmas.{text-mod}
use Rattle.frame_writer.specs.Frame.{text}
use Rattle.frame_writer.specs.Split.{Fits, IsSplit, numbered}
use Rattle.daq_engine.proofs.FrameLemmas.{packets_of_frames-numbered}
use Rattle.daq_engine.specs.Frames.{packets_of_frames}
use Rattle.slave_channels.proofs.TotalsLemmas.{agree-plus, agree-same}
use Rattle.slave_channels.specs.Accounts.{AccountStandsAfter, AccountState, Agree, AreSums, AreTotals, Entry, accepted_in, dropped_in, due_in, end_of, sum_before, written_in}
use Rattle.slave_channels.specs.AccountInner.{all_of}
use Rattle.slave_channels.proofs.SumsLemmas.{all-are}
use Rattle.slave_channels.specs.Channels.{ChannelState, ShareState}
use Rattle.slave.specs.Log.{Act, deeds_of, entries_of, is_out, late_in, sent_laid, waits}
use Rattle.slave.specs.Session.{SameStory, packets_sent}
use Rattle.slave.specs.Standing.{IsOut, SlaveHas, PartsStandAfter, SlaveState, number_of}
use Rattle.slave.proofs.OutLemmas.{some-at}
use Rattle.slave.proofs.SessionLemmas.{sent-fits}

-- bytes are the frames of one list of packets
same-packets : (n : ℕ) (xs ys : List (List ℕ)) → AllByRecursion Fits xs → AllByRecursion Fits ys → text n xs ≡ text n ys → xs ≡ ys
same-packets n xs ys fit_x fit_y same =
    let split_x = split_of_text n xs (All-from_recursion Fits xs fit_x) in
    let split_y = split_of_text n ys (All-from_recursion Fits ys fit_y) in
    sym (packets_of_frames-numbered n xs)
    ∙ ap packets_of_frames (split_is_unique (text n xs) (numbered n xs) (numbered n ys) split_x (subst (λ bytes. IsSplit bytes (numbered n ys)) (sym same) split_y))
    ∙ packets_of_frames-numbered n ys

some-inj : {X : Type 0} (x y : X) → Some x ≡ Some y → x ≡ y
some-inj x y e = cc

-- the totals of one account, where so many samples were thrown away late
same-totals : (account : AccountState) (xs ys : List Entry) (u v : ℕ → ℕ → ℕ) (l : ℕ) → l < MAX_LISTS → AccountStandsAfter account xs u → AccountStandsAfter account ys v
    → Agree (due_in xs l) (due_in ys l) × Agree (dropped_in xs l) (dropped_in ys l)
    × Agree (written_in xs l + sum_before (end_of ys) v l) (written_in ys l + sum_before (end_of xs) u l) × Agree (accepted_in xs l) (accepted_in ys l)
same-totals account xs ys u v l below one other =
    let (s, at, sums) = one.has.lists l below in
    let (other_s, also_at, also_sums) = other.has.lists l below in
    let t = all_of s in
    let of_u = sum_before (end_of xs) u l in
    let of_v = sum_before (end_of ys) v l in
    let are : AreTotals xs of_u l t = subst (λ n. AreTotals xs (sum_before n u l) l t) one.end_is (all-are account.end l xs u s sums one.has.reach) in
    let also : AreTotals ys of_v l t =
    subst (λ n. AreTotals ys (sum_before n v l) l t) other.end_is
    (all-are account.end l ys v s (subst (AreSums account.end ys v l) (some-inj other_s s (sym also_at ∙ at)) also_sums) other.has.reach) in (
      sym are.all_due ∙ also.all_due,
      sym are.dropped ∙ also.dropped,
      agree-plus (written_in xs l) (t.written + of_u) of_v of_v (sym are.written) refl
          ∙ agree-same (t.written + of_u + of_v) (t.written + of_v + of_u) (omega arith)
          ∙ agree-plus (t.written + of_v) (written_in ys l) of_u of_u also.written refl,
      sym are.left ∙ also.left,
    )

is-bool : (b : Bool) → (b ≡ true) ⊎ (b ≡ false)
is-bool true = inl refl
is-bool false = inr refl

same-bool : (a b : Bool) → (a ≡ true → b ≡ true) → (b ≡ true → a ≡ true) → a ≡ b
same-bool true b to from = sym (to refl)
same-bool false true to from = from refl
same-bool false false to from = refl

-- a part that is kept, by its number
part-numbered : (o : Option ShareState) (m : ℕ) → number_of o ≡ Some m → (p : ShareState) × (o ≡ Some p) × (p.number ≡ m)
part-numbered None m is = absurd cc
part-numbered (Some p) m is = (p, refl, some-inj p.number m is)

same-taken : (p : ShareState) (m : ℕ) (f g : ℕ → List Deed) → p.number ≡ m → StandsAfter p.intake (f p.number) → StandsAfter p.intake (g p.number) → taken (f m) ≡ taken (g m)
same-taken p m f g is one other = subst (λ k. taken (f k) ≡ taken (g k)) is (sym one.received ∙ other.received)

out-both : (f g : ℕ → Bool) (ch : ChannelState) (m : ℕ) → IsOut f ch → IsOut g ch → f m ≡ true → g m ≡ true
out-both f g ch m one other is =
    elim (one.kept m is) [
      | inl w ↦ other.newer m w
      | inr w ↦ other.older m w
    ]

channel-at : (d : Profile) (s : SlaveState) (log : List Act) (c : ℕ) → SlaveHas d s log → c < length d.events.items → (ch : ChannelState) × (slice_get s.channels c ≡ Some ch)
channel-at d s log c has within = some-at s.channels c (subst (λ n. c < n) (sym has.many) within)

same-out : (d : Profile) (s : SlaveState) (a b : List Act) → SlaveHas d s a → SlaveHas d s b → (m c : ℕ) → c < length d.events.items → is_out m c a ≡ is_out m c b
same-out d s a b one other m c within =
    let (ch, at) = channel-at d s a c one within in
    same-bool (is_out m c a) (is_out m c b)
    (out-both (λ k. is_out k c a) (λ k. is_out k c b) ch m (one.out c ch at) (other.out c ch at))
    (out-both (λ k. is_out k c b) (λ k. is_out k c a) ch m (other.out c ch at) (one.out c ch at))

same-items : (d : Profile) (s : SlaveState) (a b : List Act) → SlaveHas d s a → SlaveHas d s b → (m c : ℕ) → c < length d.events.items → is_out m c a ≡ true
    → taken (deeds_of d m c a) ≡ taken (deeds_of d m c b)
same-items d s a b one other m c within out =
    let (ch, at) = channel-at d s a c one within in
    elim ((one.out c ch at).kept m out) [
      | inl w ↦
          let (p, is, number) = part-numbered ch.newer m w in
          same-taken p m (λ k. deeds_of d k c a) (λ k. deeds_of d k c b) number ((one.channels c ch at).newer p is).stands ((other.channels c ch at).newer p is).stands
      | inr w ↦
          let (p, is, number) = part-numbered ch.older m w in
          same-taken p m (λ k. deeds_of d k c a) (λ k. deeds_of d k c b) number ((one.channels c ch at).older p is).0.stands ((other.channels c ch at).older p is).0.stands
    ]

same-packets-sent : (d : Profile) (s : SlaveState) (a b : List Act) → SlaveHas d s a → SlaveHas d s b → IsProfile d → packets_sent d a ≡ packets_sent d b
same-packets-sent d s a b one other profile =
    same-packets 0 (packets_sent d a) (packets_sent d b) (sent-fits d a one.is_log profile) (sent-fits d b other.is_log profile) (sym one.outbox.gone ∙ other.outbox.gone)

-- as many packets were sent, modulo 65536
same-counter : (d : Profile) (s : SlaveState) (a b : List Act) → SlaveHas d s a → SlaveHas d s b → length (packets_sent d a) % 65536 ≡ length (packets_sent d b) % 65536
same-counter d s a b one other =
    let many : (log : List Act) → length (packets_sent d log) ≡ length (sent_laid d log) = λ log. length-map (sent_laid d log) (λ (x : Laid). x.packet) in
    ap (λ n. n % 65536) (many a) ∙ sym one.outbox.counter ∙ other.outbox.counter ∙ ap (λ n. n % 65536) (sym (many b))

pub same-story : (d : Profile) (s : SlaveState) (a b : List Act) → PartsStandAfter d s a → PartsStandAfter d s b → SameStory d a b
same-story d s a b stands_a stands_b =
    let one = stands_a.has in
    let other = stands_b.has in
    let totals = λ (l : ℕ) (below : l < MAX_LISTS). same-totals s.account (entries_of d a) (entries_of d b) (late_in d a) (late_in d b) l below one.account other.account in
    record {
      sent = sym one.outbox.gone ∙ other.outbox.gone;
      waits_are =
          text-mod (length (packets_sent d a)) (length (packets_sent d b)) (packets_in (waits d a)) (same-counter d s a b one other)
          ∙ ap (λ xs. text (length (packets_sent d b)) (packets_in xs)) (sym one.outbox.waiting ∙ other.outbox.waiting);
      packets = same-packets-sent d s a b one other;
      counter = same-counter d s a b one other;
      waits_are_same = sym one.outbox.waiting ∙ other.outbox.waiting;
      due = λ l below. (totals l below).0;
      dropped = λ l below. (totals l below).1;
      written = λ l below. (totals l below).2;
      accepted = λ l below. (totals l below).3;
      measurements = sym one.number ∙ other.number;
      plan = sym one.plan ∙ other.plan;
      out = same-out d s a b one other;
      items = same-items d s a b one other;
    }
