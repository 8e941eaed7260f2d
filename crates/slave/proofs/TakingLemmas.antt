-- What a slave stands after once an item was taken.
use Rattle.std.proofs.Common.{◌≡◌, ◌≢◌, ℕ, ◌+◌, ◌-◌, ◌<◌, ◌≤◌, Bool, true, false, ◌&&◌, nat_eq, if◌then◌else◌, List, [], ◌∷◌, ◌++◌, append-nil, length, length-append, slice_get, refl, sym, ap, ◌∙◌, subst, arith, inl, inr}
use Rattle.std.specs.Prelude.{Option, Some, None}
use Rattle.std.proofs.lemmas.Bool.{false≢true}
use Rattle.std.proofs.lemmas.Bool.Decides.{eqb_tells}
use Rattle.std.proofs.lemmas.Option.{slice_get_within}
use Rattle.xcp_base.specs.declared.item.Item.{Item}
use Rattle.xcp_base.specs.declared.item.Item.TheVariants.{Marker, Sample}
use Rattle.frame_ring.specs.declared.frame_send.FrameSend.{FrameSend}
use Rattle.session.specs.Past.{Past}
use Rattle.session.specs.Standing.{SessionStandsAfter, SessionState}
use Rattle.slave_outbox.specs.Deeds.{Deed, passes}
use Rattle.slave_outbox.specs.Deeds.{Took as TookItem}
use Rattle.slave_outbox.specs.Deeds.{runs as runs_there}
use Rattle.slave_outbox.specs.Intakes.{IntakeState, OnlyLooked, StandsAfter}
use Rattle.slave_outbox.specs.Steps.{Takes}
use Rattle.slave_outbox.specs.declared.step.Step.{Step}
use Rattle.slave_outbox.specs.declared.step.Step.TheVariants.{Full, Marked, Nothing, Skipped, Wrote}
use Rattle.slave_outbox.specs.Outboxes.{Laid, LaysOut, OutboxState, together}
use Rattle.slave.specs.Pages.{page_at}
use Rattle.slave_outbox.specs.Outboxes.{StandsAfter as OutboxStandsAfter}
use Rattle.slave_outbox.specs.Taking.{TakesItem}
use Rattle.tasks.specs.Links.{LinkState, is_running, takes_orders}
use Rattle.slave_channels.specs.Channels.{ChannelState, ShareState, TakesOf}
use Rattle.slave_channels.specs.Calls.{TakesFromNewer, TakesFromOlder}
use Rattle.slave_channels.specs.Accounts.{AccountStandsAfter}
use Rattle.slave_channels.specs.Each.{IsOnlyAt}
use Rattle.slave.specs.Hearing.{GoesBy, KeepsLines, is_spent}
use Rattle.slave.specs.Inner.{PartsGoBy, acts_of, counting}
use Rattle.slave.specs.Log.{Act, Took, deeds_of, entries_of, is_out, laid_by, late_in, opened, past_of, sample_laid, sent_laid, waits}
use Rattle.slave.specs.Returns.{ends_in}
use Rattle.slave.specs.Standing.{Logged, logged, ChannelHas, HasEnded, IsOut, PartsStandAfter, SlaveStandsAfter, SlaveState, number_of, IsAsLogged, HasPacketsIfPasses}
use Rattle.slave.proofs.KeepingLemmas.{lines-but}
use Rattle.slave.proofs.OutLemmas.{KeepsParts, keeps-same, out-kept, out-same, some-at, opened-kept, opened_of}
use Rattle.session.specs.declared.profile.Profile.{Profile}
use Rattle.slave.specs.Taking.{TakesItems, is_take}
use Rattle.slave.proofs.WaitsLemmas.{laid-behind, waits-took}
use Rattle.slave.proofs.ChannelLemmas.{channel-same}
use Rattle.slave_outbox.specs.declared.origin.Origin.TheVariants as origin
use Rattle.std.specs.List.{list_all}
use Rattle.std.proofs.lemmas.List.Folds.{list_all-append}
use Rattle.slave.proofs.DeedLemmas.{deeds-few}
use Rattle.slave.proofs.HearingLemmas.{assoc}
use Rattle.slave.proofs.WeightLemmas.{costs, counted, goes-next, recounted}
use Rattle.slave.specs.declared.limits.TheConstants.{MOST_ACTS, PER_PACKET}

some_inj : {X : Type 0} (x y : X) → Some x ≡ Some y → x ≡ y
some_inj x y e = cc

none_some : {X : Type 0} (x : X) → None ≡ Some x → ⊥
none_some x e = cc

-- the deeds of another measurement, or of another event channel, and those of this one
took-here : (n c : ℕ) (x : Deed) (ds : List Deed) → (if nat_eq n n && nat_eq c c then x ∷ ds else ds) ≡ x ∷ ds
took-here n c x ds = ap (λ b. if b && nat_eq c c then x ∷ ds else ds) (same n) ∙ ap (λ b. if b then x ∷ ds else ds) (same c) where
  same : (k : ℕ) → nat_eq k k ≡ true
  same k =
      elim (eqb_tells k k) [
        | inl w ↦ w.0
        | inr w ↦ absurd (w.1 refl)
      ]

took-else : (n m k c : ℕ) (x : Deed) (ds : List Deed) → (n ≡ m → k ≡ c → ⊥) → (if nat_eq n m && nat_eq k c then x ∷ ds else ds) ≡ ds
took-else n m k c x ds other =
    elim (eqb_tells n m) [
      | inl w ↦ ap (λ b. if b && nat_eq k c then x ∷ ds else ds) w.0 ∙ elim (eqb_tells k c) [
        | inl v ↦ absurd (other w.1 v.1)
        | inr v ↦ ap (λ b. if b then x ∷ ds else ds) v.0
      ]
      | inr w ↦ ap (λ b. if b && nat_eq k c then x ∷ ds else ds) w.0
    ]

took-runs : (b : Bool) (l : ℕ) (ds : List Deed) (x : Item) → runs_there (if b then TookItem x ∷ ds else ds) l ≡ runs_there ds l
took-runs true l ds x = refl
took-runs false l ds x = refl

looked-stands : (a b : IntakeState) → OnlyLooked a b → (deeds : List Deed) → StandsAfter a deeds → StandsAfter b deeds
looked-stands a b looked deeds stands = record {
  few = stands.few;
  received = looked.end.received ∙ stands.received;
  lists = λ l below. ap (λ xs. slice_get xs l) looked.lists ∙ stands.lists l below;
}

-- how a taken item changes what was done: an item of the newer part's ring, or none
-- the newer part is another, which stands after what was done
channel-taken : (n : ℕ) (f g : ℕ → List Deed) (a b : ChannelState) (s t : ShareState) → a.newer ≡ Some s → b ≡ record a { newer = b.newer } → b.newer ≡ Some t → t.number ≡ s.number
    → StandsAfter t.intake (g s.number) → ((m : ℕ) → m ≢ s.number → g m ≡ f m) → ((m l : ℕ) → runs_there (g m) l ≡ runs_there (f m) l)
    → ChannelHas n f a → ChannelHas n g b
channel-taken n f g a b s t was rest is same stands others runs has =
    let older : b.older ≡ a.older = ap (λ (x : ChannelState). x.older) rest in
    let link = ap (λ (x : ChannelState). x.link) rest in
    let number : (q : ShareState) → b.newer ≡ Some q → q.number ≡ s.number = λ q at. ap (λ (x : ShareState). x.number) (some_inj q t (sym at ∙ is)) ∙ same in
    record {
      newer = λ q at. record {
        there = omega (arith, (has.newer s was).there, number q at);
        stands = subst (λ (x : ShareState). StandsAfter x.intake (g x.number)) (some_inj t q (sym is ∙ at)) (subst (λ k. StandsAfter t.intake (g k)) (sym same) stands);
      };
      older = λ p at.
          let (part, less) = has.older p (sym older ∙ at) in
          let before = has.order p s (sym older ∙ at) was in
          (record { there = part.there; stands = subst (StandsAfter p.intake) (sym (others p.number (λ e. omega (arith, e, before)))) part.stands }, less);
      order = λ p q at last. omega (arith, has.order p s (sym older ∙ at) was, number q last);
      newest = λ on q at. ap (λ k. k + 1) (number q at) ∙ has.newest (ap (λ (x : LinkState FrameSend). takes_orders x.newer) (sym link) ∙ on) s was;
      running = λ l below. ap (λ (x : LinkState FrameSend). is_running x.newer l) link ∙ has.running l below ∙ sym (runs (n - 1) l);
    }

-- the older part is another, which stands after what was done
channel-taken-older : (n : ℕ) (f g : ℕ → List Deed) (a b : ChannelState) (s t : ShareState) → a.older ≡ Some s → b ≡ record a { older = b.older } → b.older ≡ Some t → t.number ≡ s.number
    → StandsAfter t.intake (g s.number) → ((m : ℕ) → m ≢ s.number → g m ≡ f m) → ((m l : ℕ) → runs_there (g m) l ≡ runs_there (f m) l)
    → ChannelHas n f a → ChannelHas n g b
channel-taken-older n f g a b s t was rest is same stands others runs has =
    let newer : b.newer ≡ a.newer = ap (λ (x : ChannelState). x.newer) rest in
    let link = ap (λ (x : ChannelState). x.link) rest in
    let number : (q : ShareState) → b.older ≡ Some q → q.number ≡ s.number = λ q at. ap (λ (x : ShareState). x.number) (some_inj q t (sym at ∙ is)) ∙ same in
    record {
      newer = λ q at.
          let part = has.newer q (sym newer ∙ at) in
          let behind = has.order s q was (sym newer ∙ at) in
          record { there = part.there; stands = subst (StandsAfter q.intake) (sym (others q.number (λ e. omega (arith, e, behind)))) part.stands };
      older = λ q at.
          let (part, less) = has.older s was in (
            record {
              there = omega (arith, part.there, number q at);
              stands = subst (λ (x : ShareState). StandsAfter x.intake (g x.number)) (some_inj t q (sym is ∙ at)) (subst (λ k. StandsAfter t.intake (g k)) (sym same) stands);
            },
            omega (arith, less, number q at),
          );
      order = λ p q at last. omega (arith, has.order s q was (sym newer ∙ last), number p at);
      newest = λ on q at. has.newest (ap (λ (x : LinkState FrameSend). takes_orders x.newer) (sym link) ∙ on) q (sym newer ∙ at);
      running = λ l below. ap (λ (x : LinkState FrameSend). is_running x.newer l) link ∙ has.running l below ∙ sym (runs (n - 1) l);
    }

-- where one event channel changed, and what waits
pub record ChangesAt (a b : SlaveState) (c : ℕ) (x y : ChannelState) : Type 0 where
  pub was : slice_get a.channels c ≡ Some x
  pub is : slice_get b.channels c ≡ Some y
  pub others : (k : ℕ) → k ≢ c → slice_get b.channels k ≡ slice_get a.channels k
  pub quiet : takes_orders x.link.newer ≡ false → takes_orders y.link.newer ≡ false
  pub as_many : length b.channels ≡ length a.channels
  pub session : b.session ≡ a.session
  pub plan : b.plan ≡ a.plan
  pub number : b.number ≡ a.number

-- what waits behind an act, where what was there stands so
abbrev pub LaysBehind : SlaveState → SlaveState → Act → ℕ → IntakeState → Type 0
LaysBehind a b act c i =
    (log : List Act) → ((m : ℕ) (x : Item) → act ≡ Took m c x → StandsAfter i (deeds_of a.session.profile m c log))
    → OutboxStandsAfter a.outbox (page_at a.session.profile log) (sent_laid a.session.profile log) (waits a.session.profile log)
    → OutboxStandsAfter b.outbox (page_at a.session.profile log) (sent_laid a.session.profile log) (waits a.session.profile log ++ laid_by a.session.profile act log)

-- the channels behind a change at one of them
pub channels-changed : (n : ℕ) (f g : ℕ → ℕ → List Deed) (a b : SlaveState) (c : ℕ) (x y : ChannelState) → ChangesAt a b c x y
    → ((k m : ℕ) → k ≢ c → g k m ≡ f k m) → ChannelHas n (g c) y
    → ((k : ℕ) (ch : ChannelState) → slice_get a.channels k ≡ Some ch → ChannelHas n (f k) ch)
    → (k : ℕ) (ch : ChannelState) → slice_get b.channels k ≡ Some ch → ChannelHas n (g k) ch
channels-changed n f g a b c x y changes same here has k ch at =
    elim (eqb_tells k c) [
      | inl w ↦
          let is-y : y ≡ ch = some_inj y ch (sym changes.is ∙ ap (slice_get b.channels) (sym w.1) ∙ at) in
          subst (λ (z : ChannelState). ChannelHas n (g k) z) is-y (subst (λ j. ChannelHas n (g j) y) (sym w.1) here)
      | inr w ↦ channel-same n (f k) (g k) (λ m. sym (same k m w.1)) ch (has k ch (sym (changes.others k w.1) ∙ at))
    ]

pub ended-changed : (a b : SlaveState) (c : ℕ) (x y : ChannelState) (past : Past) → ChangesAt a b c x y → HasEnded a past → HasEnded b past
ended-changed a b c x y past changes ended = λ none k ch at.
    elim (eqb_tells k c) [
      | inl w ↦
          let is-y : y ≡ ch = some_inj y ch (sym changes.is ∙ ap (slice_get b.channels) (sym w.1) ∙ at) in
          ap (λ (z : ChannelState). takes_orders z.link.newer) (sym is-y) ∙ changes.quiet (ended none c x changes.was)
      | inr w ↦ ended none k ch (sym (changes.others k w.1) ∙ at)
    ]

-- the part with number m at an event channel, whose intake i is then j
pub record IsPart (x y : ChannelState) (m : ℕ) (i j : IntakeState) : Type 0 where
  pub part : (n : ℕ) (f : ℕ → List Deed) → ChannelHas n f x → (m < n) × StandsAfter i (f m)
  pub goes :
      (n : ℕ) (f g : ℕ → List Deed) → StandsAfter j (g m) → ((k : ℕ) → k ≢ m → g k ≡ f k) → ((k l : ℕ) → runs_there (g k) l ≡ runs_there (f k) l)
      → ChannelHas n f x → ChannelHas n g y
  pub keeps : KeepsParts x y
  pub out : (out : ℕ → Bool) → IsOut out x → out m ≡ true

pub newer-part : (x y : ChannelState) (s t : ShareState) → x.newer ≡ Some s → y ≡ record x { newer = y.newer } → y.newer ≡ Some t → t.number ≡ s.number → t.opened ≡ s.opened → IsPart x y s.number s.intake t.intake
newer-part x y s t was rest is same opened = record {
  part = λ n f has. ((has.newer s was).there, (has.newer s was).stands);
  goes = λ n f g stands others runs has. channel-taken n f g x y s t was rest is same stands others runs has;
  keeps = record {
    newer = ap (λ (o : Option ShareState). number_of o) is ∙ ap Some same ∙ sym (ap (λ (o : Option ShareState). number_of o) was);
    older = ap (λ (z : ChannelState). number_of z.older) rest;
    newer_opened = ap (λ (o : Option ShareState). opened_of o) is ∙ ap Some opened ∙ sym (ap (λ (o : Option ShareState). opened_of o) was);
    older_opened = ap (λ (z : ChannelState). opened_of z.older) rest;
    came = ap (λ (z : ChannelState). ends_in z.link.came) rest;
    ring = ap (λ (z : ChannelState). z.link.ring) rest;
  };
  out = λ out is. is.newer s.number (ap (λ (o : Option ShareState). number_of o) was);
}

pub older-part : (x y : ChannelState) (s t : ShareState) → x.older ≡ Some s → y ≡ record x { older = y.older } → y.older ≡ Some t → t.number ≡ s.number → t.opened ≡ s.opened → IsPart x y s.number s.intake t.intake
older-part x y s t was rest is same opened = record {
  part = λ n f has. ((has.older s was).0.there, (has.older s was).0.stands);
  goes = λ n f g stands others runs has. channel-taken-older n f g x y s t was rest is same stands others runs has;
  keeps = record {
    newer = ap (λ (z : ChannelState). number_of z.newer) rest;
    older = ap (λ (o : Option ShareState). number_of o) is ∙ ap Some same ∙ sym (ap (λ (o : Option ShareState). number_of o) was);
    newer_opened = ap (λ (z : ChannelState). opened_of z.newer) rest;
    older_opened = ap (λ (o : Option ShareState). opened_of o) is ∙ ap Some opened ∙ sym (ap (λ (o : Option ShareState). opened_of o) was);
    came = ap (λ (z : ChannelState). ends_in z.link.came) rest;
    ring = ap (λ (z : ChannelState). z.link.ring) rest;
  };
  out = λ out is. is.older s.number (ap (λ (o : Option ShareState). number_of o) was);
}

-- what is kept behind a change at one of the event channels
pub out-changed : (was now : ℕ → ℕ → Bool) (a b : SlaveState) (c : ℕ) (x y : ChannelState) → ChangesAt a b c x y
    → ((k m : ℕ) → k ≢ c → now k m ≡ was k m) → IsOut (now c) y
    → ((k : ℕ) (ch : ChannelState) → slice_get a.channels k ≡ Some ch → IsOut (was k) ch)
    → (k : ℕ) (ch : ChannelState) → slice_get b.channels k ≡ Some ch → IsOut (now k) ch
out-changed was now a b c x y changes same here has k ch at =
    elim (eqb_tells k c) [
      | inl w ↦
          let is-y : y ≡ ch = some_inj y ch (sym changes.is ∙ ap (slice_get b.channels) (sym w.1) ∙ at) in
          subst (λ (z : ChannelState). IsOut (now k) z) is-y (subst (λ j. IsOut (now j) y) (sym w.1) here)
      | inr w ↦
          let before = has k ch (sym (changes.others k w.1) ∙ at) in
          out-same (was k) (now k) ch (λ m. same k m w.1) before
    ]

-- and what it was opened with
pub opened-changed : (d : Profile) (pasts now : Logged) (a b : SlaveState) (c : ℕ) (x y : ChannelState) → ChangesAt a b c x y
    → ((k : ℕ) (ch : ChannelState) → k ≢ c → IsAsLogged d pasts k ch → IsAsLogged d now k ch) → IsAsLogged d now c y
    → ((k : ℕ) (ch : ChannelState) → slice_get a.channels k ≡ Some ch → IsAsLogged d pasts k ch)
    → (k : ℕ) (ch : ChannelState) → slice_get b.channels k ≡ Some ch → IsAsLogged d now k ch
opened-changed d pasts now a b c x y changes others here has k ch at =
    elim (eqb_tells k c) [
      | inl w ↦
          let is-y : y ≡ ch = some_inj y ch (sym changes.is ∙ ap (slice_get b.channels) (sym w.1) ∙ at) in
          subst (λ (z : ChannelState). IsAsLogged d now k z) is-y (subst (λ j. IsAsLogged d now j y) (sym w.1) here)
      | inr w ↦ others k ch w.1 (has k ch (sym (changes.others k w.1) ∙ at))
    ]

-- and it is on its line still
pub lines-at : (a b : SlaveState) (c : ℕ) (x y : ChannelState) → ChangesAt a b c x y → y.link.ring ≡ x.link.ring → KeepsLines a b
lines-at a b c x y changes same =
    lines-but c a.channels b.channels changes.as_many changes.others
    (λ u v at now.
    ap (λ (ch : ChannelState). ch.link.ring) (some_inj v y (sym now ∙ changes.is)) ∙ same
    ∙ ap (λ (ch : ChannelState). ch.link.ring) (some_inj x u (sym changes.was ∙ at)))

-- an item of a part was taken
pub took-item : (a b : SlaveState) (c : ℕ) (x y : ChannelState) (m : ℕ) (i j : IntakeState) (item : Item) → ChangesAt a b c x y → b.account ≡ a.account → IsPart x y m i j
    → Takes i j item → ((deeds : List Deed) → StandsAfter i deeds → HasPacketsIfPasses deeds item) → LaysBehind a b (Took m c item) c i → PartsGoBy a b (Took m c item ∷ [])
took-item a b c x y m i j item changes account part takes packets lays = (
  lines-at a b c x y changes part.keeps.ring,
  λ log few stands.
      let d = a.session.profile in
      let n = opened log in
      let ds = deeds_of d m c log in
      let has = stands.has in
      let (there, before) = part.part n (λ k. deeds_of d k c log) (has.channels c x changes.was) in
      let after = takes.goes_on ds (omega (arith, deeds-few d m c log, few)) before in
      let here : ChannelHas n (λ k. deeds_of d k c (Took m c item ∷ log)) y =
      part.goes n (λ k. deeds_of d k c log) (λ k. deeds_of d k c (Took m c item ∷ log))
      (subst (StandsAfter j) (sym (took-here m c (TookItem item) ds)) after)
      (λ k other. took-else m k c c (TookItem item) (deeds_of d k c log) (λ e z. other (sym e)))
      (λ k l. took-runs (nat_eq m k && nat_eq c c) l (deeds_of d k c log) item) (has.channels c x changes.was) in
      record {
        has = record {
          few = omega (arith, few);
          is_log = (
            there,
            record {
              within = subst (λ n. c < n) has.many (slice_get_within a.channels c x changes.was);
              out = part.out (λ k. is_out k c log) (has.out c x changes.was);
              packets = packets ds before;
            },
            has.is_log,
          );
          profile = ap (λ (z : SessionState). z.profile) changes.session;
          session = subst (λ z. SessionStandsAfter z (past_of d log)) (sym changes.session) has.session;
          outbox = subst (λ xs. OutboxStandsAfter b.outbox (page_at d log) (sent_laid d log) xs) (sym (waits-took d m c item log))
              (lays log (λ k z e. subst (λ q. StandsAfter i (deeds_of d q c log)) (number_of e) before) has.outbox);
          channels = channels-changed n (λ k q. deeds_of d q k log) (λ k q. deeds_of d q k (Took m c item ∷ log)) a b c x y changes
              (λ k q other. took-else m q c k (TookItem item) (deeds_of d q k log) (λ e z. other (sym z))) here has.channels;
          out = out-changed (λ k q. is_out q k log) (λ k q. is_out q k log) a b c x y changes (λ k q other. refl) (out-kept (λ q. is_out q c log) x y part.keeps (has.out c x changes.was)) has.out;
          as_logged = opened-changed d (logged d log) (logged d log) a b c x y changes (λ k ch other is. is) (opened-kept d (logged d log) c x y part.keeps (has.as_logged c x changes.was)) has.as_logged;
          many = changes.as_many ∙ has.many;
          plan = changes.plan ∙ has.plan;
          account = subst (λ z. AccountStandsAfter z (entries_of d log) (late_in d log)) (sym account) has.account;
          number = changes.number ∙ has.number;
        };
        ended = ended-changed a b c x y (past_of d log) changes stands.ended;
      },
) where
  number_of : {k : ℕ} {z : Item} → Took m c item ≡ Took k c z → m ≡ k
  number_of e = cc

-- nothing was taken
pub took-none : (a b : SlaveState) (c : ℕ) (x y : ChannelState) (P : Type 0) → ChangesAt a b c x y → KeepsParts x y → b.outbox ≡ a.outbox → b.account ≡ a.account
    → ((log : List Act) → PartsStandAfter a.session.profile a log → P) → ((n : ℕ) (f : ℕ → List Deed) → P → ChannelHas n f x → ChannelHas n f y) → PartsGoBy a b []
took-none a b c x y P changes keeps outbox account known same = (
  lines-at a b c x y changes keeps.ring,
  λ log few stands.
      let d = a.session.profile in
      let has = stands.has in
      record {
        has = record {
          few = has.few;
          is_log = has.is_log;
          profile = ap (λ (z : SessionState). z.profile) changes.session;
          session = subst (λ z. SessionStandsAfter z (past_of d log)) (sym changes.session) has.session;
          outbox = subst (λ o. OutboxStandsAfter o (page_at d log) (sent_laid d log) (waits d log)) (sym outbox) has.outbox;
          channels = channels-changed (opened log) (λ k m. deeds_of d m k log) (λ k m. deeds_of d m k log) a b c x y changes (λ k m other. refl)
              (same (opened log) (λ m. deeds_of d m c log) (known log stands) (has.channels c x changes.was)) has.channels;
          out = out-changed (λ k q. is_out q k log) (λ k q. is_out q k log) a b c x y changes (λ k q other. refl) (out-kept (λ q. is_out q c log) x y keeps (has.out c x changes.was)) has.out;
          as_logged = opened-changed d (logged d log) (logged d log) a b c x y changes (λ k ch other is. is) (opened-kept d (logged d log) c x y keeps (has.as_logged c x changes.was)) has.as_logged;
          many = changes.as_many ∙ has.many;
          plan = changes.plan ∙ has.plan;
          account = subst (λ z. AccountStandsAfter z (entries_of d log) (late_in d log)) (sym account) has.account;
          number = changes.number ∙ has.number;
        };
        ended = ended-changed a b c x y (past_of d log) changes stands.ended;
      },
)

-- what waits stays as it is where nothing is laid out, and gains a sample where one passes
lays-none : (a b : SlaveState) (act : Act) (c : ℕ) (i : IntakeState) → b.outbox ≡ a.outbox
    → ((log : List Act) → ((m : ℕ) (x : Item) → act ≡ Took m c x → StandsAfter i (deeds_of a.session.profile m c log)) → laid_by a.session.profile act log ≡ []) → LaysBehind a b act c i
lays-none a b act c i same none = λ log there stands.
    let d = a.session.profile in
    let all : waits d log ++ laid_by d act log ≡ waits d log = ap (λ xs. waits d log ++ xs) (none log there) ∙ append-nil (waits d log) in
    subst (λ xs. OutboxStandsAfter b.outbox (page_at d log) (sent_laid d log) xs) (sym all)
    (subst (λ o. OutboxStandsAfter o (page_at d log) (sent_laid d log) (waits d log)) (sym same) stands)

lays-some : (a b : SlaveState) (act : Act) (c : ℕ) (i : IntakeState) (xs : List Laid) → LaysOut a.outbox b.outbox xs
    → ((log : List Act) → ((m : ℕ) (x : Item) → act ≡ Took m c x → StandsAfter i (deeds_of a.session.profile m c log)) → laid_by a.session.profile act log ≡ xs) → LaysBehind a b act c i
lays-some a b act c i xs lays some = λ log there stands.
    let d = a.session.profile in
    subst (λ ys. OutboxStandsAfter b.outbox (page_at d log) (sent_laid d log) (waits d log ++ ys)) (sym (some log there))
    (laid-behind a.outbox b.outbox (page_at d log) xs (sent_laid d log) (waits d log) lays stands)

-- it is not spent, counted nothing yet, and showed nothing more
pub record Counts (a b : SlaveState) : Type 0 where
  pub fits : a.acts < MOST_ACTS + PER_PACKET
  pub same : b.acts ≡ a.acts
  pub fresh : is_spent a ≡ false
  pub shown : b.outbox.shown ≡ a.outbox.shown

counted-take : (a b : SlaveState) (acts : List Act) (n : ℕ) → Counts a b → length acts ≤ 1 → costs acts ≤ n → PartsGoBy a b acts → GoesBy a (counting b n) acts
counted-take a b acts n counts few enough goes = counted a (counting b n) acts counts.fits (omega (arith, few)) (omega (arith, counts.same, enough)) (recounted a b acts n goes)

-- by what became of the next item
taken-step : (a b : SlaveState) (c : ℕ) (x y : ChannelState) (m : ℕ) (i j : IntakeState) → ChangesAt a b c x y → b.account ≡ a.account → Counts a b → length b.channels ≡ length a.channels → IsPart x y m i j
    → (step : Step) → TakesItem i j a.outbox b.outbox m c step → TakesItems 1 a (counting b (acts_of step))
taken-step a b c x y m i j changes account counts many part Nothing (looked, known, out) = record {
  acts = [];
  are = refl;
  few = omega arith;
  counted = omega (arith, counts.same);
  session = changes.session;
  as_many = many;
  shown = counts.shown;
  spent = λ is. absurd (false≢true (sym counts.fresh ∙ is));
  goes = counted-take a b ([]) (acts_of Nothing) counts (omega arith) (omega arith) (took-none a b c x y (Unit {0}) changes part.keeps out account (λ log z. tt) (λ n f u has. part.goes n f f (looked-stands i j looked (f m) (part.part n f has).1) (λ k o. refl) (λ k l. refl) has));
}
taken-step a b c x y m i j changes account counts many part Full (p, len, looked, known, passes, room, out) = record {
  acts = [];
  are = refl;
  few = omega arith;
  counted = omega (arith, counts.same);
  session = changes.session;
  as_many = many;
  shown = counts.shown;
  spent = λ is. absurd (false≢true (sym counts.fresh ∙ is));
  goes = counted-take a b ([]) (acts_of Full) counts (omega arith) (omega arith) (took-none a b c x y (Unit {0}) changes part.keeps out account (λ log z. tt) (λ n f u has. part.goes n f f (looked-stands i j looked (f m) (part.part n f has).1) (λ k o. refl) (λ k l. refl) has));
}
taken-step a b c x y m i j changes account counts many part (Marked l) (mark, takes, list, out) = record {
  acts = Took m c (Marker mark) ∷ [];
  are = refl;
  few = omega arith;
  counted = omega (arith, counts.same);
  session = changes.session;
  as_many = many;
  shown = counts.shown;
  spent = λ is. absurd (false≢true (sym counts.fresh ∙ is));
  goes = counted-take a b (Took m c (Marker mark) ∷ []) (acts_of (Marked l)) counts (omega arith) (omega arith) (took-item a b c x y m i j (Marker mark) changes account part takes (λ deeds before. tt) (lays-none a b (Took m c (Marker mark)) c i out (λ log there. refl)));
}
taken-step a b c x y m i j changes account counts many part (Skipped l) (p, takes, list, held, out) = record {
  acts = Took m c (Sample p) ∷ [];
  are = refl;
  few = omega arith;
  counted = omega (arith, counts.same);
  session = changes.session;
  as_many = many;
  shown = counts.shown;
  spent = λ is. absurd (false≢true (sym counts.fresh ∙ is));
  goes = counted-take a b (Took m c (Sample p) ∷ []) (acts_of (Skipped l)) counts (omega arith) (omega arith) (took-item a b c x y m i j (Sample p) changes account part takes
      (λ deeds before pass. absurd (false≢true (sym (held deeds before) ∙ pass)))
      (lays-none a b (Took m c (Sample p)) c i out
      (λ log there. ap (λ z. sample_laid z m c p) (held (deeds_of a.session.profile m c log) (there m (Sample p) refl)))));
}
taken-step a b c x y m i j changes account counts many part (Wrote l len) (p, takes, list, passes, each, room, lays) = record {
  acts = Took m c (Sample p) ∷ [];
  are = refl;
  few = omega arith;
  counted = omega (arith, counts.same);
  session = changes.session;
  as_many = many;
  shown = counts.shown;
  spent = λ is. absurd (false≢true (sym counts.fresh ∙ is));
  goes = counted-take a b (Took m c (Sample p) ∷ []) (acts_of (Wrote l len)) counts (omega arith) (omega arith) (took-item a b c x y m i j (Sample p) changes account part takes
      (λ deeds before pass. each)
      (lays-some a b (Took m c (Sample p)) c i (together (origin.Sample m c p.list) p.packets)
      (subst (λ k. LaysOut a.outbox b.outbox (together (origin.Sample m c k) p.packets)) list lays)
      (λ log there. ap (λ z. sample_laid z m c p) (passes (deeds_of a.session.profile m c log) (there m (Sample p) refl)))));
}

-- of the newer part, and of the older, if they are there
taken-newer : (a b : SlaveState) (c : ℕ) (x y : ChannelState) (step : Step) → ChangesAt a b c x y → b.account ≡ a.account → Counts a b → length b.channels ≡ length a.channels → y ≡ record x { newer = y.newer }
    → (u v : Option ShareState) → x.newer ≡ u → y.newer ≡ v → TakesOf c u v a.outbox b.outbox step → TakesItems 1 a (counting b (acts_of step))
taken-newer a b c x y step changes account counts many rest None None was is (none, out) = record {
  acts = [];
  are = refl;
  few = omega arith;
  counted = let zero_acts : acts_of step ≡ 0 = ap acts_of none in omega (arith, counts.same, zero_acts);
  session = changes.session;
  as_many = many;
  shown = counts.shown;
  spent = λ is. absurd (false≢true (sym counts.fresh ∙ is));
  goes = counted-take a b ([]) (acts_of step) counts (omega arith) (omega arith) (let same : y ≡ x = rest ∙ ap (λ z. record x { newer = z }) (is ∙ sym was) in
      took-none a b c x y (Unit {0}) changes (keeps-same x y same) out account (λ log z. tt) (λ n f u has. subst (ChannelHas n f) (sym same) has));
}
taken-newer a b c x y step changes account counts many rest None (Some t) was is takes = elim takes [ ]
taken-newer a b c x y step changes account counts many rest (Some s) None was is takes = elim takes [ ]
taken-newer a b c x y step changes account counts many rest (Some s) (Some t) was is (same, takes, opened) = taken-step a b c x y s.number s.intake t.intake changes account counts many (newer-part x y s t was rest is same opened) step takes

taken-older : (a b : SlaveState) (c : ℕ) (x y : ChannelState) (step : Step) → ChangesAt a b c x y → b.account ≡ a.account → Counts a b → length b.channels ≡ length a.channels → y ≡ record x { older = y.older }
    → (u v : Option ShareState) → x.older ≡ u → y.older ≡ v → TakesOf c u v a.outbox b.outbox step → TakesItems 1 a (counting b (acts_of step))
taken-older a b c x y step changes account counts many rest None None was is (none, out) = record {
  acts = [];
  are = refl;
  few = omega arith;
  counted = let zero_acts : acts_of step ≡ 0 = ap acts_of none in omega (arith, counts.same, zero_acts);
  session = changes.session;
  as_many = many;
  shown = counts.shown;
  spent = λ is. absurd (false≢true (sym counts.fresh ∙ is));
  goes = counted-take a b ([]) (acts_of step) counts (omega arith) (omega arith) (let same : y ≡ x = rest ∙ ap (λ z. record x { older = z }) (is ∙ sym was) in
      took-none a b c x y (Unit {0}) changes (keeps-same x y same) out account (λ log z. tt) (λ n f u has. subst (ChannelHas n f) (sym same) has));
}
taken-older a b c x y step changes account counts many rest None (Some t) was is takes = elim takes [ ]
taken-older a b c x y step changes account counts many rest (Some s) None was is takes = elim takes [ ]
taken-older a b c x y step changes account counts many rest (Some s) (Some t) was is (same, takes, opened) = taken-step a b c x y s.number s.intake t.intake changes account counts many (older-part x y s t was rest is same opened) step takes

-- the next item of the newest measurement at an event channel was taken, if there was one
pub took-one : (v w : SlaveState) (xs : List ChannelState) (o : OutboxState) (c n : ℕ) (step : Step) → w ≡ v → w.acts < MOST_ACTS + PER_PACKET → is_spent v ≡ false → n ≡ acts_of step → c < length w.channels → o.shown ≡ w.outbox.shown
    → IsOnlyAt (TakesFromNewer c w.outbox o step) c w.channels xs → TakesItems 1 v (record w { outbox = o; channels = xs; acts = w.acts + n })
took-one v w xs o c n step same fits fresh is_n below shown only =
    let (x, was) = some-at w.channels c below in
    let (y, is) = some-at xs c (omega (arith, below, only.as_many)) in
    let one = only.here x y was is in
    let b : SlaveState = record w { outbox = o; channels = xs } in
    let changes : ChangesAt w b c x y = record {
      was = was;
      is = is;
      others = only.others;
      as_many = only.as_many;
      quiet = λ off. ap (λ (z : ChannelState). takes_orders z.link.newer) one.rest ∙ off;
      session = refl;
      plan = refl;
      number = refl;
    } in
    subst (λ (z : SlaveState). TakesItems 1 z (counting b n)) same
    (subst (λ k. TakesItems 1 w (counting b k)) (sym is_n) (taken-newer w b c x y step changes refl (record { fits = fits; same = refl; fresh = ap is_spent same ∙ fresh; shown = shown }) only.as_many one.rest x.newer y.newer refl refl one.takes))

-- the next item of the measurement before it was taken, if there was one
pub took-older : (v w : SlaveState) (xs : List ChannelState) (o : OutboxState) (c n : ℕ) (step : Step) → w ≡ v → w.acts < MOST_ACTS + PER_PACKET → is_spent v ≡ false → n ≡ acts_of step → c < length w.channels → o.shown ≡ w.outbox.shown
    → IsOnlyAt (TakesFromOlder c w.outbox o step) c w.channels xs → TakesItems 1 v (record w { outbox = o; channels = xs; acts = w.acts + n })
took-older v w xs o c n step same fits fresh is_n below shown only =
    let (x, was) = some-at w.channels c below in
    let (y, is) = some-at xs c (omega (arith, below, only.as_many)) in
    let one = only.here x y was is in
    let b : SlaveState = record w { outbox = o; channels = xs } in
    let changes : ChangesAt w b c x y = record {
      was = was;
      is = is;
      others = only.others;
      as_many = only.as_many;
      quiet = λ off. ap (λ (z : ChannelState). takes_orders z.link.newer) one.rest ∙ off;
      session = refl;
      plan = refl;
      number = refl;
    } in
    subst (λ (z : SlaveState). TakesItems 1 z (counting b n)) same
    (subst (λ k. TakesItems 1 w (counting b k)) (sym is_n) (taken-older w b c x y step changes refl (record { fits = fits; same = refl; fresh = ap is_spent same ∙ fresh; shown = shown }) only.as_many one.rest x.older y.older refl refl one.takes))

pub takes-nothing : (a : SlaveState) → TakesItems 0 a a
takes-nothing a = record { acts = []; are = refl; few = omega arith; counted = omega arith; session = refl; as_many = refl; shown = refl; spent = λ is. refl; goes = (refl, λ log stands. stands) }

-- items were taken, and then others
pub takes-more : (n k : ℕ) (a m b : SlaveState) → TakesItems n a m → TakesItems k m b → TakesItems (n + k) a b
takes-more n k a m b one two = record {
  acts = two.acts ++ one.acts;
  are = list_all-append is_take two.acts one.acts ∙ ap (λ z. z && list_all is_take one.acts) two.are ∙ one.are;
  few = omega (arith, length-append two.acts one.acts, one.few, two.few);
  counted = omega (arith, length-append two.acts one.acts, one.counted, two.counted);
  session = two.session ∙ one.session;
  as_many = two.as_many ∙ one.as_many;
  shown = two.shown ∙ one.shown;
  spent = λ is.
      let first : m ≡ record a { next = m.next } = one.spent is in
      two.spent (ap is_spent first ∙ is) ∙ ap (λ (s : SlaveState). record s { next = b.next }) first;
  goes = (
    two.goes.0 ∙ one.goes.0,
    λ log stands.
        let profile = ap (λ (s : SessionState). s.profile) one.session in
        subst (λ xs. SlaveStandsAfter a.session.profile b xs) (sym (assoc two.acts one.acts log))
        (subst (λ p. SlaveStandsAfter p b (two.acts ++ (one.acts ++ log))) profile
        (two.goes.1 (one.acts ++ log) (subst (λ p. SlaveStandsAfter p m (one.acts ++ log)) (sym profile) (one.goes.1 log stands)))),
  );
}

-- no more than so many are no more than more
pub takes-within : (n k : ℕ) (a b : SlaveState) → n ≤ k → TakesItems n a b → TakesItems k a b
takes-within n k a b below one = record {
  acts = one.acts;
  are = one.are;
  few = omega (arith, below, one.few);
  counted = one.counted;
  session = one.session;
  as_many = one.as_many;
  shown = one.shown;
  spent = one.spent;
  goes = one.goes;
}

-- where the next look begins is no part of this
pub takes-next : (n k : ℕ) (a b : SlaveState) → TakesItems n a b → TakesItems n a (record b { next = k })
takes-next n k a b one = record {
  acts = one.acts;
  are = one.are;
  few = one.few;
  counted = one.counted;
  session = one.session;
  as_many = one.as_many;
  shown = one.shown;
  spent = λ is. ap (λ (s : SlaveState). record s { next = k }) (one.spent is);
  goes = goes-next a b one.acts k one.goes;
}
