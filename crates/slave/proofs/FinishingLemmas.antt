-- What a slave stands after once something came back.
use Rattle.std.proofs.Common.{◌≡◌, ℕ, ◌+◌, ◌<◌, Bool, true, false, ◌&&◌, ◌||◌, not, nat_eq, List, [], ◌∷◌, length, refl, sym, ap, ◌∙◌, subst, arith, inl, inr, ◌*◌, ◌%◌, ◌≤◌, slice_get}
use Rattle.std.specs.Prelude.{Option, Some, None, IfSome, IsNone, IsSome}
use Rattle.std.proofs.lemmas.Bool.Decides.{eqb_tells}
use Rattle.sampler.specs.Past.{Past as SamplerPast}
use Rattle.session.specs.Standing.{SessionStandsAfter, SessionState}
use Rattle.slave_outbox.specs.Outboxes.{StandsAfter as OutboxStandsAfter}
use Rattle.slave.specs.Pages.{page_at}
use Rattle.slave.specs.Inner.{PartsGoBy, counting}
use Rattle.std.proofs.lemmas.Bool.{false≢true}
use Rattle.frame_ring.specs.declared.frame_send.FrameSend.{FrameSend}
use Rattle.slave_outbox.specs.Deeds.{Deed}
use Rattle.slave_outbox.specs.Intakes.{StandsAfter}
use Rattle.tasks.specs.Links.{is_out as is_away_out}
use Rattle.tasks.specs.Links.{AwayState, LinkState, LooksAtNewest, is_running, runs_of, takes_orders}
use Rattle.slave_channels.specs.Channels.{ChannelState, FinishedState, IsBackOf, IsPastOf, OpenedState, ShareState}
use Rattle.slave_channels.specs.Calls.{GivesBackNewer, GivesBackOlder}
use Rattle.slave_channels.specs.Each.{IsOnlyAt}
use Rattle.slave.specs.Finishing.{GivesBack, GivesBackBy, IsFinishedOf, IsOpenedThere}
use Rattle.slave_channels.specs.Accounts.{AccountStandsAfter, AccountState}
use Rattle.slave.specs.Inner.{IsOver, Notes}
use Rattle.slave.specs.Log.{Act, CameBack, deeds_of, entries_of, has_part, is_back, is_out, late_in, opened, past_of, sent_laid, waits}
use Rattle.daq_engine.specs.Openings.{IsOpeningOf}
use Rattle.session.specs.declared.profile.Profile.{Profile}
use Rattle.slave.specs.Openings.{IsOpenedAfter, IsOpeningAfter, past_at}
use Rattle.slave.specs.Returns.{AreReturns, ends_in, returns_at}
use Rattle.slave.proofs.ReturnLemmas.{none-ends, returned, returns-here, returns-other}
use Rattle.slave.specs.Standing.{logged, IsAsLogged, ChannelHas, ComesBack, IsLog, IsOut, PartsStandAfter, SlaveState, number_of, NoneRuns}
use Rattle.slave.proofs.DeedLemmas.{out-back}
use Rattle.slave.proofs.OutLemmas.{some-at, opened_of}
use Rattle.slave.proofs.WeightLemmas.{counted, recounted}
use Rattle.slave.specs.declared.limits.TheConstants.{MOST_ACTS, PER_ACT, PER_PACKET}
use Rattle.slave.proofs.TakingLemmas.{ChangesAt, channels-changed, ended-changed, lines-at, out-changed, took-none, opened-changed}
use Rattle.slave.proofs.OpenedLemmas.{none-ran, opening-by}
use Rattle.xcp_base.specs.declared.limits.TheConstants.{MAX_TAKEN}
use Rattle.slave.proofs.StandingLemmas.{few-opened}

none_some : {X : Type 0} (x : X) → None ≡ Some x → ⊥
none_some x e = cc

some_same : {X : Type 0} (x y : X) → Some x ≡ Some y → x ≡ y
some_same x y e = cc

is-some : {X : Type 0} (o : Option X) (x : X) → o ≡ Some x → IsSome o
is-some o x at = subst (λ z. IsSome z) (sym at) refl

told : {X : Type 0} (P : X → Type 0) (o : Option X) → ((x : X) → o ≡ Some x → P x) → IfSome o P
told P None each = tt
told P (Some x) each = each x refl

if-some : {X : Type 0} (P : X → Type 0) (o : Option X) (x : X) → IfSome o P → o ≡ Some x → P x
if-some P None x all is = absurd (none_some x is)
if-some P (Some y) x all is = subst P (some_same y x is) all

-- a part by its number
part-of : (o : Option ShareState) (k : ℕ) → number_of o ≡ Some k → (p : ShareState) × (o ≡ Some p) × (p.number ≡ k)
part-of None k is = absurd (none_some k is)
part-of (Some p) k is = (p, refl, some_same p.number k is)

and_false : (b : Bool) → (b && false) ≡ false
and_false true = refl
and_false false = refl

-- of another measurement the same is out
other-out : (m k c : ℕ) (p b : Bool) → (m ≡ k → ⊥) → (p && not ((nat_eq m k && nat_eq c c) || b)) ≡ (p && not b)
other-out m k c p b other =
    elim (eqb_tells m k) [
      | inl w ↦ absurd (other w.1)
      | inr w ↦ ap (λ e. p && not ((e && nat_eq c c) || b)) w.0
    ]

-- what is out is no part that came back
not-this : (m k c : ℕ) (p b : Bool) → (p && not ((nat_eq m k && nat_eq c c) || b)) ≡ true → m ≡ k → ⊥
not-this m k c p b there e =
    elim (eqb_tells m k) [
      | inl w ↦
          elim (eqb_tells c c) [
            | inl v ↦ false≢true (sym (ap (λ x. p && not ((x && nat_eq c c) || b)) w.0 ∙ ap (λ x. p && not ((true && x) || b)) v.0 ∙ and_false p) ∙ there)
            | inr v ↦ v.1 refl
          ]
      | inr w ↦ w.1 e
    ]

elsewhere : (m q c k : ℕ) (b : Bool) → (c ≡ k → ⊥) → ((nat_eq m q && nat_eq c k) || b) ≡ b
elsewhere m q c k b other =
    elim (eqb_tells c k) [
      | inl w ↦ absurd (other w.1)
      | inr w ↦ ap (λ e. (nat_eq m q && e) || b) w.0 ∙ ap (λ e. e || b) (and_false (nat_eq m q))
    ]

quiet-runs : (a : Option (AwayState FrameSend)) (l : ℕ) → takes_orders a ≡ false → is_running a l ≡ false
quiet-runs None l off = refl
quiet-runs (Some x) l off = ap (λ b. b && runs_of x l) off

-- a channel from which the older part may have gone
channel-without-older : (n : ℕ) (f : ℕ → List Deed) (x y : ChannelState) → ((p : ShareState) → y.older ≡ Some p → x.older ≡ Some p) → y.newer ≡ x.newer → y.link.newer ≡ x.link.newer
    → ChannelHas n f x → ChannelHas n f y
channel-without-older n f x y older newer link has = record {
  newer = λ p is. has.newer p (sym newer ∙ is);
  older = λ p is. has.older p (older p is);
  order = λ p q is at. has.order p q (older p is) (sym newer ∙ at);
  newest = λ on p is. has.newest (ap takes_orders (sym link) ∙ on) p (sym newer ∙ is);
  running = λ l below. ap (λ o. is_running o l) link ∙ has.running l below;
}

-- a channel whose measurement has ended, and from which the newer part may have gone
channel-without-newer : (n : ℕ) (f : ℕ → List Deed) (x y : ChannelState) → takes_orders x.link.newer ≡ false → takes_orders y.link.newer ≡ false → ((p : ShareState) → y.newer ≡ Some p → x.newer ≡ Some p) → y.older ≡ x.older
    → ChannelHas n f x → ChannelHas n f y
channel-without-newer n f x y was off newer older has = record {
  newer = λ p is. has.newer p (newer p is);
  older = λ p is. has.older p (sym older ∙ is);
  order = λ p q is at. has.order p q (sym older ∙ is) (newer q at);
  newest = λ on p is. absurd (false≢true (sym off ∙ on));
  running = λ l below. quiet-runs y.link.newer l off ∙ sym (quiet-runs x.link.newer l was) ∙ has.running l below;
}

-- a part came back, and the others did not
out-without-older : (n : ℕ) (f : ℕ → List Deed) (x y : ChannelState) (s : ShareState) (c : ℕ) (part back : ℕ → Bool) → x.older ≡ Some s → y.older ≡ None → y.newer ≡ x.newer
    → ChannelHas n f x → IsOut (λ k. part k && not (back k)) x → IsOut (λ k. part k && not ((nat_eq s.number k && nat_eq c c) || back k)) y
out-without-older n f x y s c part back was gone newer has out =
    let same : number_of y.newer ≡ number_of x.newer = ap (λ (o : Option ShareState). number_of o) newer in
    record {
      newer = λ k at.
          let (q, there, number) = part-of x.newer k (sym same ∙ at) in
          other-out s.number k c (part k) (back k) (λ e. omega (arith, has.order s q was there, number, e)) ∙ out.newer k (sym same ∙ at);
      older = λ k at. absurd (none_some k (sym (ap (λ (o : Option ShareState). number_of o) gone) ∙ at));
      kept = λ k there.
          let other = not-this s.number k c (part k) (back k) there in
          elim (out.kept k (sym (other-out s.number k c (part k) (back k) other) ∙ there)) [
            | inl w ↦ inl (same ∙ w)
            | inr w ↦ absurd (other (some_same s.number k (sym (ap (λ (o : Option ShareState). number_of o) was) ∙ w)))
          ];
    }

out-without-newer : (n : ℕ) (f : ℕ → List Deed) (x y : ChannelState) (s : ShareState) (c : ℕ) (part back : ℕ → Bool) → x.newer ≡ Some s → y.newer ≡ None → y.older ≡ x.older
    → ChannelHas n f x → IsOut (λ k. part k && not (back k)) x → IsOut (λ k. part k && not ((nat_eq s.number k && nat_eq c c) || back k)) y
out-without-newer n f x y s c part back was gone older has out =
    let same : number_of y.older ≡ number_of x.older = ap (λ (o : Option ShareState). number_of o) older in
    record {
      newer = λ k at. absurd (none_some k (sym (ap (λ (o : Option ShareState). number_of o) gone) ∙ at));
      older = λ k at.
          let (q, there, number) = part-of x.older k (sym same ∙ at) in
          other-out s.number k c (part k) (back k) (λ e. omega (arith, has.order q s there was, number, e)) ∙ out.older k (sym same ∙ at);
      kept = λ k there.
          let other = not-this s.number k c (part k) (back k) there in
          elim (out.kept k (sym (other-out s.number k c (part k) (back k) other) ∙ there)) [
            | inl w ↦ absurd (other (some_same s.number k (sym (ap (λ (o : Option ShareState). number_of o) was) ∙ w)))
            | inr w ↦ inr (same ∙ w)
          ];
    }

-- at the other event channels nothing came back
elsewhere-logged : (d : Profile) (m c k : ℕ) (past : SamplerPast) (log : List Act) (ch : ChannelState) → (k ≡ c → ⊥) → IsAsLogged d (logged d log) k ch → IsAsLogged d (logged d (CameBack m c past ∷ log)) k ch
elsewhere-logged d m c k past log ch other is = record {
  newer = is.newer;
  older = is.older;
  came = subst (λ pasts. AreReturns pasts (ends_in ch.link.came)) (sym (returns-other m c k past log other)) is.came;
}

-- what is left of the sampler of a part came back
came-back : (a b : SlaveState) (c m : ℕ) (x y : ChannelState) (past : SamplerPast) → ChangesAt a b c x y → y.link.ring ≡ x.link.ring → b.outbox ≡ a.outbox
    → ((log : List Act) → PartsStandAfter a.session.profile a log → AccountStandsAfter b.account (record { number = m; past = past; deeds = deeds_of a.session.profile m c log } ∷ entries_of a.session.profile log) (late_in a.session.profile log)
    × ComesBack a.session.profile log m c past
    × ChannelHas (opened log) (λ q. deeds_of a.session.profile q c log) y × IsOut (λ q. is_out q c (CameBack m c past ∷ log)) y
    × IsAsLogged a.session.profile (logged a.session.profile (CameBack m c past ∷ log)) c y)
    → PartsGoBy a b (CameBack m c past ∷ [])
came-back a b c m x y past changes line outbox known = (
  lines-at a b c x y changes line,
  λ log few stands.
      let d = a.session.profile in
      let has = stands.has in
      let (account, comes, here, out, opens) = known log stands in
      record {
        has = record {
          few = omega (arith, few);
          is_log = (comes, has.is_log);
          profile = ap (λ (z : SessionState). z.profile) changes.session;
          session = subst (λ z. SessionStandsAfter z (past_of d log)) (sym changes.session) has.session;
          outbox =
              subst (λ o. OutboxStandsAfter o (page_at d log) (sent_laid d log) (waits d log)) (sym outbox) has.outbox;
          channels = channels-changed (opened log) (λ k q. deeds_of d q k log) (λ k q. deeds_of d q k log) a b c x y changes (λ k q other. refl) here has.channels;
          out = out-changed (λ k q. is_out q k log) (λ k q. is_out q k (CameBack m c past ∷ log)) a b c x y changes
              (λ k q other. ap (λ e. has_part q k log && not e) (elsewhere m q c k (is_back q k log) (λ e. other (sym e)))) out has.out;
          as_logged = opened-changed d (logged d log) (logged d (CameBack m c past ∷ log)) a b c x y changes (λ k ch other is. elsewhere-logged d m c k past log ch other is) opens has.as_logged;
          many = changes.as_many ∙ has.many;
          plan = changes.plan ∙ has.plan;
          account = account;
          number = changes.number ∙ has.number;
        };
        ended = ended-changed a b c x y (past_of d log) changes stands.ended;
      },
)

-- the opening of what came back, by the log
opening-of : (d : Profile) (log : List Act) (c : ℕ) (f : FinishedState) (past : SamplerPast) → IsLog d log → f.number < opened log → IsOpenedAfter d (past_at d f.number log) c f.opened → IsPastOf f past
    → IsOpeningAfter d (past_at d f.number log) c past.opening
opening-of d log c f past is_log there opens is =
    opening-by d f.opened.store (past_at d f.number log) c past.opening opens.store opens.profile (none-ran d f.number log is_log there) (subst (λ k. IsOpeningOf f.opened.store k past.opening) opens.channel is.opens)

-- what the account gained
note-none : (a b : AccountState) (answer : Option FinishedState) → Notes a b answer → IsNone answer → b ≡ a
note-none a b None notes nothing = notes
note-none a b (Some f) notes nothing = absurd (false≢true (sym nothing))

note-some : (a b : AccountState) (answer : Option FinishedState) (f : FinishedState) → Notes a b answer → answer ≡ Some f → Notes a b (Some f)
note-some a b answer f notes at = subst (λ z. Notes a b z) at notes

-- what came back is of a part that was kept
back-part : (u v : LinkState FrameSend) (o : Option (AwayState FrameSend)) (p : Option ShareState) (f : FinishedState) → IsBackOf u v o p f → (s : ShareState) × (p ≡ Some s) × (f.number ≡ s.number)
back-part u v None p f back = elim back [ ]
back-part u v (Some a) None f back = elim back [ ]
back-part u v (Some a) (Some s) f back = (s, refl, back.number)

-- the intake of what came back goes on from that of its part
back-stands : (u v : LinkState FrameSend) (o : Option (AwayState FrameSend)) (p : Option ShareState) (f : FinishedState) → IsBackOf u v o p f → (deeds : ℕ → List Deed)
    → ((s : ShareState) → p ≡ Some s → StandsAfter s.intake (deeds s.number)) → StandsAfter f.intake (deeds f.number)
back-stands u v None p f back deeds part = elim back [ ]
back-stands u v (Some a) None f back deeds part = elim back [ ]
back-stands u v (Some a) (Some s) f back deeds part = subst (λ k. StandsAfter f.intake (deeds k)) (sym back.number) (back.follows.stands (deeds s.number) (part s refl))

-- what came back was opened as its part
back-opened : (u v : LinkState FrameSend) (o : Option (AwayState FrameSend)) (p : Option ShareState) (f : FinishedState) → IsBackOf u v o p f → (P : ℕ → OpenedState → Type 0)
    → ((s : ShareState) → p ≡ Some s → P s.number s.opened) → P f.number f.opened
back-opened u v None p f back P part = elim back [ ]
back-opened u v (Some a) None f back P part = elim back [ ]
back-opened u v (Some a) (Some s) f back P part = subst (λ k. P k f.opened) (sym back.number) (subst (P s.number) (sym back.opened) (part s refl))

older-gone : (x y : ChannelState) (answer : Option FinishedState) → GivesBackOlder answer x y → (p : ShareState) → y.older ≡ Some p → x.older ≡ Some p
older-gone x y None gives p is = sym (gives.none refl).0 ∙ is
older-gone x y (Some f) gives p is = absurd (none_some p (sym (gives.some refl).1 ∙ is))

newer-gone : (x y : ChannelState) (answer : Option FinishedState) → GivesBackNewer answer x y → (p : ShareState) → y.newer ≡ Some p → x.newer ≡ Some p
newer-gone x y None gives p is = sym (gives.none refl).0 ∙ is
newer-gone x y (Some f) gives p is = absurd (none_some p (sym (gives.some refl).1 ∙ is))

looks-off : (a b : Option (AwayState FrameSend)) → LooksAtNewest a b → takes_orders a ≡ false → takes_orders b ≡ false
looks-off None None looks off = refl
looks-off None (Some y) looks off = elim looks [ ]
looks-off (Some x) None looks off = elim looks [ ]
looks-off (Some x) (Some y) looks off = ap (λ (z : AwayState FrameSend). takes_orders (Some z)) looks.rest ∙ off

newer-off : (x y : ChannelState) (answer : Option FinishedState) → GivesBackNewer answer x y → takes_orders x.link.newer ≡ false → takes_orders y.link.newer ≡ false
newer-off x y None gives off = looks-off x.link.newer y.link.newer (gives.none refl).1.looked off
newer-off x y (Some f) gives off = ap takes_orders (gives.some refl).0

pub gives-older : (v w : SlaveState) (xs : List ChannelState) (account : AccountState) (c : ℕ) (answer : Option FinishedState) → w ≡ v → Notes w.account account answer → c < length w.channels
    → IsOnlyAt (GivesBackOlder answer) c w.channels xs → GivesBackBy PartsGoBy v (record w { channels = xs; account = account }) c answer
gives-older v w xs account c answer same notes below only =
    let (x, was) = some-at w.channels c below in
    let (y, is) = some-at xs c (omega (arith, below, only.as_many)) in
    let one = only.here x y was is in
    let d = w.session.profile in
    let b : SlaveState = record w { channels = xs; account = account } in
    let link : y.link.newer ≡ x.link.newer = ap (λ (l : LinkState FrameSend). l.newer) one.link in
    let changes : ChangesAt w b c x y = record { was = was; is = is; others = only.others; as_many = only.as_many; quiet = λ off. ap takes_orders link ∙ off; session = refl; plan = refl; number = refl } in
    let back = λ (f : FinishedState) (at : answer ≡ Some f). if-some (IsBackOf x.link y.link x.link.older x.older) answer f one.back at in
    let intake = λ (f : FinishedState) (at : answer ≡ Some f) (log : List Act) (stands : PartsStandAfter d w log).
    back-stands x.link y.link x.link.older x.older f (back f at) (λ m. deeds_of d m c log) (λ s there. ((stands.has.channels c x was).older s there).0.stands) in
    let opens = λ (f : FinishedState) (at : answer ≡ Some f) (log : List Act) (stands : PartsStandAfter d w log).
    back-opened x.link y.link x.link.older x.older f (back f at) (λ m o. IsOpenedAfter d (past_at d m log) c o) (stands.has.as_logged c x was).older in
    subst (λ (z : SlaveState). GivesBackBy PartsGoBy z b c answer) same
    (record {
      session = refl;
      outbox = refl;
      as_many = only.as_many;
      number = refl;
      none = λ nothing.
          took-none w b c x y (Unit {0}) changes (record {
            newer = ap (λ (o : Option ShareState). number_of o) one.newer;
            older = ap (λ (o : Option ShareState). number_of o) (one.none nothing).0;
            newer_opened = ap (λ (o : Option ShareState). opened_of o) one.newer;
            older_opened = ap (λ (o : Option ShareState). opened_of o) (one.none nothing).0;
            came = none-ends x.link y.link false x.link.older y.link.older (one.none nothing).1;
            ring = ap (λ (l : LinkState FrameSend). l.ring) one.link;
          }) refl (note-none w.account account answer notes nothing) (λ log z. tt)
          (λ n f u has. channel-without-older n f x y (older-gone x y answer one) one.newer link has);
      some = told _ answer
          (λ f at past is_past.
          let (s, there, number) = back-part x.link y.link x.link.older x.older f (back f at) in
          came-back w b c f.number x y past changes (ap (λ (l : LinkState FrameSend). l.ring) one.link) refl
          (λ log stands.
          let has = stands.has.channels c x was in
          let part = has.older s there in
          let out = stands.has.out c x was in
          let of_part : number_of x.older ≡ Some f.number = ap (λ (o : Option ShareState). number_of o) there ∙ ap Some (sym number) in (
            note-some w.account account answer f notes at (record { number = f.number; past = past; deeds = deeds_of d f.number c log }) refl (omega (arith, part.0.there, number, few-opened log, stands.has.few)) is_past (intake f at log stands) (entries_of d log) (late_in d log) stands.has.account,
            record {
              there = omega (arith, part.0.there, number);
              once = out-back f.number c log (out.older f.number of_part);
              over = λ e. absurd (omega (arith, e, part.1, number));
              opens = opening-of d log c f past stands.has.is_log (omega (arith, part.0.there, number)) (opens f at log stands) is_past;
              plans = is_past.plans;
              decided = is_past.stands.decisions;
              front = is_past.front (deeds_of d f.number c log) (intake f at log stands);
              marks = is_past.marks (deeds_of d f.number c log) (intake f at log stands);
            },
            channel-without-older (opened log) (λ m. deeds_of d m c log) x y (older-gone x y answer one) one.newer link has,
            subst (λ k. IsOut (λ q. has_part q c log && not ((nat_eq k q && nat_eq c c) || is_back q c log)) y) (sym number)
                (out-without-older (opened log) (λ m. deeds_of d m c log) x y s c (λ q. has_part q c log) (λ q. is_back q c log) there (one.some (is-some answer f at)).1 one.newer has out),
            record { newer = λ p is. (stands.has.as_logged c x was).newer p (sym one.newer ∙ is); older = λ p is. (stands.has.as_logged c x was).older p (older-gone x y answer one p is); came = subst (λ pasts. AreReturns pasts (ends_in y.link.came)) (sym (returns-here f.number c past log)) (returned x.link y.link x.link.older x.older f past (returns_at c log) (back f at) is_past (stands.has.as_logged c x was).came) },
          )));
      finished = told (IsFinishedOf w c) answer (λ f at log stands. intake f at log stands);
      opened = told (IsOpenedThere w c) answer (λ f at log stands. opens f at log stands);
    })

-- of the last measurement with a part at an event channel, which is over, no orders are taken; and if it is the newest, no list runs
over-now : (s : SlaveState) (c : ℕ) (x : ChannelState) → IsOver s c → slice_get s.channels c ≡ Some x → (log : List Act) → PartsStandAfter s.session.profile s log
    → (takes_orders x.link.newer ≡ false) × ((k : ℕ) → number_of x.newer ≡ Some k → k + 1 ≡ opened log → NoneRuns (past_of s.session.profile log))
over-now s c x over was log stands =
    let past = past_of s.session.profile log in
    elim over [
      | inl idle ↦ (stands.ended (idle past stands.has.session) c x was, λ k at e. idle past stands.has.session)
      | inr before ↦
          let kept = before.kept x was in
          let (p, there, number) = part-of x.newer before.number kept in
          let other = λ (e : before.number + 1 ≡ opened log). before.other (whole before.number (opened log) (length log) (few-opened log) stands.has.few e ∙ sym stands.has.number) in (
            is-off (takes_orders x.link.newer) (λ on. other (ap (λ k. k + 1) (sym number) ∙ (stands.has.channels c x was).newest on p there)),
            λ k at e. absurd (other (ap (λ j. j + 1) (some_same before.number k (sym kept ∙ at)) ∙ e)),
          )
    ] where
      whole : (m n k : ℕ) → n ≤ k → 32 * k ≤ MAX_TAKEN → m + 1 ≡ n → (m + 1) % 18446744073709551616 ≡ n
      whole m n k least few e = omega (arith, least, few, e)

      is-off : (b : Bool) → (b ≡ true → ⊥) → b ≡ false
      is-off true never = absurd (never refl)
      is-off false never = refl

pub gives-newer : (v w : SlaveState) (xs : List ChannelState) (account : AccountState) (c : ℕ) (answer : Option FinishedState) → w ≡ v → Notes w.account account answer → IsOver w c → c < length w.channels
    → IsOnlyAt (GivesBackNewer answer) c w.channels xs → GivesBackBy PartsGoBy v (record w { channels = xs; account = account }) c answer
gives-newer v w xs account c answer same notes over below only =
    let (x, was) = some-at w.channels c below in
    let (y, is) = some-at xs c (omega (arith, below, only.as_many)) in
    let one = only.here x y was is in
    let d = w.session.profile in
    let b : SlaveState = record w { channels = xs; account = account } in
    let changes : ChangesAt w b c x y = record { was = was; is = is; others = only.others; as_many = only.as_many; quiet = λ off. newer-off x y answer one off; session = refl; plan = refl; number = refl } in
    let back = λ (f : FinishedState) (at : answer ≡ Some f). if-some (IsBackOf x.link y.link x.link.newer x.newer) answer f one.back at in
    let intake = λ (f : FinishedState) (at : answer ≡ Some f) (log : List Act) (stands : PartsStandAfter d w log).
    back-stands x.link y.link x.link.newer x.newer f (back f at) (λ m. deeds_of d m c log) (λ s there. ((stands.has.channels c x was).newer s there).stands) in
    let opens = λ (f : FinishedState) (at : answer ≡ Some f) (log : List Act) (stands : PartsStandAfter d w log).
    back-opened x.link y.link x.link.newer x.newer f (back f at) (λ m o. IsOpenedAfter d (past_at d m log) c o) (stands.has.as_logged c x was).newer in
    let now = over-now w c x over was in
    let ended = λ (log : List Act) (stands : PartsStandAfter d w log). (now log stands).0 in
    subst (λ (z : SlaveState). GivesBackBy PartsGoBy z b c answer) same
    (record {
      session = refl;
      outbox = refl;
      as_many = only.as_many;
      number = refl;
      none = λ nothing.
          took-none w b c x y (takes_orders x.link.newer ≡ false) changes (record {
            newer = ap (λ (o : Option ShareState). number_of o) (one.none nothing).0;
            older = ap (λ (o : Option ShareState). number_of o) one.older;
            newer_opened = ap (λ (o : Option ShareState). opened_of o) (one.none nothing).0;
            older_opened = ap (λ (o : Option ShareState). opened_of o) one.older;
            came = none-ends x.link y.link (is_away_out x.link.older) x.link.newer y.link.newer (one.none nothing).1;
            ring = ap (λ (l : LinkState FrameSend). l.ring) one.link;
          }) refl (note-none w.account account answer notes nothing) ended
          (λ n f off has. channel-without-newer n f x y off (newer-off x y answer one off) (newer-gone x y answer one) one.older has);
      some = told _ answer
          (λ f at past is_past.
          let (s, there, number) = back-part x.link y.link x.link.newer x.newer f (back f at) in
          came-back w b c f.number x y past changes (ap (λ (l : LinkState FrameSend). l.ring) one.link) refl
          (λ log stands.
          let has = stands.has.channels c x was in
          let part = has.newer s there in
          let out = stands.has.out c x was in
          let off = ended log stands in
          let of_part : number_of x.newer ≡ Some f.number = ap (λ (o : Option ShareState). number_of o) there ∙ ap Some (sym number) in (
            note-some w.account account answer f notes at (record { number = f.number; past = past; deeds = deeds_of d f.number c log }) refl (omega (arith, part.there, number, few-opened log, stands.has.few)) is_past (intake f at log stands) (entries_of d log) (late_in d log) stands.has.account,
            record {
              there = omega (arith, part.there, number);
              once = out-back f.number c log (out.newer f.number of_part);
              over = λ e. (now log stands).1 f.number of_part e;
              opens = opening-of d log c f past stands.has.is_log (omega (arith, part.there, number)) (opens f at log stands) is_past;
              plans = is_past.plans;
              decided = is_past.stands.decisions;
              front = is_past.front (deeds_of d f.number c log) (intake f at log stands);
              marks = is_past.marks (deeds_of d f.number c log) (intake f at log stands);
            },
            channel-without-newer (opened log) (λ m. deeds_of d m c log) x y off (newer-off x y answer one off) (newer-gone x y answer one) one.older has,
            subst (λ k. IsOut (λ q. has_part q c log && not ((nat_eq k q && nat_eq c c) || is_back q c log)) y) (sym number)
                (out-without-newer (opened log) (λ m. deeds_of d m c log) x y s c (λ q. has_part q c log) (λ q. is_back q c log) there (one.some (is-some answer f at)).1 one.older has out),
            record { newer = λ p is. (stands.has.as_logged c x was).newer p (newer-gone x y answer one p is); older = λ p is. (stands.has.as_logged c x was).older p (sym one.older ∙ is); came = subst (λ pasts. AreReturns pasts (ends_in y.link.came)) (sym (returns-here f.number c past log)) (returned x.link y.link x.link.newer x.newer f past (returns_at c log) (back f at) is_past (stands.has.as_logged c x was).came) },
          )));
      finished = told (IsFinishedOf w c) answer (λ f at log stands. intake f at log stands);
      opened = told (IsOpenedThere w c) answer (λ f at log stands. opens f at log stands);
    })

-- what came back and was counted
pub gives-counted : (a b : SlaveState) (c : ℕ) (f : FinishedState) → a.acts < MOST_ACTS + PER_PACKET → b.acts ≡ a.acts
    → GivesBackBy PartsGoBy a b c (Some f) → GivesBack a (counting b PER_ACT) c (Some f)
gives-counted a b c f fits same gives = record {
  session = gives.session;
  outbox = gives.outbox;
  as_many = gives.as_many;
  number = gives.number;
  none = λ is. counted a (counting b PER_ACT) [] fits (omega arith) (omega (arith, same)) (recounted a b [] PER_ACT (gives.none is));
  some = λ past is.
      counted a (counting b PER_ACT) (CameBack f.number c past ∷ []) fits (omega arith) (omega (arith, same)) (recounted a b (CameBack f.number c past ∷ []) PER_ACT (gives.some past is));
  finished = gives.finished;
  opened = gives.opened;
}

-- nothing came back, and nothing was counted
pub gives-none : (a b : SlaveState) (c : ℕ) → a.acts < MOST_ACTS + PER_PACKET → b.acts ≡ a.acts
    → GivesBackBy PartsGoBy a b c None → GivesBack a b c None
gives-none a b c fits same gives = record {
  session = gives.session;
  outbox = gives.outbox;
  as_many = gives.as_many;
  number = gives.number;
  none = λ is. counted a b [] fits (omega arith) (omega (arith, same)) (gives.none is);
  some = tt;
  finished = tt;
  opened = tt;
}

-- nothing was looked at
pub gives-nothing : (a : SlaveState) (c : ℕ) → GivesBack a a c None
gives-nothing a c = record { session = refl; outbox = refl; as_many = refl; number = refl; none = λ is. (refl, λ log stands. stands); some = tt; finished = tt; opened = tt }
