-- What a slave stands after once a measurement is opened, and once lists are started.
use Rattle.std.proofs.Common.{◌≡◌, ◌≢◌, ℕ, ◌+◌, ◌*◌, ◌%◌, ◌<◌, ◌≤◌, Bool, true, false, ◌&&◌, not, nat_eq, if◌then◌else◌, List, [], ◌∷◌, ◌++◌, length, get_or, slice_get, refl, sym, ap, ◌∙◌, subst, arith, ◌⊎◌, inl, inr, zero, suc}
use Rattle.std.specs.Prelude.{Option, Some, None}
use Rattle.std.proofs.lemmas.Bool.{false≢true}
use Rattle.std.proofs.lemmas.Bool.Decides.{eqb_tells, leb_tells}
use Rattle.std.proofs.lemmas.List.Sums.{count_by-le-length}
use Rattle.std.proofs.lemmas.Option.{slice_get-get_or, slice_get_within, same_Some}
use Rattle.xcp_base.specs.Lists.{has_list}
use Rattle.xcp_base.specs.declared.limits.TheConstants.{MAX_LISTS, MAX_TAKEN}
use Rattle.frame_ring.specs.declared.frame_send.FrameSend.{FrameSend}
use Rattle.daq_store.proofs.StandingLemmas.{active_stands}
use Rattle.daq_store.specs.Standing.{shows_running}
use Rattle.session.proofs.ListSetLemmas.{empty_has_none}
use Rattle.session.specs.Past.{Past}
use Rattle.session.specs.Profiles.{lists_of}
use Rattle.session.specs.Standing.{SessionStandsAfter, SessionState}
use Rattle.session.specs.Starts.{is_on}
use Rattle.session.specs.declared.profile.Profile.{Profile}
use Rattle.slave_outbox.specs.Deeds.{Deed}
use Rattle.slave_outbox.specs.Deeds.{runs as runs_there}
use Rattle.slave_outbox.specs.Outboxes.{StandsAfter as OutboxStandsAfter}
use Rattle.tasks.specs.Links.{AwayState, CanStart, LinkState, takes_orders}
use Rattle.slave_channels.specs.Accounts.{AccountStandsAfter}
use Rattle.slave_channels.specs.Channels.{ChannelState, Opens, ShareState}
use Rattle.slave_channels.specs.Ordering.{starts_noted, starts_sent}
use Rattle.slave_channels.specs.Calls.{CanStartAll, Ends, HasSome, Looks, OpensIfAny, StartsAt}
use Rattle.slave_channels.specs.Each.{IsEach}
use Rattle.slave.specs.Hearing.{KeepsLines}
use Rattle.slave.proofs.PageLemmas.{page-by}
use Rattle.slave.proofs.KeepingLemmas.{lines-each, lines-same}
use Rattle.slave.specs.Inner.{AreSets, HasParts, LooksAtAll, OpensAll, OpensBeside, OpensInVain, SlaveStarted, StartsLists, started}
use Rattle.slave.specs.Pages.{page_after, page_at}
use Rattle.slave.specs.Log.{Act, Opened, deeds_of, entries_of, has_part, is_opening, is_out, late_in, opened, past_of, sent_laid, waits}
use Rattle.slave.specs.Openings.{IsOpenedAfter, capacities_of, past_at}
use Rattle.slave.specs.Standing.{IsAsLogged, logged, ChannelHas, HasEnded, IsOut, NoneRuns, SlaveHas, PartsStandAfter, SlaveState, number_of, AreParts, HasReady}
use Rattle.slave.proofs.ChannelLemmas.{channel-looks, channel-ordered, channel-same, goes-none, takes-looked}
use Rattle.slave.proofs.DeedLemmas.{deeds-few, deeds-none, opened-more, out-newest, out-no-part, out-other, out-part, part-none, starts-few}
use Rattle.slave.proofs.PlanLemmas.{plan-by}
use Rattle.slave.proofs.OpenedLemmas.{past-newest, past-other}
use Rattle.slave.proofs.OpeningLemmas.{channel-in-vain, channel-opens-if, opened-if, opened-in-vain}
use Rattle.slave.proofs.OutLemmas.{Chosen, HasNew, choose, keeps-looks, keeps-orders, new-or-same, opened-each, opened-kept, out-each, out-kept, out-new, out-same, some-at, vain-or-same, was-there, new-number}
use Rattle.slave.proofs.OrderLemmas.{starts-none, starts-same, starts-set}

pub there-is : (xs : List ℕ) (n c : ℕ) → length xs ≡ n → c < n → slice_get xs c ≡ Some (get_or xs c 0)
there-is xs n c as_many below = slice_get-get_or xs c 0 (omega (arith, as_many, below))

pub has-some : (set l : ℕ) → has_list set l ≡ true → set ≢ 0
has-some set l is = λ none. false≢true (sym (empty_has_none l) ∙ ap (λ s. has_list s l) (sym none) ∙ is)

pub few-opened : (log : List Act) → opened log ≤ length log
few-opened log = count_by-le-length is_opening log

one-more : (n k : ℕ) → n ≤ k → 32 * (1 + k) ≤ MAX_TAKEN → (n + 1) % 18446744073709551616 ≡ n + 1
one-more n k least few = omega (arith, least, few)

none-shown : (s : SessionState) (past : Past) → SessionStandsAfter s past → NoneRuns past → (l : ℕ) → l < MAX_LISTS → shows_running s.store l ≡ false
none-shown s past stands none l below = sym (active_stands s.store past.calls l stands.store) ∙ none l below

-- what a part is opened with
new-opened : (d : Profile) (a : SlaveState) (log : List Act) (at : ℕ → Bool) (caps : List ℕ) (c cap : ℕ) → SlaveHas d a log → a.session.store.profile ≡ lists_of a.session.profile → caps ≡ capacities_of a.session.profile
    → slice_get caps c ≡ Some cap → IsOpenedAfter d (past_at d (opened log) (Opened at ∷ log)) c (record { store = a.session.store; channel = c; capacity = cap })
new-opened d a log at caps c cap has lists are there =
    subst (λ p. IsOpenedAfter d p c (record { store = a.session.store; channel = c; capacity = cap })) (sym (past-newest d at log))
    (record {
      store = has.session.store;
      profile = lists ∙ ap lists_of has.profile;
      channel = refl;
      capacity = ap (λ (p : Profile). slice_get (capacities_of p) c) (sym has.profile) ∙ ap (λ xs. slice_get xs c) (sym are) ∙ there;
    })

opened-rest : (d : Profile) (a b : SlaveState) (log : List Act) (at : ℕ → Bool) → 32 * (1 + length log) ≤ MAX_TAKEN → NoneRuns (past_of d log) → SlaveHas d a log → OpensBeside a b → length b.channels ≡ length a.channels
    → ((c : ℕ) (ch : ChannelState) → slice_get b.channels c ≡ Some ch → ChannelHas (opened log + 1) (λ m. deeds_of d m c log) ch)
    → ((c : ℕ) (ch : ChannelState) → slice_get b.channels c ≡ Some ch → IsOut (λ m. is_out m c (Opened at ∷ log)) ch)
    → ((c : ℕ) (ch : ChannelState) → slice_get b.channels c ≡ Some ch → IsAsLogged d (logged d (Opened at ∷ log)) c ch)
    → SlaveHas d b (Opened at ∷ log)
opened-rest d a b log at few none has rest as_many channels out as_logged = record {
  few = omega (arith, few);
  is_log = (none, has.is_log);
  profile = ap (λ (s : SessionState). s.profile) rest.session ∙ has.profile;
  session = subst (λ s. SessionStandsAfter s (past_of d log)) (sym rest.session) has.session;
  outbox =
      subst (λ o. OutboxStandsAfter o (page_after d (past_of d log)) (sent_laid d log) (waits d log)) (sym rest.outbox)
      (record { gone = has.outbox.gone; counter = has.outbox.counter; waiting = has.outbox.waiting; page_is = page-by d a.session (past_of d log) (rest.lists ∙ ap lists_of has.profile) has.session });
  channels = λ c ch there. subst (λ n. ChannelHas n (λ m. deeds_of d m c log) ch) (omega (arith, opened-more at log)) (channels c ch there);
  out = out;
  as_logged = as_logged;
  many = as_many ∙ has.many;
  plan = rest.plan ∙ plan-by d a.session (past_of d log) (rest.lists ∙ ap lists_of has.profile) has.session;
  account = subst (λ x. AccountStandsAfter x (entries_of d log) (late_in d log)) (sym rest.account) has.account;
  number = rest.number ∙ ap (λ n. (n + 1) % 18446744073709551616) has.number ∙ one-more (opened log) (length log) (few-opened log) few ∙ omega (arith, opened-more at log);
}

-- the event channels with a part of a measurement that is opened, and the others
abbrev pub Parts : SlaveState → SlaveState → Type 0
Parts a b = Chosen b.channels (λ c ch. HasNew a.session.store a.number c (get_or a.channels c ch) ch) (λ c ch. ch ≡ get_or a.channels c ch)

pub parts-all : (a b : SlaveState) → OpensAll a b → Parts a b
parts-all a b opens =
    choose b.channels (λ c ch. HasNew a.session.store a.number c (get_or a.channels c ch) ch) (λ c ch. ch ≡ get_or a.channels c ch)
    (λ c ch at.
    let old = get_or a.channels c ch in
    let was = was-there a.channels b.channels c ch opens.channels.as_many at in
    let below = slice_get_within a.channels c old was in
    let cap_c = get_or opens.caps c 0 in
    let set_c = get_or opens.sets c 0 in
    new-or-same a.session.store a.number c cap_c set_c old ch
    (opens.channels.each c old ch was at cap_c set_c (there-is opens.caps (length a.channels) c opens.as_many_caps below) (there-is opens.sets (length a.channels) c opens.as_many_sets below)))

-- each event channel is on its line
pub lines-new : (a b : SlaveState) → length b.channels ≡ length a.channels → Parts a b → KeepsLines a b
lines-new a b many parts =
    lines-same a.channels b.channels many
    (λ c x y at now.
    let old = get_or a.channels c y in
    let was = was-there a.channels b.channels c y many now in
    let back : old.link.ring ≡ x.link.ring = ap (λ (ch : ChannelState). ch.link.ring) (same_Some old x (sym was ∙ at)) in
    elim (parts.each c y now) [
      | inl w ↦ w.1.keeps.ring ∙ ap (λ (l : LinkState FrameSend). l.ring) w.1.opens.handed.rest ∙ back
      | inr w ↦ ap (λ (ch : ChannelState). ch.link.ring) w.1 ∙ back
    ])

-- there is one at each event channel of which a list is ready
parts-there : (d : Profile) (a b : SlaveState) (log : List Act) (opens : OpensAll a b) → SlaveHas d a log
    → (c l : ℕ) → c < length d.events.items → l < MAX_LISTS → is_on d (past_of d log) c l ≡ true → (parts-all a b opens).at c ≡ true
parts-there d a b log opens has c l within below on =
    let here : c < length a.channels = omega (arith, within, has.many) in
    let (x, was) = some-at a.channels c here in
    let (y, is) = some-at b.channels c (omega (arith, here, opens.channels.as_many)) in
    let set = get_or opens.sets c 0 in
    let cap = get_or opens.caps c 0 in
    let there = there-is opens.sets (length a.channels) c opens.as_many_sets here in
    let has_l : has_list set l ≡ true =
    (opens.are c set there).is (past_of d log) has.session l below ∙ ap (λ p. has_list opens.all l && is_on p (past_of d log) c l) has.profile ∙ both (has_list opens.all l) (is_on d (past_of d log) c l) (opens.are_all l below) on in
    let new = (opens.channels.each c x y was is cap set (there-is opens.caps (length a.channels) c opens.as_many_caps here) there).1 (has-some set l has_l) in
    elim ((parts-all a b opens).each c y is) [
      | inl w ↦ w.0
      | inr w ↦
          let same : y ≡ x = w.1 ∙ read-there a.channels c x y was in
          let kept : x.newer ≡ Some new.share = ap (λ (z : ChannelState). z.newer) (sym same) ∙ new.newer in
          absurd (omega (arith, ((has.channels c x was).newer new.share kept).there, new.number_is, has.number))
    ] where
      both : (x y : Bool) → x ≡ true → y ≡ true → (x && y) ≡ true
      both true true a b = refl
      both true false a b = b
      both false y a b = a

      read-there : {X : Type 0} (xs : List X) (c : ℕ) (x y : X) → slice_get xs c ≡ Some x → get_or xs c y ≡ x
      read-there [] c x y at = absurd cc
      read-there (z ∷ zs) zero x y at = cc
      read-there (z ∷ zs) (suc c) x y at = read-there zs c x y at

-- and at no other
parts-ready : (d : Profile) (a b : SlaveState) (log : List Act) (opens : OpensAll a b) → SlaveHas d a log
    → (c : ℕ) → (parts-all a b opens).at c ≡ true → HasReady d (past_of d log) c
parts-ready d a b log opens has c at =
    let parts = parts-all a b opens in
    let past = past_of d log in
    let there : c < length b.channels =
    elim (leb_tells (length b.channels) c) [
      | inl w ↦ absurd (false≢true (sym (parts.beyond c w.1) ∙ at))
      | inr w ↦ omega (arith, w.1)
    ]
    in
    let here : c < length a.channels = omega (arith, there, opens.channels.as_many) in
    let (x, was) = some-at a.channels c here in
    let (y, is) = some-at b.channels c there in
    let set = get_or opens.sets c 0 in
    let set_is = there-is opens.sets (length a.channels) c opens.as_many_sets here in
    let one = opens.channels.each c x y was is (get_or opens.caps c 0) set (there-is opens.caps (length a.channels) c opens.as_many_caps here) set_is in
    let some : HasSome set =
    elim (eqb_tells set 0) [
      | inl w ↦
          elim (parts.each c y is) [
            | inl v ↦
                let number : number_of x.newer ≡ Some a.number
                = ap (λ (z : ChannelState). number_of z.newer) (sym (one.0 w.1)) ∙ new-number a.session.store a.number c (get_or a.channels c y) y v.1 in
                let part = out-part a.number c log ((has.out c x was).newer a.number number) in
                absurd (false≢true (sym (part-none a.number c log (omega (arith, has.number))) ∙ part))
            | inr v ↦ absurd (false≢true (sym v.0 ∙ at))
          ]
      | inr w ↦ one.2 w.1
    ]
    in
    let on : is_on a.session.profile past c some.0 ≡ true =
    right (has_list opens.all some.0) (is_on a.session.profile past c some.0) (sym ((opens.are c set set_is).is past has.session some.0 some.1) ∙ some.2) in
    record {
      channel = omega (arith, here, has.many);
      list = some.0;
      below = some.1;
      ready = ap (λ p. is_on p past c some.0) (sym has.profile) ∙ on;
    } where
      right : (x y : Bool) → (x && y) ≡ true → y ≡ true
      right true y is = is
      right false y is = absurd (false≢true is)

pub are-parts : (d : Profile) (a b : SlaveState) (log : List Act) (opens : OpensAll a b) → SlaveHas d a log
    → AreParts d (past_of d log) (parts-all a b opens).at
are-parts d a b log opens has c = (λ at. parts-ready d a b log opens has c at, λ ready. parts-there d a b log opens has c ready.list ready.channel ready.below ready.ready)

pub parts-vain : (a b : SlaveState) → OpensInVain a b → Parts a b
parts-vain a b opens =
    choose b.channels (λ c ch. HasNew a.session.store a.number c (get_or a.channels c ch) ch) (λ c ch. ch ≡ get_or a.channels c ch)
    (λ c ch at.
    let old = get_or a.channels c ch in
    let was = was-there a.channels b.channels c ch opens.channels.as_many at in
    let below = slice_get_within a.channels c old was in
    let cap_c = get_or opens.caps c 0 in
    let set_c = get_or opens.sets c 0 in
    vain-or-same a.session.store a.number c cap_c set_c old ch
    (opens.channels.each c old ch was at cap_c set_c (there-is opens.caps (length a.channels) c opens.as_many_caps below) (there-is opens.sets (length a.channels) c opens.as_many_sets below)))

-- what is out behind the opening
out-opened : (d : Profile) (a b : SlaveState) (log : List Act) (parts : Parts a b) → SlaveHas d a log → length b.channels ≡ length a.channels
    → (c : ℕ) (ch : ChannelState) → slice_get b.channels c ≡ Some ch → IsOut (λ m. is_out m c (Opened parts.at ∷ log)) ch
out-opened d a b log parts has as_many c ch at =
    let old = get_or a.channels c ch in
    let out = has.out c old (was-there a.channels b.channels c ch as_many at) in
    let before = λ (m : ℕ). is_out m c log in
    let now = λ (m : ℕ). is_out m c (Opened parts.at ∷ log) in
    elim (parts.each c ch at) [
      | inl w ↦
          out-new before now a.session.store (opened log) c old ch (subst (λ n. HasNew a.session.store n c old ch) has.number w.1)
          (out-newest d c parts.at log has.is_log ∙ w.0) (λ m other. out-other m c parts.at log other) out
      | inr w ↦ out-same before now ch (λ m. out-no-part d m c parts.at log has.is_log w.0) (subst (λ (z : ChannelState). IsOut before z) (sym w.1) out)
    ]

-- a measurement is opened
pub opens-all : (d : Profile) (a b : SlaveState) (log : List Act) → 32 * (1 + length log) ≤ MAX_TAKEN → NoneRuns (past_of d log) → PartsStandAfter d a log → (opens : OpensAll a b)
    → SlaveHas d b (Opened (parts-all a b opens).at ∷ log)
opens-all d a b log few none stands opens =
    opened-rest d a b log (parts-all a b opens).at few none stands.has opens.rest opens.channels.as_many
    (λ c ch at.
    let old = get_or a.channels c ch in
    let was = was-there a.channels b.channels c ch opens.channels.as_many at in
    let below = slice_get_within a.channels c old was in
    let one = opens.channels.each c old ch was at (get_or opens.caps c 0) (get_or opens.sets c 0) (there-is opens.caps (length a.channels) c opens.as_many_caps below) (there-is opens.sets (length a.channels) c opens.as_many_sets below) in
    let here = subst (λ n. OpensIfAny a.session.store n c (get_or opens.caps c 0) (get_or opens.sets c 0) old ch) stands.has.number one in
    channel-opens-if (opened log) (λ m. deeds_of d m c log) old ch a.session.store c (get_or opens.caps c 0) (get_or opens.sets c 0) here
    (deeds-none d (opened log) c log stands.has.is_log (omega arith)) (stands.ended none c old was) (none-shown a.session (past_of d log) stands.has.session none) (stands.has.channels c old was))
    (out-opened d a b log (parts-all a b opens) stands.has opens.channels.as_many)
    (λ c ch at.
    let old = get_or a.channels c ch in
    let was = was-there a.channels b.channels c ch opens.channels.as_many at in
    let below = slice_get_within a.channels c old was in
    let cap = there-is opens.caps (length a.channels) c opens.as_many_caps below in
    let one = opens.channels.each c old ch was at (get_or opens.caps c 0) (get_or opens.sets c 0) cap (there-is opens.sets (length a.channels) c opens.as_many_sets below) in
    let here = subst (λ n. OpensIfAny a.session.store n c (get_or opens.caps c 0) (get_or opens.sets c 0) old ch) stands.has.number one in
    opened-if d (logged d log) (logged d (Opened (parts-all a b opens).at ∷ log)) (opened log) (λ m. deeds_of d m c log) old ch a.session.store c (get_or opens.caps c 0) (get_or opens.sets c 0) here
    (λ m less. past-other d m (parts-all a b opens).at log (λ e. omega (arith, e, less))) refl (new-opened d a log (parts-all a b opens).at opens.caps c (get_or opens.caps c 0) stands.has opens.rest.lists opens.caps_are cap)
    (stands.has.channels c old was) (stands.has.as_logged c old was))

-- a measurement is opened in vain: it ends at once
pub opens-in-vain : (d : Profile) (a b : SlaveState) (log : List Act) → 32 * (1 + length log) ≤ MAX_TAKEN → NoneRuns (past_of d log) → PartsStandAfter d a log → (opens : OpensInVain a b)
    → PartsStandAfter d b (Opened (parts-vain a b opens).at ∷ log)
opens-in-vain d a b log few none stands opens =
    let both : (c : ℕ) (ch : ChannelState) → slice_get b.channels c ≡ Some ch
    → ChannelHas (opened log + 1) (λ m. deeds_of d m c log) ch × (takes_orders ch.link.newer ≡ false) =
    λ c ch at.
    let old = get_or a.channels c ch in
    let was = was-there a.channels b.channels c ch opens.channels.as_many at in
    let below = slice_get_within a.channels c old was in
    let cap_c = get_or opens.caps c 0 in
    let set_c = get_or opens.sets c 0 in
    let one = opens.channels.each c old ch was at cap_c set_c (there-is opens.caps (length a.channels) c opens.as_many_caps below) (there-is opens.sets (length a.channels) c opens.as_many_sets below) in
    let here = subst (λ n. (ch ≡ old) ⊎ ((set_c ≢ 0) × ((m : ChannelState) × Opens old m a.session.store c cap_c n × Ends m ch))) stands.has.number one in
    channel-in-vain (opened log) (λ m. deeds_of d m c log) old ch a.session.store c cap_c set_c here
    (deeds-none d (opened log) c log stands.has.is_log (omega arith)) (stands.ended none c old was) (none-shown a.session (past_of d log) stands.has.session none) (stands.has.channels c old was)
    in
    record {
      has =
          opened-rest d a b log (parts-vain a b opens).at few none stands.has opens.rest opens.channels.as_many (λ c ch at. (both c ch at).0)
          (out-opened d a b log (parts-vain a b opens) stands.has opens.channels.as_many)
          (λ c ch at.
          let old = get_or a.channels c ch in
          let was = was-there a.channels b.channels c ch opens.channels.as_many at in
          let below = slice_get_within a.channels c old was in
          let cap_c = get_or opens.caps c 0 in
          let set_c = get_or opens.sets c 0 in
          let cap = there-is opens.caps (length a.channels) c opens.as_many_caps below in
          let one = opens.channels.each c old ch was at cap_c set_c cap (there-is opens.sets (length a.channels) c opens.as_many_sets below) in
          let here = subst (λ n. (ch ≡ old) ⊎ ((set_c ≢ 0) × ((m : ChannelState) × Opens old m a.session.store c cap_c n × Ends m ch))) stands.has.number one in
          opened-in-vain d (logged d log) (logged d (Opened (parts-vain a b opens).at ∷ log)) (opened log) (λ m. deeds_of d m c log) old ch a.session.store c cap_c set_c here
          (λ m less. past-other d m (parts-vain a b opens).at log (λ e. omega (arith, e, less))) refl (new-opened d a log (parts-vain a b opens).at opens.caps c cap_c stands.has opens.rest.lists opens.caps_are cap)
          (stands.has.channels c old was) (stands.has.as_logged c old was));
      ended = λ quiet c ch at. (both c ch at).1;
    }

-- orders are looked at
pub looks-at-all : (d : Profile) (a b : SlaveState) (log : List Act) → LooksAtAll a b → SlaveHas d a log → SlaveHas d b log
looks-at-all d a b log looks has =
    let session : b.session ≡ a.session = ap (λ (s : SlaveState). s.session) looks.rest in
    let outbox : b.outbox ≡ a.outbox = ap (λ (s : SlaveState). s.outbox) looks.rest in
    record {
      few = has.few;
      is_log = has.is_log;
      profile = ap (λ (s : SessionState). s.profile) session ∙ has.profile;
      session = subst (λ s. SessionStandsAfter s (past_of d log)) (sym session) has.session;
      outbox = subst (λ o. OutboxStandsAfter o (page_at d log) (sent_laid d log) (waits d log)) (sym outbox) has.outbox;
      channels = λ c ch at.
          let old = get_or a.channels c ch in
          let was = was-there a.channels b.channels c ch looks.channels.as_many at in
          channel-looks (opened log) (λ m. deeds_of d m c log) old ch (looks.channels.each c old ch was at) (has.channels c old was);
      out = out-each (λ c. Looks) a.channels b.channels (λ c m. is_out m c log) looks.channels (λ c x y l. keeps-looks x y l) has.out;
      as_logged = opened-each (λ c. Looks) a.channels b.channels d (logged d log) looks.channels (λ c x y l. keeps-looks x y l) has.as_logged;
      many = looks.channels.as_many ∙ has.many;
      plan = ap (λ (s : SlaveState). s.plan) looks.rest ∙ has.plan;
      account = subst (λ x. AccountStandsAfter x (entries_of d log) (late_in d log)) (sym (ap (λ (s : SlaveState). s.account) looks.rest)) has.account;
      number = ap (λ (s : SlaveState). s.number) looks.rest ∙ has.number;
    }

pub lines-looked : (a b : SlaveState) → LooksAtAll a b → KeepsLines a b
lines-looked a b looks = lines-each (λ c. Looks) a.channels b.channels looks.channels (λ c x y l. (keeps-looks x y l).ring)

pub lines-started : (a b : SlaveState) (lists : ℕ) → StartsLists a b lists → KeepsLines a b
lines-started a b lists s =
    lines-same s.looked.channels b.channels s.starts.as_many
    (λ c x y at now.
    let set = get_or s.sets c 0 in
    let there = there-is s.sets (length s.looked.channels) c s.as_many (slice_get_within s.looked.channels c x at) in
    (keeps-orders x y _ _ (s.starts.each c x y at now set there)).ring)
    ∙ lines-looked a s.looked s.looks

pub looks-ended : (past : Past) (a b : SlaveState) → LooksAtAll a b → HasEnded a past → HasEnded b past
looks-ended past a b looks ended = λ none c ch at.
    let old = get_or a.channels c ch in
    let was = was-there a.channels b.channels c ch looks.channels.as_many at in
    takes-looked old ch (looks.channels.each c old ch was at) ∙ ended none c old was

-- a channel whose starts were checked takes orders, if there are some
can-takes : (a : Option (AwayState FrameSend)) (p : ℕ → Bool) → CanStart a p → takes_orders a ≡ true
can-takes None p can = elim can [ ]
can-takes (Some x) p can = ap not can.takes_orders

-- lists are started whose starts were checked
pub starts-all : (d : Profile) (a b : SlaveState) (log : List Act) (lists : ℕ) (sets : List ℕ) → 32 * (1 + length log) ≤ MAX_TAKEN
    → AreSets a.session lists sets → length sets ≡ length a.channels → CanStartAll sets a.channels
    → IsEach (StartsAt sets) a.channels b.channels → b ≡ record a { channels = b.channels }
    → SlaveHas d a log → SlaveStarted d b log lists
starts-all d a b log lists sets few are as_many can starts rest has =
    let session : b.session ≡ a.session = ap (λ (s : SlaveState). s.session) rest in
    let outbox : b.outbox ≡ a.outbox = ap (λ (s : SlaveState). s.outbox) rest in
    record {
      few = has.few;
      is_log = has.is_log;
      profile = ap (λ (s : SessionState). s.profile) session ∙ has.profile;
      session = subst (λ s. SessionStandsAfter s (past_of d log)) (sym session) has.session;
      outbox = subst (λ o. OutboxStandsAfter o (page_at d log) (sent_laid d log) (waits d log)) (sym outbox) has.outbox;
      channels = λ c ch at.
          let old = get_or a.channels c ch in
          let was = was-there a.channels b.channels c ch starts.as_many at in
          let set = get_or sets c 0 in
          let there = there-is sets (length a.channels) c as_many (slice_get_within a.channels c old was) in
          let wanted = λ (l : ℕ). has_list lists l && is_on d (past_of d log) c l in
          let same : (l : ℕ) → l < MAX_LISTS → has_list set l ≡ wanted l =
          λ l below. (are c set there).is (past_of d log) has.session l below ∙ ap (λ p. has_list lists l && is_on p (past_of d log) c l) has.profile in
          let takes : (l : ℕ) → has_list set l ≡ true → takes_orders old.link.newer ≡ true =
          λ l is. can-takes old.link.newer (has_list set) (can c set old there was (has-some set l is)) in
          let ds = starts_noted (has_list set) MAX_LISTS in
          channel-same (opened log) _ (started d log lists c)
          (λ m. ap (λ xs. if nat_eq (m + 1) (opened log) then xs ++ deeds_of d m c log else deeds_of d m c log) (starts-same MAX_LISTS (has_list set) wanted same)) ch
          (channel-ordered (opened log) (λ m. deeds_of d m c log) old ch (starts_sent (has_list set) MAX_LISTS) ds (has_list set) true (starts-set (has_list set))
          (λ off. starts-none MAX_LISTS (has_list set) (λ l below. is-false (has_list set l) (λ is. false≢true (sym off ∙ takes l is))))
          (λ l below is. inl (takes l is))
          (λ m. omega (arith, deeds-few d m c log, starts-few (has_list set) MAX_LISTS, few))
          (starts.each c old ch was at set there) (has.channels c old was));
      out = λ c ch at.
          let old = get_or a.channels c ch in
          let was = was-there a.channels b.channels c ch starts.as_many at in
          let set = get_or sets c 0 in
          let there = there-is sets (length a.channels) c as_many (slice_get_within a.channels c old was) in
          out-kept (λ m. is_out m c log) old ch (keeps-orders old ch _ _ (starts.each c old ch was at set there)) (has.out c old was);
      as_logged = λ c ch at.
          let old = get_or a.channels c ch in
          let was = was-there a.channels b.channels c ch starts.as_many at in
          let set = get_or sets c 0 in
          let there = there-is sets (length a.channels) c as_many (slice_get_within a.channels c old was) in
          opened-kept d (logged d log) c old ch (keeps-orders old ch _ _ (starts.each c old ch was at set there)) (has.as_logged c old was);
      many = starts.as_many ∙ has.many;
      plan = ap (λ (s : SlaveState). s.plan) rest ∙ has.plan;
      account = subst (λ x. AccountStandsAfter x (entries_of d log) (late_in d log)) (sym (ap (λ (s : SlaveState). s.account) rest)) has.account;
      number = ap (λ (s : SlaveState). s.number) rest ∙ has.number;
    } where
      is-false : (b : Bool) → (b ≡ true → ⊥) → b ≡ false
      is-false true never = absurd (never refl)
      is-false false never = refl

-- at an event channel of a list that is started, the newest measurement has a part
pub starts-parts : (d : Profile) (a : SlaveState) (xs : List ChannelState) (log : List Act) (lists : ℕ) (sets : List ℕ)
    → AreSets a.session lists sets → length sets ≡ length a.channels → CanStartAll sets a.channels → IsEach (StartsAt sets) a.channels xs
    → SlaveHas d a log → HasParts d log lists
starts-parts d a xs log lists sets are as_many can starts has c l within below one on =
    let here : c < length a.channels = omega (arith, within, has.many) in
    let (x, was) = some-at a.channels c here in
    let (y, is) = some-at xs c (omega (arith, here, starts.as_many)) in
    let set = get_or sets c 0 in
    let there = there-is sets (length a.channels) c as_many here in
    let has_l : has_list set l ≡ true =
    (are c set there).is (past_of d log) has.session l below ∙ ap (λ p. has_list lists l && is_on p (past_of d log) c l) has.profile ∙ both (has_list lists l) (is_on d (past_of d log) c l) one on in
    let takes = can-takes x.link.newer (has_list set) (can c set x there was (has-some set l has_l)) in
    let orders = starts.each c x y was is set there in
    let (p, newest) = some-part x.newer (λ none. some-noted set l below has_l (goes-none x.newer y.newer _ none orders.newer)) in
    let number : p.number + 1 ≡ opened log = (has.channels c x was).newest takes p newest in
    let kept = (has.out c x was).newer p.number (ap (λ (o : Option ShareState). number_of o) newest) in
    ap (λ m. has_part m c log) (omega (arith, number)) ∙ out-part p.number c log kept where
      both : (x y : Bool) → x ≡ true → y ≡ true → (x && y) ≡ true
      both true true a b = refl
      both true false a b = b
      both false y a b = a

      some-part : (o : Option ShareState) → (o ≡ None → ⊥) → (p : ShareState) × (o ≡ Some p)
      some-part None never = absurd (never refl)
      some-part (Some p) never = (p, refl)

      some-noted : (set l : ℕ) → l < MAX_LISTS → has_list set l ≡ true → starts_noted (has_list set) MAX_LISTS ≡ [] → ⊥
      some-noted set l below is none = false≢true (ap (λ ds. runs_there (ds ++ []) l) (sym none) ∙ (starts-set (has_list set)).noted l [] below is)

-- no list is started
pub starts-no-list : (d : Profile) (a : SlaveState) (log : List Act) (lists : ℕ) → ((l : ℕ) → l < MAX_LISTS → has_list lists l ≡ false) → SlaveHas d a log → SlaveStarted d a log lists
starts-no-list d a log lists none has = record {
  few = has.few;
  is_log = has.is_log;
  profile = has.profile;
  session = has.session;
  outbox = has.outbox;
  channels = λ c ch at.
      channel-same (opened log) (λ m. deeds_of d m c log) (started d log lists c)
      (λ m. sym (ap (λ xs. if nat_eq (m + 1) (opened log) then xs ++ deeds_of d m c log else deeds_of d m c log) (starts-none MAX_LISTS _ (λ l below. ap (λ b. b && is_on d (past_of d log) c l) (none l below)))
      ∙ either (nat_eq (m + 1) (opened log)) (deeds_of d m c log))) ch (has.channels c ch at);
  out = has.out;
  as_logged = has.as_logged;
  many = has.many;
  plan = has.plan;
  account = has.account;
  number = has.number;
} where
  either : (b : Bool) (xs : List Deed) → (if b then [] ++ xs else xs) ≡ xs
  either true xs = refl
  either false xs = refl
