-- What a slave stands after once lists were started, or were not.
use Rattle.std.proofs.Common.{◌≡◌, ◌≢◌, ℕ, zero, suc, ◌+◌, ◌*◌, ◌%◌, ◌<◌, ◌≤◌, Bool, true, false, ◌&&◌, ◌||◌, List, [], ◌∷◌, length, get_or, take as first, slice_get, refl, sym, ap, ◌∙◌, subst, arith, inl, inr}
use Rattle.std.specs.Prelude.{Option, Some, IfErr, OnErr, OnOk, Result, Ok, Err}
use Rattle.std.proofs.lemmas.List.{length-take}
use Rattle.std.proofs.lemmas.Bool.{false≢true}
use Rattle.xcp_base.specs.Lists.{has_list}
use Rattle.xcp_base.specs.declared.err_code.ErrCode.{ErrCode}
use Rattle.xcp_base.specs.declared.limits.TheConstants.{MAX_LISTS, MAX_TAKEN}
use Rattle.frame_ring.specs.declared.frame_send.FrameSend.{FrameSend}
use Rattle.daq_store.specs.Configuration.{Configuration}
use Rattle.daq_store.specs.Standing.{StoreState}
use Rattle.session.specs.Standing.{SessionStandsAfter, SessionState}
use Rattle.session.specs.declared.profile.Profile.{Profile}
use Rattle.slave_channels.specs.Channels.{ChannelState, keeps_two}
use Rattle.slave_channels.specs.Calls.{CanStartAll, HasSome, Looks, OpensAt, OpenedAndEnded, StartsAt}
use Rattle.slave_channels.specs.Each.{IsEach}
use Rattle.slave_channels.specs.Calls.{rings_of}
use Rattle.slave.specs.Hearing.{MayOpen, most_before, HasNoRoom, IsIdleRefusal, NoneComes}
use Rattle.slave.specs.Openings.{capacities_of}
use Rattle.slave.specs.Pages.{page_over}
use Rattle.slave.specs.Plans.{IsSame, plan_of}
use Rattle.slave.proofs.PlanLemmas.{as-opened, is-same, just-opened}
use Rattle.session.specs.Profiles.{lists_of}
use Rattle.xcp_base.specs.declared.err_code.ErrCode.TheVariants.{CmdBusy, MemoryOverflow, Sequence}
use Rattle.slave.specs.Inner.{AllCame, AreSets, Busy, HasParts, HasRoom, Idle, IsPlaceRefusal, IsRefusedAt, NoneIsTooLong, LooksAtAll, OpensAll, OpensInVain, OpensNone, Prepares, SlaveStarted, StartsInVain, StartsLists, WantsRoom, AreJustOut}
use Rattle.slave.specs.Log.{Act, Opened, opened, past_of}
use Rattle.slave.specs.Standing.{NoneRuns, SlaveHas, PartsStandAfter, SlaveState, number_of}
use Rattle.slave.proofs.StandingLemmas.{lines-looked, lines-new, lines-started, looks-at-all, looks-ended, opens-all, opens-in-vain, parts-all, parts-vain, starts-all, starts-no-list, starts-parts, Parts, are-parts, has-some, there-is}
use Rattle.slave.proofs.OutLemmas.{was-there, new-number}
use Rattle.slave.proofs.DeedLemmas.{opened-more}
use Rattle.session.specs.Past.{Past}
use Rattle.session.specs.Starts.{is_on, shows_on}
use Rattle.sampler.specs.State.{SamplerState}
use Rattle.channel_ring.specs.Orders.{TakeState}
use Rattle.tasks.specs.Links.{AwayState, CanStart, just_out, runs_of}
use Rattle.tasks.proofs.NeedLemmas.{how_many-le}
use Rattle.slave_channels.proofs.CallLemmas.{looks-same}
use Rattle.std.proofs.lemmas.Option.{slice_get_within}

front-get : (n : ℕ) (xs : List ℕ) (c x : ℕ) → slice_get (first n xs) c ≡ Some x → slice_get xs c ≡ Some x
front-get zero xs c x at = absurd (nothing at) where
  nothing : slice_get (first zero xs) c ≡ Some x → ⊥
  nothing at = cc
front-get (suc n) [] c x at = at
front-get (suc n) (y ∷ xs) zero x at = at
front-get (suc n) (y ∷ xs) (suc c) x at = front-get n xs c x at

-- the first sets are sets
pub are-front : (s : SessionState) (lists : ℕ) (sets : List ℕ) (n : ℕ) → AreSets s lists sets → AreSets s lists (first n sets)
are-front s lists sets n are = λ c set at. are c set (front-get n sets c set at)

pub front-many : (n k m : ℕ) (xs : List ℕ) → n ≡ k → length xs ≡ m → k ≤ m → length (first n xs) ≡ k
front-many n k m xs same many few = length-take n xs ∙ omega (arith, same, many, few)

pub on-ok : {A B : Type 0} (r : Result A B) (P Q : Type 0) → (P → Q) → OnOk r P → OnOk r Q
on-ok (Ok x) P Q f p = f p
on-ok (Err e) P Q f p = p

pub on-ok-both : {A B : Type 0} (r : Result A B) (P R Q : Type 0) → (P → R → Q) → OnOk r P → OnOk r R → OnOk r Q
on-ok-both (Ok x) P R Q f p q = f p q
on-ok-both (Err e) P R Q f p q = p

pub on-err : {A B : Type 0} (r : Result A B) (P Q : Type 0) → (P → Q) → OnErr r P → OnErr r Q
on-err (Ok x) P Q f p = p
on-err (Err e) P Q f p = f p

pub if-err : {A B : Type 0} (r : Result A B) (P R : B → Type 0) (Q : Type 0) → IfErr r P → OnErr r Q → ((e : B) → P e → Q → R e) → IfErr r R
if-err (Ok x) P R Q p q f = p
if-err (Err e) P R Q p q f = f e p q

pub if-err-so : {A B : Type 0} (r : Result A B) (P Q : B → Type 0) → ((e : B) → P e → Q e) → IfErr r P → IfErr r Q
if-err-so (Ok x) P Q f p = p
if-err-so (Err e) P Q f p = f e p

is-false : (b : Bool) → (b ≡ true → ⊥) → b ≡ false
is-false true never = absurd (never refl)
is-false false never = refl

-- nothing, and one measurement
nothing-opened : (most : ℕ) → MayOpen most []
nothing-opened most = record { are = refl; one = omega arith; few = omega arith }

one-opened : (at : ℕ → Bool) → MayOpen 1 (Opened at ∷ [])
one-opened at = record { are = refl; one = omega arith; few = omega arith }

place-code : (code : ErrCode) → IsPlaceRefusal code → code ≡ Sequence → ⊥
place-code code is e =
    elim is [
      | inl w ↦ busy (sym w ∙ e)
      | inr w ↦ memory (sym w ∙ e)
    ] where
      busy : CmdBusy ≡ Sequence → ⊥
      busy z = cc

      memory : MemoryOverflow ≡ Sequence → ⊥
      memory z = cc

pub some-set : (set : ℕ) (empty : Bool) → (empty ≡ true → set ≡ 0) → (empty ≡ false → HasSome set) → set ≢ 0 → HasSome set
some-set set true none some other = absurd (other (none refl))
some-set set false none some other = some refl

-- at a sampler that was just handed out all starts find places
can-just-out : (o : Option (AwayState FrameSend)) (sampler : SamplerState FrameSend) (went : TakeState) (set : ℕ → Bool) → o ≡ Some (just_out sampler went) → CanStart o set
can-just-out o sampler went set is =
    subst (λ z. CanStart z set) (sym is)
    (record { takes_orders = refl; places = omega (arith, how_many-le MAX_LISTS set, how_many-le MAX_LISTS (λ l. runs_of (just_out sampler went) l || set l)) })

pub looks-of : (v w : SlaveState) (x : List ChannelState) → w ≡ v → IsEach (λ c. Looks) w.channels x → LooksAtAll v (record w { channels = x })
looks-of v w x same looked = subst (λ (u : SlaveState). IsEach (λ c. Looks) u.channels x → LooksAtAll v (record u { channels = x })) (sym same) (λ l. record { channels = l; rest = refl }) looked

pub can-opened : (v w : SlaveState) (lists : ℕ) (sets : List ℕ) → w ≡ v → AreJustOut v → AreSets w.session lists sets → CanStartAll sets w.channels
can-opened v s lists sets same opened are c set ch listed at some =
    let set_on = are c set listed in
    let one = set_on.some some in
    let on = right (has_list lists one.0) (shows_on s.session.store c one.0) (sym (set_on.shown one.0 one.1) ∙ one.2) in
    let out = subst (λ (z : SlaveState). AreJustOut z) (sym same) opened c one.0 ch one.1 on at in
    can-just-out ch.link.newer out.0 out.1 (has_list set) out.2 where
      right : (x y : Bool) → (x && y) ≡ true → y ≡ true
      right true y is = is
      right false y is = absurd (false≢true is)

each-same : (xs : List ChannelState) → IsEach (λ c. Looks) xs xs
each-same xs = record { as_many = refl; each = λ k a b was is. subst (Looks a) (some_inj a b (sym was ∙ is)) (looks-same a) } where
  some_inj : {X : Type 0} (x y : X) → Some x ≡ Some y → x ≡ y
  some_inj x y e = cc

pub starts-of : (v w : SlaveState) (m x : List ChannelState) (lists : ℕ) (sets : List ℕ) → w ≡ v → IsEach (λ c. Looks) w.channels m
    → AreSets w.session lists sets → length sets ≡ length m → CanStartAll sets m → IsEach (StartsAt sets) m x
    → StartsLists v (record w { channels = x }) lists
starts-of v w m x lists sets same looked are as_many can starts =
    subst (λ (u : SlaveState). IsEach (λ c. Looks) u.channels m → AreSets u.session lists sets → StartsLists v (record u { channels = x }) lists) (sym same)
    (λ l a. record {
      looked = record v { channels = m };
      looks = record { channels = l; rest = refl };
      sets = sets;
      are = a;
      as_many = as_many;
      can = can;
      starts = starts;
      rest = refl;
    }) looked are

-- lists are started whose starts find places, with no look
pub starts-opened : (v w : SlaveState) (x : List ChannelState) (lists : ℕ) (sets : List ℕ) → w ≡ v → AreSets w.session lists sets → length sets ≡ length w.channels → CanStartAll sets w.channels
    → IsEach (StartsAt sets) w.channels x → StartsLists v (record w { channels = x }) lists
starts-opened v w x lists sets same are as_many can starts = starts-of v w w.channels x lists sets same (each-same w.channels) are as_many can starts

started-behind : (d : Profile) (a b : SlaveState) (log : List Act) (lists : ℕ) → 32 * (1 + length log) ≤ MAX_TAKEN → StartsLists a b lists → SlaveHas d a log → SlaveStarted d b log lists
started-behind d a b log lists few s has =
    starts-all d s.looked b log lists s.sets few
    (subst (λ x. AreSets x lists s.sets) (sym (ap (λ (z : SlaveState). z.session) s.looks.rest)) s.are) s.as_many s.can s.starts s.rest
    (looks-at-all d a s.looked log s.looks has)

parts-behind : (d : Profile) (a b : SlaveState) (log : List Act) (lists : ℕ) → StartsLists a b lists → SlaveHas d a log → HasParts d log lists
parts-behind d a b log lists s has =
    starts-parts d s.looked b.channels log lists s.sets
    (subst (λ x. AreSets x lists s.sets) (sym (ap (λ (z : SlaveState). z.session) s.looks.rest)) s.are) s.as_many s.can s.starts
    (looks-at-all d a s.looked log s.looks has)

-- lists of the measurement that is there are started
pub starts-prepare : (a b : SlaveState) (lists : ℕ) → StartsLists a b lists → Busy a.session → a.session.store.profile ≡ lists_of a.session.profile
    → NoneIsTooLong a.session lists → ((l : ℕ) → l < MAX_LISTS → has_list lists l ≡ true → IsSame a.plan a.session.store l) → Prepares most_before a b lists
starts-prepare a b lists s busy profile rings same = record {
  opening = [];
  may_open = nothing-opened most_before;
  for_some = inl refl;
  lines = lines-started a b lists s;
  in_one = λ log few stands some none. absurd (busy (past_of a.session.profile log) stands.has.session none);
  as_opened = λ log few stands l below one there. as-opened a.session.profile a.session a.plan log l profile stands.has.session stands.has.plan (same l below one);
  has_parts = λ log few stands. parts-behind a.session.profile a b log lists s stands.has;
  in_rings = λ log few stands. rings (past_of a.session.profile log) stands.has.session;
  goes = λ log few stands. started-behind a.session.profile a b log lists (omega (arith, few)) s stands.has;
}

pub none-prepare : (a : SlaveState) (lists : ℕ) → ((l : ℕ) → l < MAX_LISTS → has_list lists l ≡ false) → Prepares most_before a a lists
none-prepare a lists none = record {
  opening = [];
  may_open = nothing-opened most_before;
  for_some = inl refl;
  lines = refl;
  in_one = λ log few stands some quiet. absurd (false≢true (sym (none some.0 some.1) ∙ some.2));
  as_opened = λ log few stands l below one there. absurd (false≢true (sym (none l below) ∙ one));
  has_parts = λ log few stands c l within below one on. absurd (false≢true (sym (none l below) ∙ one));
  in_rings = λ log few stands l below one. absurd (false≢true (sym (none l below) ∙ one));
  goes = λ log few stands. starts-no-list a.session.profile a log lists none stands.has;
}

-- a refusal while lists run is one for want of places, or of room
place-of : (s : SessionState) (now : List ChannelState) (lists : ℕ) (code : ErrCode) → IsRefusedAt s now lists code → IsPlaceRefusal code
place-of s now lists code is =
    elim is [
      | inl busy ↦ inl busy.0
      | inr long ↦ inr long.0
    ]

-- lists are not started, since there is no place for the orders, or no room in a ring
pub looks-in-vain : (a b : SlaveState) (lists : ℕ) (code : ErrCode) → Busy a.session → IsRefusedAt a.session b.channels lists code → LooksAtAll a b → HasSome lists → a.session.store.profile ≡ lists_of a.session.profile
    → ((l : ℕ) → l < MAX_LISTS → has_list lists l ≡ true → IsSame a.plan a.session.store l) → StartsInVain most_before a b lists code
looks-in-vain a b lists code busy is looks some profile same = record {
  is = inr (place-of a.session b.channels lists code is);
  some = some;
  opening = [];
  may_open = nothing-opened most_before;
  places = λ past stands run other. is;
  when_idle = λ past stands none. absurd (busy past stands none);
  unopened = λ past stands none. absurd (busy past stands none);
  sequence = λ log few stands. (
    λ e. absurd (place-code code (place-of a.session b.channels lists code is) e),
    λ other. absurd (other.other (as-opened a.session.profile a.session a.plan log other.list profile stands.has.session stands.has.plan (same other.list other.below other.one))),
  );
  goes = (
    lines-looked a b looks,
    λ log few stands. record {
      has = looks-at-all a.session.profile a b log looks stands.has;
      ended = looks-ended (past_of a.session.profile log) a b looks stands.ended;
    },
  );
}

-- or since one of them does not stand as it did
pub other-in-vain : (a : SlaveState) (lists l : ℕ) → Busy a.session → a.session.store.profile ≡ lists_of a.session.profile
    → l < MAX_LISTS → has_list lists l ≡ true → ¬ IsSame a.plan a.session.store l → StartsInVain most_before a a lists Sequence
other-in-vain a lists l busy profile below one other = record {
  is = inl refl;
  some = (l, below, one);
  opening = [];
  may_open = nothing-opened most_before;
  places = λ past stands run other. absurd (other refl);
  when_idle = λ past stands none. absurd (busy past stands none);
  unopened = λ past stands none. absurd (busy past stands none);
  sequence = λ log few stands. (
    λ e. record {
      list = l;
      below = below;
      one = one;
      other = λ opened. other (is-same a.session.profile a.session a.plan log l profile stands.has.session stands.has.plan opened);
      some = busy (past_of a.session.profile log) stands.has.session;
    },
    λ has. refl,
  );
  goes = (refl, λ log few stands. stands);
}

-- where there is room for one more part, no two are kept at an event channel of which a list is ready
room-here : (s : SlaveState) (past : Past) (c l : ℕ) (ch : ChannelState) → HasRoom s → SessionStandsAfter s.session past → l < MAX_LISTS
    → is_on s.session.profile past c l ≡ true → slice_get s.channels c ≡ Some ch → keeps_two ch ≡ false
room-here s past c l ch room stands below on at =
    let set = get_or room.sets c 0 in
    let there = there-is room.sets (length s.channels) c room.as_many (slice_get_within s.channels c ch at) in
    let one : has_list set l ≡ true = (room.are c set there).is past stands l below ∙ both (has_list room.all l) (is_on s.session.profile past c l) (room.are_all l below) on in
    room.have c set ch there at (has-some set l one) where
      both : (x y : Bool) → x ≡ true → y ≡ true → (x && y) ≡ true
      both true true a b = refl
      both true false a b = b
      both false y a b = a

-- where there is none, two are kept
no-room : (s : SlaveState) (past : Past) → WantsRoom s → SessionStandsAfter s.session past → HasNoRoom s.session.profile past s
no-room s past wants stands =
    let full = wants.none in
    let some = full.some in
    record {
      channel = full.channel;
      list = some.0;
      state = full.state;
      below = some.1;
      ready = right (has_list wants.all some.0) (is_on s.session.profile past full.channel some.0) (sym ((wants.are full.channel full.set full.lists_are).is past stands some.0 some.1) ∙ some.2);
      state_is = full.state_is;
      two = full.full;
    } where
      right : (x y : Bool) → (x && y) ≡ true → y ≡ true
      right true y is = is
      right false y is = absurd (false≢true is)

-- what is known to have come back was taken back, since no list runs
came-all : (a b : SlaveState) (past : Past) → AllCame a → b ≡ a → SessionStandsAfter a.session past → NoneRuns past → (c : ℕ) (ch : ChannelState) → slice_get b.channels c ≡ Some ch → NoneComes ch.link
came-all a b past came same stands none c ch at =
    elim (came c ch (ap (λ (s : SlaveState). slice_get s.channels c) (sym same) ∙ at)) [
      | inl busy ↦ absurd (busy past stands none)
      | inr rests ↦ rests
    ]

-- or since a measurement isn't opened, for want of memory
pub memory-in-vain : (a b : SlaveState) (lists : ℕ) (code : ErrCode) → code ≡ MemoryOverflow → AllCame a → HasRoom a → Idle a.session → HasSome lists → b ≡ a → StartsInVain 1 a b lists code
memory-in-vain a b lists code is came room idle some same = record {
  is = inr (inr is);
  some = some;
  opening = [];
  may_open = nothing-opened 1;
  places = λ past stands run other. absurd (run (idle past stands));
  when_idle = λ past stands none. record {
    all_came = λ unopened. came-all a b past came same stands none;
    unopened = λ unopened. (
      λ busy. absurd (not-both (sym busy ∙ is)),
      λ two. absurd (false≢true (sym (room-here a past two.channel two.list two.state room stands two.below two.ready (ap (λ (s : SlaveState). slice_get s.channels two.channel) (sym same) ∙ two.state_is)) ∙ two.two)),
    );
    ended = λ some two. absurd (some refl);
  };
  unopened = λ past stands none long. refl;
  sequence = λ log few stands. (λ e. absurd (place-code code (inr is) e), λ other. absurd (other.some (idle (past_of a.session.profile log) stands.has.session)));
  goes = (ap (λ (s : SlaveState). rings_of s.channels) same, λ log few stands. subst (λ s. PartsStandAfter a.session.profile s log) (sym same) stands);
} where
  not-both : CmdBusy ≡ MemoryOverflow → ⊥
  not-both e = cc

-- or since there is no room for one
pub full-in-vain : (a : SlaveState) (lists : ℕ) → AllCame a → WantsRoom a → Idle a.session → HasSome lists → StartsInVain 1 a a lists CmdBusy
full-in-vain a lists came wants idle some = record {
  is = inr (inl refl);
  some = some;
  opening = [];
  may_open = nothing-opened 1;
  places = λ past stands run other. absurd (run (idle past stands));
  when_idle = λ past stands none. record {
    all_came = λ unopened. came-all a a past came refl stands none;
    unopened = λ unopened. (λ busy. no-room a past wants stands, λ two. refl);
    ended = λ some two. absurd (some refl);
  };
  unopened = λ past stands none long. refl;
  sequence = λ log few stands. (λ e. absurd (place-code CmdBusy (inl refl) e), λ other. absurd (other.some (idle (past_of a.session.profile log) stands.has.session)));
  goes = (refl, λ log few stands. stands);
}

pub opens-of : (v w : SlaveState) (x : List ChannelState) (store : StoreState) (caps sets : List ℕ) (all : ℕ) → ((l : ℕ) → l < MAX_LISTS → has_list all l ≡ true) → AreSets w.session all sets → w ≡ v → store ≡ w.session.store → w.plan ≡ plan_of w.session.store → w.outbox.page ≡ page_over w.session.store → w.session.store.profile ≡ lists_of w.session.profile → length caps ≡ length w.channels → length sets ≡ length w.channels → caps ≡ capacities_of w.session.profile
    → IsEach (OpensAt store w.number caps sets) w.channels x
    → OpensAll v (record w { channels = x; number = (w.number + 1) % 18446744073709551616 })
opens-of v w x store caps sets all are_all are same st plan page lists many_caps many_sets caps_are opens =
    subst (λ (u : SlaveState). AreSets u.session all sets → u.plan ≡ plan_of u.session.store → u.outbox.page ≡ page_over u.session.store → u.session.store.profile ≡ lists_of u.session.profile → length caps ≡ length u.channels → length sets ≡ length u.channels → caps ≡ capacities_of u.session.profile → IsEach (OpensAt u.session.store u.number caps sets) u.channels x
    → OpensAll v (record u { channels = x; number = (u.number + 1) % 18446744073709551616 })) (sym same)
    (λ e k n f p q r o. record { caps = caps; caps_are = r; sets = sets; all = all; are_all = are_all; are = e; as_many_caps = p; as_many_sets = q; channels = o; rest = record { session = refl; outbox = ap (λ m. record v.outbox { page = m }) n; plan = k; lists = f; account = refl; number = refl; counted = refl; next = refl } }) are plan page lists many_caps many_sets caps_are (subst (λ z. IsEach (OpensAt z w.number caps sets) w.channels x) st opens)

-- whatever plan and page there were before
pub opens-anyhow : (v b : SlaveState) (plan : List Configuration) (page : ℕ) → OpensAll (record v { plan = plan; outbox = record v.outbox { page = page } }) b → OpensAll v b
opens-anyhow v b plan page o = record {
  caps = o.caps;
  caps_are = o.caps_are;
  sets = o.sets;
  all = o.all;
  are_all = o.are_all;
  are = o.are;
  as_many_caps = o.as_many_caps;
  as_many_sets = o.as_many_sets;
  channels = o.channels;
  rest = record { session = o.rest.session; outbox = o.rest.outbox; plan = o.rest.plan; lists = o.rest.lists; account = o.rest.account; number = o.rest.number; counted = o.rest.counted; next = o.rest.next };
}

pub vain-of : (v w : SlaveState) (x : List ChannelState) (store : StoreState) (caps sets : List ℕ) → w ≡ v → store ≡ w.session.store → w.plan ≡ plan_of w.session.store → w.outbox.page ≡ page_over w.session.store → w.session.store.profile ≡ lists_of w.session.profile → length caps ≡ length w.channels → length sets ≡ length w.channels → caps ≡ capacities_of w.session.profile
    → IsEach (OpenedAndEnded store w.number caps sets) w.channels x
    → OpensInVain v (record w { channels = x; number = (w.number + 1) % 18446744073709551616 })
vain-of v w x store caps sets same st plan page lists many_caps many_sets caps_are opens =
    subst (λ (u : SlaveState). u.plan ≡ plan_of u.session.store → u.outbox.page ≡ page_over u.session.store → u.session.store.profile ≡ lists_of u.session.profile → length caps ≡ length u.channels → length sets ≡ length u.channels → caps ≡ capacities_of u.session.profile → IsEach (OpenedAndEnded u.session.store u.number caps sets) u.channels x
    → OpensInVain v (record u { channels = x; number = (u.number + 1) % 18446744073709551616 })) (sym same)
    (λ k n f p q r o. record { caps = caps; caps_are = r; sets = sets; as_many_caps = p; as_many_sets = q; channels = o; rest = record { session = refl; outbox = ap (λ m. record v.outbox { page = m }) n; plan = k; lists = f; account = refl; number = refl; counted = refl; next = refl } }) plan page lists many_caps many_sets caps_are (subst (λ z. IsEach (OpenedAndEnded z w.number caps sets) w.channels x) st opens)

-- where a measurement was just opened each event channel of which a list is ready has a sampler that was just handed out
pub just-out : (a m : SlaveState) → OpensAll a m → AreJustOut m
just-out a m opens c l ch below on at =
    let was = was-there a.channels m.channels c ch opens.channels.as_many at in
    let old = get_or a.channels c ch in
    let here = slice_get_within a.channels c old was in
    let set = get_or opens.sets c 0 in
    let cap = get_or opens.caps c 0 in
    let there = there-is opens.sets (length a.channels) c opens.as_many_sets here in
    let one : has_list set l ≡ true
    = (opens.are c set there).shown l below ∙ both (has_list opens.all l) (shows_on a.session.store c l) (opens.are_all l below) (ap (λ (s : SessionState). shows_on s.store c l) (sym opens.rest.session) ∙ on) in
    let new = (opens.channels.each c old ch was at cap set (there-is opens.caps (length a.channels) c opens.as_many_caps here) there).1 (has-some set l one) in
    (new.sampler, new.handed.went, new.handed.newer) where
      both : (x y : Bool) → x ≡ true → y ≡ true → (x && y) ≡ true
      both true true a b = refl
      both true false a b = b
      both false y a b = a

-- lists of a measurement that was opened are started
pub opens-prepare : (a m b : SlaveState) (lists : ℕ) → OpensAll a m → Idle a.session → HasSome lists → NoneIsTooLong a.session lists → StartsLists m b lists → Prepares 1 a b lists
opens-prepare a m b lists opens idle some rings s = record {
  opening = Opened (parts-all a m opens).at ∷ [];
  may_open = one-opened (parts-all a m opens).at;
  for_some = inr some;
  lines = lines-started m b lists s ∙ lines-new a m opens.channels.as_many (parts-all a m opens);
  in_one = λ log few stands any none. are-parts a.session.profile a m log opens stands.has;
  as_opened = λ log few stands l below one there. just-opened a.session.profile (parts-all a m opens).at log l there;
  has_parts = λ log few stands.
      let d = a.session.profile in
      parts-behind d m b (Opened (parts-all a m opens).at ∷ log) lists s
      (opens-all d a m log (omega (arith, few)) (idle (past_of d log) stands.has.session) stands opens);
  in_rings = λ log few stands. rings (past_of a.session.profile log) stands.has.session;
  goes = λ log few stands.
      let d = a.session.profile in
      started-behind d m b (Opened (parts-all a m opens).at ∷ log) lists (omega (arith, few)) s
      (opens-all d a m log (omega (arith, few)) (idle (past_of d log) stands.has.session) stands opens);
}

-- of two parts that are kept behind an opening one is its own
own-part : (a b : SlaveState) (past : Past) → HasRoom a → SessionStandsAfter a.session past → length b.channels ≡ length a.channels → Parts a b
    → (two : HasNoRoom a.session.profile past b) → number_of two.state.newer ≡ Some a.number
own-part a b past room stands as_many parts two =
    let c = two.channel in
    let old = get_or a.channels c two.state in
    elim (parts.each c two.state two.state_is) [
      | inl w ↦ new-number a.session.store a.number c old two.state w.1
      | inr w ↦
          let was = was-there a.channels b.channels c two.state as_many two.state_is in
          absurd (false≢true (sym (room-here a past c two.list two.state room stands two.below two.ready (was ∙ ap Some (sym w.1))) ∙ two.two))
    ]

idle-opened : (a b : SlaveState) (past : Past) (at : ℕ → Bool) (code : ErrCode) → ((two : HasNoRoom a.session.profile past b) → number_of two.state.newer ≡ Some a.number)
    → IsIdleRefusal a.session.profile past a.number b code (Opened at ∷ [])
idle-opened a b past at code own = record { all_came = λ none. absurd (one none); unopened = λ none. absurd (one none); ended = λ some two. own two } where
  one : opened (Opened at ∷ []) ≡ 0 → ⊥
  one none = omega (arith, opened-more at [], none)

pub none-in-vain : (a b : SlaveState) (lists : ℕ) (code : ErrCode) → AllCame a → HasRoom a → Idle a.session → HasSome lists → NoneIsTooLong a.session lists → OpensNone a b code → StartsInVain 1 a b lists code
none-in-vain a b lists code came room idle some rings opens =
    elim opens [
      | inl memory ↦ memory-in-vain a b lists code memory.0 came room idle some memory.1
      | inr both ↦ vain-in-vain a b lists code both.0 room idle some rings both.1
    ] where
      vain-in-vain : (a b : SlaveState) (lists : ℕ) (code : ErrCode) → IsPlaceRefusal code → HasRoom a → Idle a.session → HasSome lists → NoneIsTooLong a.session lists → OpensInVain a b → StartsInVain 1 a b lists code
      vain-in-vain a b lists code is room idle some rings vain = record {
        is = inr is;
        some = some;
        opening = Opened (parts-vain a b vain).at ∷ [];
        may_open = one-opened (parts-vain a b vain).at;
        places = λ past stands run other. absurd (run (idle past stands));
        when_idle = λ past stands none.
            idle-opened a b past (parts-vain a b vain).at code
            (own-part a b past room stands vain.channels.as_many (parts-vain a b vain));
        unopened = λ past stands none long. absurd (false≢true (sym (rings past stands long.list long.below long.one) ∙ long.long));
        sequence = λ log few stands. (λ e. absurd (place-code code is e), λ other. absurd (other.some (idle (past_of a.session.profile log) stands.has.session)));
        goes = (
          lines-new a b vain.channels.as_many (parts-vain a b vain),
          λ log few stands. opens-in-vain a.session.profile a b log (omega (arith, few)) (idle (past_of a.session.profile log) stands.has.session) stands vain,
        );
      }
