-- What a call did at one event channel, as the clauses have it of all.
use Rattle.std.proofs.Common.{◌≡◌, ◌≢◌, ℕ, suc, ◌+◌, ◌<◌, ◌≤◌, Bool, true, false, inl, inr, List, Ok, length, set, get_or, Some, None, Option, refl, sym, ap, subst, ◌∙◌, arith}
use Rattle.std.specs.Prelude.{slice_get}
use Rattle.std.proofs.lemmas.Bool.Decides.{eqb_tells, leb_tells}
use Rattle.std.proofs.lemmas.Option.{same_Some, slice_get-get_or, slice_get_within}
use Rattle.xcp_base.specs.Lists.{has_list}
use Rattle.frame_ring.specs.declared.frame_send.FrameSend.{FrameSend}
use Rattle.daq_store.specs.Standing.{StoreState}
use Rattle.tasks.specs.Links.{AwayState, CanStart, LooksAtNewest, hand_refusal}
use Rattle.tasks.specs.declared.fault.HandFault.{HandFault}
use Rattle.slave_channels.specs.Channels.{AnswersOpen, ChannelState, keeps_two}
use Rattle.slave_channels.specs.Calls.{CanStartAll, HasFull, HasNoPlaces, HasSome, HaveRoom, Looks, NoneRefuses, OpenedAndEnded, OpensAt, OpensIfAny}
use Rattle.slave_channels.specs.Each.{IsEach}
use Rattle.slave_channels.specs.Inner.{EndsAt, HaveRoomBelow, IsFront, KeepNone}
use Rattle.slave_channels.proofs.EachLemmas.{front-map, front-next, front-rest, front-twice, get-set_same, read_at}

-- what holds of the number that was read holds of the number there
pub at-place : (P : ℕ → Type 0) (xs : List ℕ) (c : ℕ) → c < length xs → P (get_or xs c 0) → (y : ℕ) → slice_get xs c ≡ Some y → P y
at-place P xs c here holds y at = subst P (same_Some (get_or xs c 0) y (sym (slice_get-get_or xs c 0 here) ∙ at)) holds

newest-same : (o : Option (AwayState FrameSend)) → LooksAtNewest o o
newest-same None = tt
newest-same (Some a) = record { rest = refl; grows = omega arith }

-- a look found places there, if it has lists
abbrev pub FindsPlaces : List ℕ → ℕ → ChannelState → ChannelState → Type 0
FindsPlaces lists c a b =
    Looks a b × ((set : ℕ) → slice_get lists c ≡ Some set → set ≢ 0 → CanStart b.link.newer (has_list set))

-- what is as it was is as after a look
pub looks-same : (a : ChannelState) → Looks a a
looks-same a = record { newer = newest-same a.link.newer; rest = refl }

-- a look at one channel more
pub finds-places : (lists : List ℕ) (c : ℕ) (old new : ChannelState) → c < length lists → Looks old new
    → (get_or lists c 0 ≢ 0 → CanStart new.link.newer (has_list (get_or lists c 0))) → FindsPlaces lists c old new
finds-places lists c old new here looks can = (looks, at-place (λ n. n ≢ 0 → CanStart new.link.newer (has_list n)) lists c here can)

-- all channels were looked at
pub all-looked : (lists : List ℕ) (n : ℕ) (xs ys : List ChannelState) → IsFront (FindsPlaces lists) n xs ys → IsEach (λ c. Looks) xs ys
all-looked lists n xs ys front = front-rest (λ c. Looks) n xs ys (λ k a. looks-same a) (front-map (FindsPlaces lists) (λ c. Looks) n xs ys (λ k a b both. both.0) front)

pub all-find : (lists : List ℕ) (n : ℕ) (xs ys : List ChannelState) → IsFront (FindsPlaces lists) n xs ys → length xs ≤ n → CanStartAll lists ys
all-find lists n xs ys front all c set b at now some =
    let inside = slice_get_within ys c b now in
    let a = get_or xs c b in
    let was : slice_get xs c ≡ Some a = slice_get-get_or xs c b (omega (arith, inside, front.as_many)) in
    (front.front c a b (omega (arith, inside, front.as_many, all)) was now).1 set at some

-- a look at the last of them
pub last-looked : (lists : List ℕ) (c : ℕ) (xs ys : List ChannelState) (old new : ChannelState) → old ≡ get_or ys c old → c < length ys
    → IsFront (FindsPlaces lists) c xs ys → Looks old new → IsEach (λ c. Looks) xs (set ys c new)
last-looked lists c xs ys old new is here front looks =
    front-rest (λ c. Looks) _ xs (set ys c new) (λ k a. looks-same a)
    (front-next (λ c. Looks) c xs ys old new is here (front-map (FindsPlaces lists) (λ c. Looks) c xs ys (λ k a b both. both.0) front) looks)

-- there are no places there
pub no-places : (lists : List ℕ) (c : ℕ) (ys : List ChannelState) (new : ChannelState) → c < length lists → c < length ys
    → get_or lists c 0 ≢ 0 → ¬ CanStart new.link.newer (has_list (get_or lists c 0)) → HasNoPlaces lists (set ys c new)
no-places lists c ys new here inside any cannot = record {
  channel = c;
  set = get_or lists c 0;
  state = new;
  lists_are = slice_get-get_or lists c 0 here;
  some = any;
  state_is = get-set_same ys c new inside;
  cannot = cannot;
}

-- what was checked of a channel before the others were started
pub still-can : (lists : List ℕ) (c : ℕ) (xs ys : List ChannelState) (old : ChannelState) (R : ℕ → ChannelState → ChannelState → Type 0) → c < length lists
    → old ≡ get_or ys c old → c < length ys → IsFront R c xs ys → CanStartAll lists xs → get_or lists c 0 ≢ 0 → CanStart old.link.newer (has_list (get_or lists c 0))
still-can lists c xs ys old R here was inside front can any =
    can c (get_or lists c 0) old (slice_get-get_or lists c 0 here) (sym (front.rest c (omega arith)) ∙ read_at ys c old was inside) any

module _ (store : StoreState) (number : ℕ) (caps lists : List ℕ) where
  -- those that were opened have ended again
  pub opened-ended : (c : ℕ) (xs ys zs ws : List ChannelState) → zs ≡ ys
      → IsFront (OpensAt store number caps lists) c xs ys → IsFront (EndsAt lists) c zs ws → IsEach (OpenedAndEnded store number caps lists) xs ws
  opened-ended c xs ys zs ws same opened ended =
      front-twice (OpensAt store number caps lists) (EndsAt lists) (OpenedAndEnded store number caps lists) c xs ys ws both (λ k a cap set cap_at set_at. inl refl)
      opened (subst (λ us. IsFront (EndsAt lists) c us ws) same ended) where
        both : (k : ℕ) (a m b : ChannelState) → OpensAt store number caps lists k a m → EndsAt lists k m b → OpenedAndEnded store number caps lists k a b
        both k a m b opens ends cap set cap_at set_at =
            let one = opens cap set cap_at set_at in
            let two = ends set set_at in
            elim (eqb_tells set 0) [
              | inl w ↦ inl (two.0 w.1 ∙ one.0 w.1)
              | inr w ↦ inr (w.1, (m, one.1 w.1, two.1 w.1))
            ]

  -- one was opened
  pub opens-at : (c : ℕ) → c < length caps → c < length lists → (a b : ChannelState) → OpensIfAny store number c (get_or caps c 0) (get_or lists c 0) a b
      → OpensAt store number caps lists c a b
  opens-at c in_caps in_lists a b opens cap set cap_at set_at =
      at-place (λ n. OpensIfAny store number c n set a b) caps c in_caps
      (at-place (λ n. OpensIfAny store number c (get_or caps c 0) n a b) lists c in_lists opens set set_at) cap cap_at

-- a part is kept at an event channel that was read
pub keeps-here : (test : ChannelState → Bool) (all now : List ChannelState) (c : ℕ) (x : ChannelState) → all ≡ now → x ≡ get_or all c x → c < length all → test x ≡ true → (k : ℕ) × ((ch : ChannelState) × (slice_get now k ≡ Some ch) × (test ch ≡ true))
keeps-here test all now c x same is here keeps = (c, (x, ap (λ xs. slice_get xs c) (sym same) ∙ read_at all c x is here, keeps))

pub keep-first : (test : ChannelState → Bool) (all : List ChannelState) → KeepNone test all 0
keep-first test all = λ c ch below at. absurd (omega (arith, below))

-- one event channel more
pub keep-more : (test : ChannelState → Bool) (all : List ChannelState) (n : ℕ) (x : ChannelState) → x ≡ get_or all n x → n < length all → test x ≡ false → KeepNone test all n → KeepNone test all (n + 1)
keep-more test all n x is here none before = λ c ch below at.
    elim (eqb_tells c n) [
      | inl w ↦ ap test (same_Some ch x (sym at ∙ ap (slice_get all) w.1 ∙ read_at all n x is here)) ∙ none
      | inr w ↦ before c ch (less c n below w.1) at
    ] where
      less : (c n : ℕ) → c < n + 1 → c ≢ n → c < n
      less c n below other = elim (leb_tells (suc c) n) [ inl t ↦ t.1 | inr t ↦ absurd (other (omega (arith, below, t.1))) ]

-- these are all
pub keep-all : (test : ChannelState → Bool) (all now : List ChannelState) (n : ℕ) → all ≡ now → length all ≤ n → KeepNone test all n → (c : ℕ) (ch : ChannelState) → slice_get now c ≡ Some ch → test ch ≡ false
keep-all test all now n same all_are before = λ c ch at.
    let there = ap (λ xs. slice_get xs c) same ∙ at in
    before c ch (omega (arith, slice_get_within all c ch there, all_are)) there

-- at an event channel that was read there is no room
pub full-here : (lists : List ℕ) (all now : List ChannelState) (c : ℕ) (x : ChannelState) → all ≡ now → x ≡ get_or all c x → c < length all → c < length lists
    → HasSome (get_or lists c 0) → keeps_two x ≡ true → HasFull lists now
full-here lists all now c x same is here within some full = record {
  channel = c;
  set = get_or lists c 0;
  state = x;
  lists_are = slice_get-get_or lists c 0 within;
  some = some;
  state_is = ap (λ xs. slice_get xs c) (sym same) ∙ read_at all c x is here;
  full = full;
}

pub room-first : (lists : List ℕ) (all : List ChannelState) → HaveRoomBelow lists all 0
room-first lists all = λ c set ch below set_at at some. absurd (omega (arith, below))

-- one event channel more
pub room-more : (lists : List ℕ) (all : List ChannelState) (n : ℕ) (x : ChannelState) → x ≡ get_or all n x → n < length all → n < length lists
    → (get_or lists n 0 ≢ 0 → keeps_two x ≡ false) → HaveRoomBelow lists all n → HaveRoomBelow lists all (n + 1)
room-more lists all n x is here within room before = λ c set ch below set_at at some.
    elim (eqb_tells c n) [
      | inl w ↦
          let listed : slice_get lists n ≡ Some set = ap (slice_get lists) (sym w.1) ∙ set_at in
          let same : get_or lists n 0 ≡ set = same_Some (get_or lists n 0) set (sym (slice_get-get_or lists n 0 within) ∙ listed) in
          ap keeps_two (same_Some ch x (sym at ∙ ap (slice_get all) w.1 ∙ read_at all n x is here)) ∙ room (λ none. some (sym same ∙ none))
      | inr w ↦ before c set ch (less c n below w.1) set_at at some
    ] where
      less : (c n : ℕ) → c < n + 1 → c ≢ n → c < n
      less c n below other = elim (leb_tells (suc c) n) [ inl t ↦ t.1 | inr t ↦ absurd (other (omega (arith, below, t.1))) ]

-- these are all
pub room-all : (lists : List ℕ) (all now : List ChannelState) (n : ℕ) → all ≡ now → length all ≤ n → HaveRoomBelow lists all n → HaveRoom lists now
room-all lists all now n same all_are before = λ c set ch set_at at some.
    let there = ap (λ xs. slice_get xs c) same ∙ at in
    before c set ch (omega (arith, slice_get_within all c ch there, all_are)) set_at there some

-- what was opened wasn't refused
pub not-refused : (r : Option HandFault) (done : Unit) → AnswersOpen r (Ok done) → r ≡ None
not-refused None done opened = refl
not-refused (Some fault) done opened = absurd opened

-- one event channel more of which no hand-out is refused
pub none-refuses : (lists : List ℕ) (now : List ChannelState) (c : ℕ)
    → ((set : ℕ) (state : ChannelState) → slice_get lists c ≡ Some set → set ≢ 0 → slice_get now c ≡ Some state → hand_refusal state.link ≡ None)
    → NoneRefuses lists now c → NoneRefuses lists now (c + 1)
none-refuses lists now c here so_far k set state below is some at =
    elim (eqb_tells k c) [
      | inl w ↦ here set state (subst (λ j. slice_get lists j ≡ Some set) w.1 is) some (subst (λ j. slice_get now j ≡ Some state) w.1 at)
      | inr w ↦ so_far k set state (omega (arith, below, w.1)) is some at
    ]
