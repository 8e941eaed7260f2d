-- The rings of the newest measurement are looked through.
use Rattle.std.proofs.Common.{◌≡◌, ◌≢◌, ◌⊎◌, ℕ, ◌+◌, ◌-◌, ◌*◌, ◌<◌, ◌≤◌, min, true, false, List, [], length, slice_get, refl, sym, ap, ◌∙◌, subst, arith, inl, inr}
use Rattle.std.specs.Prelude.{Option, Some, None}
use Rattle.std.proofs.lemmas.Bool.{false≢true}
use Rattle.std.proofs.lemmas.Bool.Decides.{eqb_tells, leb_tells}
use Rattle.xcp_base.specs.Samples.{SampleParts}
use Rattle.slave_outbox.specs.Deeds.{Deed}
use Rattle.slave_outbox.specs.Intakes.{IntakeState, OnlyLooked, StandsAfter}
use Rattle.slave_outbox.specs.Steps.{HoldsNext, Passes}
use Rattle.slave_outbox.specs.declared.step.Step.{Step}
use Rattle.slave_outbox.specs.declared.step.Step.TheVariants.{Full, Marked, Nothing, Skipped, Wrote}
use Rattle.slave_outbox.specs.Outboxes.{OutboxState}
use Rattle.slave_outbox.specs.Taking.{HasNoRoom, TakesItem}
use Rattle.slave_channels.specs.Channels.{ChannelState, ShareState, TakesOf}
use Rattle.slave_channels.specs.Calls.{TakesFromNewer, TakesFromOlder}
use Rattle.slave_channels.specs.Each.{IsOnlyAt}
use Rattle.slave.specs.Hearing.{is_spent}
use Rattle.slave.specs.Inner.{EndsRound, KeepsNewest, LooksOnce, acts_of}
use Rattle.slave.specs.Standing.{SlaveState}
use Rattle.slave.specs.Taking.{IsEmptyAt, IsHeldUp, LooksAt, LooksThrough, LooksTimes, newest_at, newest_part}
use Rattle.slave.specs.declared.round.Round.{Round}
use Rattle.slave.specs.declared.round.Round.TheVariants.{Empty, HeldUp, Took}
use Rattle.slave.specs.declared.limits.TheConstants.{PER_ACT}
use Rattle.slave.proofs.FairLemmas.{FairSoFar, looked-through, looks-held, looks-turn, still-spent}
use Rattle.slave.proofs.OutLemmas.{some-at}
use Rattle.std.proofs.lemmas.Option.{slice_get_within}

none_some : {X : Type 0} (x : X) → None ≡ Some x → ⊥
none_some x e = cc

some_inj : {X : Type 0} (x y : X) → Some x ≡ Some y → x ≡ y
some_inj x y e = cc

-- where the next look begins behind many rounds
pub next-many : (rounds next : ℕ) → 1024 ≤ rounds → (rounds ≡ 0) ⊎ (next ≡ 0) → next ≡ 0
next-many rounds next many (inl none) = absurd (omega (arith, many, none))
next-many rounds next many (inr first) = first

-- what counts as nothing and found room is nothing
acts-none : (step : Step) → acts_of step ≡ 0 → step ≢ Full → step ≡ Nothing
acts-none Nothing none other = refl
acts-none Full none other = absurd (other refl)
acts-none (Marked l) none other = absurd (omega (arith, none))
acts-none (Skipped l) none other = absurd (omega (arith, none))
acts-none (Wrote l len) none other = absurd (omega (arith, none))

looked-back : (a b : IntakeState) → OnlyLooked a b → (deeds : List Deed) → StandsAfter b deeds → StandsAfter a deeds
looked-back a b looked deeds stands = record {
  few = stands.few;
  received = sym looked.end.received ∙ stands.received;
  lists = λ l below. ap (λ xs. slice_get xs l) (sym looked.lists) ∙ stands.lists l below;
}

-- nothing is known once nothing was found
pub empty-of : (c : ℕ) (u v : Option ShareState) (o p : OutboxState) (step : Step) → TakesOf c u v o p step → step ≡ Nothing
    → (part : ShareState) → v ≡ Some part → part.intake.end.known ≡ []
empty-of c None None o p step takes none part is = absurd (none_some part is)
empty-of c None (Some t) o p step takes none part is = elim takes [ ]
empty-of c (Some s) None o p step takes none part is = elim takes [ ]
empty-of c (Some s) (Some t) o p step takes none part is =
    let item = subst (λ z. TakesItem s.intake t.intake o p s.number c z) none takes.1 in
    subst (λ (q : ShareState). q.intake.end.known ≡ []) (some_inj t part is) item.1

-- the sample that found no room
pub record IsHeld (v : Option ShareState) (p : OutboxState) : Type 0 where
  pub part : ShareState
  pub sample : SampleParts
  pub len : ℕ
  pub part_is : v ≡ Some part
  pub next : HoldsNext part.intake.end sample len
  pub passes : Passes part.intake sample.list
  pub no_room : HasNoRoom p len

pub held-of : (c : ℕ) (u v : Option ShareState) (o p : OutboxState) (step : Step) → TakesOf c u v o p step → step ≡ Full → IsHeld v p
held-of c None None o p step takes full = absurd (not-full (sym takes.0 ∙ full)) where
  not-full : Nothing ≡ Full → ⊥
  not-full e = cc
held-of c None (Some t) o p step takes full = elim takes [ ]
held-of c (Some s) None o p step takes full = elim takes [ ]
held-of c (Some s) (Some t) o p step takes full =
    let (sample, len, looked, next, passes, room, out) = subst (λ z. TakesItem s.intake t.intake o p s.number c z) full takes.1 in
    record {
      part = t;
      sample = sample;
      len = len;
      part_is = refl;
      next = next;
      passes = λ deeds stands. passes deeds (looked-back s.intake t.intake looked deeds stands);
      no_room = subst (λ q. HasNoRoom q len) (sym out) room;
    }

parts : (n : ℕ) (a b : SlaveState) (c : ℕ) (u v : Option ShareState) → newest_at a c ≡ u → newest_at b c ≡ v → LooksTimes n u v → LooksAt n a b c
parts n a b c u v was is looks = subst (λ z. LooksTimes n z (newest_at b c)) (sym was) (subst (λ z. LooksTimes n u z) (sym is) looks)

-- one look at the newest ring of an event channel
pub looks-once : (v w : SlaveState) (xs : List ChannelState) (o : OutboxState) (c n : ℕ) (step : Step) → w ≡ v → n ≡ acts_of step → c < length w.channels
    → is_spent v ≡ false → IsOnlyAt (TakesFromNewer c w.outbox o step) c w.channels xs → LooksOnce v (record w { outbox = o; channels = xs; acts = w.acts + n }) c step
looks-once v w xs o c n step same is_n below fresh only =
    let (x, was) = some-at w.channels c below in
    let (y, is) = some-at xs c (omega (arith, below, only.as_many)) in
    let one = only.here x y was is in
    let b : SlaveState = record w { outbox = o; channels = xs; acts = w.acts + n } in
    let part : newest_at w c ≡ x.newer = ap newest_part was in
    let next : newest_at b c ≡ y.newer = ap newest_part is in
    subst (λ (z : SlaveState). LooksOnce z b c step) same
    (record {
      nothing = λ none. inr (λ state part at part_is.
          empty-of c x.newer y.newer w.outbox o step one.takes none part (ap (λ (z : ChannelState). z.newer) (some_inj y state (sym is ∙ at)) ∙ part_is));
      full = λ full.
          let held = held-of c x.newer y.newer w.outbox o step one.takes full in
          record {
            state = y;
            part = held.part;
            sample = held.sample;
            len = held.len;
            state_is = is;
            part_is = held.part_is;
            next = held.next;
            passes = held.passes;
            no_room = held.no_room;
          };
      others = only.others;
      counted = ap (λ k. w.acts + k) is_n;
      spent = λ is. absurd (false≢true (sym (ap (λ (z : SlaveState). is_spent z) same ∙ fresh) ∙ is));
      turn = λ is other. parts 1 w b c x.newer y.newer part next (looks-turn c x.newer y.newer w.outbox o step one.takes other);
      held = λ full. parts 0 w b c x.newer y.newer part next (looks-held c x.newer y.newer w.outbox o step one.takes full);
    })

-- a look at the ring of an event channel's measurement before it
pub keeps-older : (v w : SlaveState) (xs : List ChannelState) (o : OutboxState) (c n : ℕ) (step : Step) → w ≡ v → c < length w.channels
    → IsOnlyAt (TakesFromOlder c w.outbox o step) c w.channels xs → KeepsNewest v (record w { outbox = o; channels = xs; acts = w.acts + n })
keeps-older v w xs o c n step same below only =
    let (x, was) = some-at w.channels c below in
    let (y, is) = some-at xs c (omega (arith, below, only.as_many)) in
    let one = only.here x y was is in
    let b : SlaveState = record w { outbox = o; channels = xs; acts = w.acts + n } in
    let here : newest_at b c ≡ newest_at w c = ap newest_part is ∙ ap (λ (z : ChannelState). z.newer) one.rest ∙ sym (ap newest_part was) in
    subst (λ (z : SlaveState). KeepsNewest z b) same
    (record {
      newest = λ k.
          elim (eqb_tells k c) [
            | inl e ↦ subst (λ j. newest_at b j ≡ newest_at w j) (sym e.1) here
            | inr e ↦ ap newest_part (only.others k e.1)
          ];
      next = refl;
    })

-- the same sample finds no room, wherever the next look begins
pub held-next : (s : SlaveState) (c k : ℕ) → IsHeldUp s c → IsHeldUp (record s { next = k }) c
held-next s c k held = record {
  state = held.state;
  part = held.part;
  sample = held.sample;
  len = held.len;
  state_is = held.state_is;
  part_is = held.part_is;
  next = held.next;
  passes = held.passes;
  no_room = held.no_room;
}

-- a slave that is spent looks at nothing
pub looks-not : (a : SlaveState) (c : ℕ) → is_spent a ≡ true → LooksOnce a a c Nothing
looks-not a c spent = record {
  nothing = λ none. inl spent;
  full = λ full. absurd (not-full full);
  others = λ k other. refl;
  counted = omega arith;
  spent = λ is. refl;
  turn = λ fresh. absurd (false≢true (sym fresh ∙ spent));
  held = λ full. absurd (not-full full);
} where
  not-full : Nothing ≡ Full → ⊥
  not-full e = cc

-- where nothing was counted so far, nothing is known at the rings so far
abbrev pub IsQuiet : SlaveState → SlaveState → ℕ → ℕ → Type 0
IsQuiet f a begin c = a.acts ≡ f.acts → (is_spent a ≡ true) ⊎ ((k : ℕ) → begin ≤ k → k < c → IsEmptyAt a k)

pub quiet-none : (f a : SlaveState) (begin c : ℕ) → c ≤ begin → IsQuiet f a begin c
quiet-none f a begin c none = λ e. inr (λ k low high. absurd (omega (arith, none, low, high)))

pub quiet-more : (f a b : SlaveState) (begin c : ℕ) (step : Step) → LooksOnce a b c step → step ≢ Full → f.acts ≤ a.acts → IsQuiet f a begin c → IsQuiet f b begin (c + 1)
quiet-more f a b begin c step looks other grows quiet = λ e.
    let same : a.acts ≡ f.acts = omega (arith, looks.counted, grows, e) in
    let zero_acts : acts_of step ≡ 0 = omega (arith, looks.counted, grows, e) in
    elim (quiet same) [
      | inl spent ↦ inl (still-spent a b (omega (arith, looks.counted)) spent)
      | inr before ↦
          elim (looks.nothing (acts-none step zero_acts other)) [
            | inl spent ↦ inl spent
            | inr here ↦ inr (λ k low high.
                elim (eqb_tells k c) [
                  | inl w ↦ subst (λ j. IsEmptyAt b j) (sym w.1) here
                  | inr w ↦ λ state part at is. before k low (below k c high w.1) state part (sym (looks.others k w.1) ∙ at) is
                ])
          ]
    ] where
      below : (k c : ℕ) → k < c + 1 → k ≢ c → k < c
      below k c high other =
          elim (leb_tells (k + 1) c) [
            | inl t ↦ omega (arith, t.1)
            | inr t ↦ absurd (other (omega (arith, t.1, high)))
          ]

-- a round that took nothing found nothing at any of its rings
pub round-empty : (f b : SlaveState) (begin c : ℕ) → length b.channels ≤ c → IsQuiet f b (min begin (length b.channels)) c → b.acts ≡ f.acts → b.next ≡ 0 → EndsRound f b begin Empty
round-empty f b begin c all quiet same first = (
  first,
  elim (quiet same) [
    | inl spent ↦ inl spent
    | inr none ↦ inr (λ k low state part at is.
        let within = slice_get_within b.channels k state at in
        none k (omega (arith, low)) (omega (arith, within, all)) state part at is)
  ],
)

-- a round that wasn't the last took something, but for the first one
pub went-more : (f a b : SlaveState) (begin rounds : ℕ) (r : Round) → EndsRound a b begin r → (r ≡ Took) ⊎ ((r ≡ Empty) × (0 < begin)) → f.acts ≤ a.acts → a.acts ≤ b.acts
    → (rounds ≡ 0) ⊎ ((begin ≡ 0) × (f.acts + PER_ACT * (rounds - 1) ≤ a.acts)) → f.acts + PER_ACT * (rounds + 1 - 1) ≤ b.acts
went-more f a b begin rounds r ends kind from grows went =
    elim kind [
      | inl took ↦
          let more : a.acts + PER_ACT ≤ b.acts = (subst (EndsRound a b begin) took ends).1 in
          elim went [
            | inl none ↦ omega (arith, none, from, grows)
            | inr w ↦ let so_far = w.1 in omega (arith, more, so_far)
          ]
      | inr late ↦
          elim went [
            | inl none ↦ omega (arith, none, from, grows)
            | inr w ↦ let behind = late.1 in let first_round = w.0 in absurd (omega (arith, behind, first_round))
          ]
    ]

-- and the next one begins at the first ring
pub next-first : (a b : SlaveState) (begin : ℕ) (r : Round) → EndsRound a b begin r → (r ≡ Took) ⊎ ((r ≡ Empty) × (0 < begin)) → b.next ≡ 0
next-first a b begin r ends kind =
    elim kind [
      | inl took ↦ (subst (EndsRound a b begin) took ends).0
      | inr late ↦ (subst (EndsRound a b begin) late.0 ends).0
    ]

pub next-empty : (a b : SlaveState) (begin : ℕ) (r : Round) → EndsRound a b begin r → r ≡ Empty → b.next ≡ 0
next-empty a b begin r ends empty = (subst (EndsRound a b begin) empty ends).0

-- and the last one looked through all
pub through-last : (f a b : SlaveState) (begin : ℕ) (r : Round) → EndsRound a b begin r → (r ≡ HeldUp) ⊎ ((r ≡ Empty) × (begin ≡ 0)) → LooksThrough f b
through-last f a b begin r ends kind =
    elim kind [
      | inl held ↦ inl (subst (EndsRound a b begin) held ends)
      | inr empty ↦
          let zero_begin = empty.1 in
          let (first, found) = subst (EndsRound a b begin) empty.0 ends in
          elim found [
            | inl spent ↦ inr (first, inr (inl spent))
            | inr all ↦ inr (first, inl (λ c. all c (omega (arith, zero_begin))))
          ]
    ]

-- or there were 1,024 rounds
pub through-many : (f b : SlaveState) (begin rounds : ℕ) → rounds ≡ 1024 → (rounds ≡ 0) ⊎ ((begin ≡ 0) × (f.acts + PER_ACT * (rounds - 1) ≤ b.acts)) → b.next ≡ 0 → FairSoFar f b rounds → LooksThrough f b
through-many f b begin rounds many went first fair =
    elim went [
      | inl none ↦ absurd (omega (arith, many, none))
      | inr w ↦ let so_far = w.1 in elim (looked-through f b rounds many fair) [
        | inl spent ↦ inr (first, inr (inl spent))
        | inr looks ↦ inr (first, inr (inr (omega (arith, many, so_far), looks)))
      ]
    ]
