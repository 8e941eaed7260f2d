-- The rings of the measurements before the newest are looked at.
use Rattle.std.proofs.Common.{◌≡◌, ◌≢◌, ◌⊎◌, ℕ, ◌+◌, ◌<◌, ◌≤◌, Bool, true, false, List, [], length, refl, sym, ap, ◌∙◌, subst, arith, inl, inr}
use Rattle.std.specs.Prelude.{Option, Some, None, slice_get}
use Rattle.std.specs.Option.{is_some}
use Rattle.std.proofs.lemmas.Bool.Decides.{eqb_tells, leb_tells}
use Rattle.std.proofs.lemmas.Option.{slice_get_past}
use Rattle.slave_outbox.specs.declared.step.Step.{Step}
use Rattle.slave_outbox.specs.declared.step.Step.TheVariants.{Full, Nothing}
use Rattle.slave_outbox.specs.Outboxes.{OutboxState}
use Rattle.slave_channels.specs.Channels.{ChannelState, ShareState, TakesOf}
use Rattle.slave_channels.specs.Calls.{TakesFromNewer, TakesFromOlder}
use Rattle.slave_channels.specs.Each.{IsOnlyAt}
use Rattle.slave.specs.Hearing.{is_spent}
use Rattle.slave.specs.Inner.{KeepsOlder, LetsGoThere, LooksOlder}
use Rattle.slave.specs.Standing.{SlaveState}
use Rattle.slave.specs.Taking.{HasRunning, LetsGo, LetsGoAt, LooksTimes, known_of, older_at, older_part}
use Rattle.slave.proofs.FairLemmas.{looks-more, looks-nowhere, looks-same, looks-turn, prefix-length, still-spent}
use Rattle.slave.proofs.OutLemmas.{some-at}
use Rattle.slave.proofs.RoundLemmas.{empty-of, held-of}

below : (k c : ℕ) → k < c + 1 → k ≢ c → k < c
below k c high other =
    elim (leb_tells (k + 1) c) [
      | inl t ↦ omega (arith, t.1)
      | inr t ↦ absurd (other (omega (arith, t.1, high)))
    ]

-- where nothing is known any more, a look more is none
looks-any : (n k : ℕ) (a b : Option ShareState) → n ≤ k → known_of b ≡ [] → LooksTimes n a b → LooksTimes k a b
looks-any n k a b low none looks =
    let front = prefix-length (known_of a) (known_of b) looks.taken looks.in_order in
    let nothing = ap length none in
    let few = looks.most in
    record {
      taken = looks.taken;
      gains = looks.gains;
      in_order = looks.in_order;
      most = omega (arith, few, low);
      fewer = λ less. omega (arith, front, nothing);
    }

none-known : (c : ℕ) (u v : Option ShareState) (o p : OutboxState) (step : Step) → TakesOf c u v o p step → step ≡ Nothing → known_of v ≡ []
none-known c u None o p step takes none = refl
none-known c u (Some t) o p step takes none = empty-of c u (Some t) o p step takes none t refl

running-of : (c : ℕ) (u v : Option ShareState) (o p : OutboxState) (step : Step) → TakesOf c u v o p step → step ≡ Full → HasRunning v
running-of c u v o p step takes full =
    let held = held-of c u v o p step takes full in
    subst HasRunning (sym held.part_is) (held.sample, held.next.first, held.passes)

-- one look
pub looks-older : (v w : SlaveState) (xs : List ChannelState) (o : OutboxState) (c n : ℕ) (step : Step) → w ≡ v → c < length w.channels
    → IsOnlyAt (TakesFromOlder c w.outbox o step) c w.channels xs → LooksOlder v (record w { outbox = o; channels = xs; acts = w.acts + n }) c step
looks-older v w xs o c n step same low only =
    let (x, was) = some-at w.channels c low in
    let (y, is) = some-at xs c (omega (arith, low, only.as_many)) in
    let one = only.here x y was is in
    let b : SlaveState = record w { outbox = o; channels = xs; acts = w.acts + n } in
    let before : older_at w c ≡ x.older = ap older_part was in
    let behind : older_at b c ≡ y.older = ap older_part is in
    subst (λ (z : SlaveState). LooksOlder z b c step) same
    (record {
      nothing = λ none. inr (ap known_of behind ∙ none-known c x.older y.older w.outbox o step one.takes none);
      full = λ full. subst HasRunning (sym behind) (running-of c x.older y.older w.outbox o step one.takes full);
      turn = λ other. inr
          (subst (λ z. LooksTimes 1 z (older_at b c)) (sym before)
          (subst (λ z. LooksTimes 1 x.older z) (sym behind) (looks-turn c x.older y.older w.outbox o step one.takes other)));
      others = λ k other. ap older_part (only.others k other);
    })

-- a slave that is spent looks at nothing
pub older-not : (a : SlaveState) (c : ℕ) → is_spent a ≡ true → LooksOlder a a c Nothing
older-not a c spent = record {
  nothing = λ none. inl spent;
  full = λ full. absurd (not-full full);
  turn = λ other. inl spent;
  others = λ k other. refl;
} where
  not-full : Nothing ≡ Full → ⊥
  not-full e = cc

-- a look at the newest ring leaves them all
pub keeps-others : (v w : SlaveState) (xs : List ChannelState) (o : OutboxState) (c n : ℕ) (step : Step) → w ≡ v → c < length w.channels
    → IsOnlyAt (TakesFromNewer c w.outbox o step) c w.channels xs → KeepsOlder v (record w { outbox = o; channels = xs; acts = w.acts + n })
keeps-others v w xs o c n step same low only =
    let (x, was) = some-at w.channels c low in
    let (y, is) = some-at xs c (omega (arith, low, only.as_many)) in
    let one = only.here x y was is in
    let b : SlaveState = record w { outbox = o; channels = xs; acts = w.acts + n } in
    let here : older_at b c ≡ older_at w c = ap older_part is ∙ ap (λ (z : ChannelState). z.older) one.rest ∙ sym (ap older_part was) in
    subst (λ (z : SlaveState). KeepsOlder z b) same
    (λ k.
    elim (eqb_tells k c) [
      | inl e ↦ subst (λ j. older_at b j ≡ older_at w j) (sym e.1) here
      | inr e ↦ ap older_part (only.others k e.1)
    ])

-- so many looks at one event channel so far
pub record OlderSoFar (n : ℕ) (f s : SlaveState) (c : ℕ) : Type 0 where
  pub looks : (is_spent s ≡ true) ⊎ LooksTimes n (older_at f c) (older_at s c)
  pub others : (k : ℕ) → k ≢ c → older_at s k ≡ older_at f k

pub older-begins : (f : SlaveState) (c : ℕ) → OlderSoFar 0 f f c
older-begins f c = record { looks = inr (looks-same (older_at f c)); others = λ k other. refl }

pub older-more : (n : ℕ) (f a b : SlaveState) (c : ℕ) (step : Step) → LooksOlder a b c step → step ≢ Full → a.acts ≤ b.acts → OlderSoFar n f a c → OlderSoFar (n + 1) f b c
older-more n f a b c step once other grows so_far = record {
  looks =
      elim so_far.looks [
        | inl spent ↦ inl (still-spent a b grows spent)
        | inr looks ↦
            elim (once.turn other) [
              | inl spent ↦ inl spent
              | inr turn ↦ inr (looks-more n 1 (older_at f c) (older_at a c) (older_at b c) looks turn)
            ]
      ];
  others = λ k away. once.others k away ∙ so_far.others k away;
}

-- it ends where nothing is known, where a list runs, or behind 1,024 looks
pub older-nothing : (n : ℕ) (f a b : SlaveState) (c : ℕ) (step : Step) → n < 1024 → LooksOlder a b c step → step ≡ Nothing → a.acts ≤ b.acts → OlderSoFar n f a c → LetsGoThere f b c
older-nothing n f a b c step few once none grows so_far =
    let now = older-more n f a b c step once (λ full. not-full (sym none ∙ full)) grows so_far in
    record {
      there =
          elim (once.nothing none) [
            | inl spent ↦ inl spent
            | inr empty ↦
                elim now.looks [
                  | inl spent ↦ inl spent
                  | inr looks ↦ inr (inl (looks-any (n + 1) 1024 (older_at f c) (older_at b c) (omega (arith, few)) empty looks))
                ]
          ];
      others = now.others;
    } where
      not-full : Nothing ≡ Full → ⊥
      not-full e = cc

pub older-full : (n : ℕ) (f a b : SlaveState) (c : ℕ) (step : Step) → LooksOlder a b c step → step ≡ Full → OlderSoFar n f a c → LetsGoThere f b c
older-full n f a b c step once full so_far = record { there = inr (inr (once.full full)); others = λ k away. once.others k away ∙ so_far.others k away }

pub older-done : (n : ℕ) (f s : SlaveState) (c : ℕ) → n ≡ 1024 → OlderSoFar n f s c → LetsGoThere f s c
older-done n f s c all so_far = record {
  there =
      elim so_far.looks [
        | inl spent ↦ inl spent
        | inr looks ↦ inr (inl (subst (λ m. LooksTimes m (older_at f c) (older_at s c)) all looks))
      ];
  others = so_far.others;
}

-- the event channels below c were let go
pub record GoneSoFar (f s : SlaveState) (c : ℕ) : Type 0 where
  pub there : (is_spent s ≡ true) ⊎ ((k : ℕ) → k < c → LetsGoAt f s k)
  pub others : (k : ℕ) → c ≤ k → older_at s k ≡ older_at f k

pub gone-begins : (f : SlaveState) → GoneSoFar f f 0
gone-begins f = record { there = inr (λ k low. absurd (omega (arith, low))); others = λ k high. refl }

-- the same, where the ring was another before, or is another now
at-from : (f a b : SlaveState) (k : ℕ) → older_at a k ≡ older_at f k → LetsGoAt a b k → LetsGoAt f b k
at-from f a b k same (inl looks) = inl (subst (λ z. LooksTimes 1024 z (older_at b k)) same looks)
at-from f a b k same (inr running) = inr running

at-to : (f a b : SlaveState) (k : ℕ) → older_at b k ≡ older_at a k → LetsGoAt f a k → LetsGoAt f b k
at-to f a b k same (inl looks) = inl (subst (λ z. LooksTimes 1024 (older_at f k) z) (sym same) looks)
at-to f a b k same (inr running) = inr (subst HasRunning (sym same) running)

pub gone-more : (f a b : SlaveState) (c : ℕ) → LetsGoThere a b c → a.acts ≤ b.acts → GoneSoFar f a c → GoneSoFar f b (c + 1)
gone-more f a b c here grows so_far = record {
  there =
      elim so_far.there [
        | inl spent ↦ inl (still-spent a b grows spent)
        | inr before ↦
            elim here.there [
              | inl spent ↦ inl spent
              | inr goes ↦ inr (λ k high.
                  elim (eqb_tells k c) [
                    | inl e ↦ subst (λ j. LetsGoAt f b j) (sym e.1) (at-from f a b c (so_far.others c (omega arith)) goes)
                    | inr e ↦ at-to f a b k (here.others k e.1) (before k (below k c high e.1))
                  ])
            ]
      ];
  others = λ k high. here.others k (λ e. omega (arith, high, e)) ∙ so_far.others k (omega (arith, high));
}

pub gone-all : (f s : SlaveState) (c : ℕ) → length f.channels ≤ c → length s.channels ≤ c → GoneSoFar f s c → LetsGo f s
gone-all f s c was is so_far =
    elim so_far.there [
      | inl spent ↦ inl spent
      | inr there ↦ inr (λ k.
          elim (leb_tells (k + 1) c) [
            | inl w ↦ there k (omega (arith, w.1))
            | inr w ↦
                let before : older_at f k ≡ None = ap older_part (slice_get_past f.channels k (omega (arith, was, w.1))) in
                let behind : older_at s k ≡ None = ap older_part (slice_get_past s.channels k (omega (arith, is, w.1))) in
                inl (subst (λ z. LooksTimes 1024 z (older_at s k)) (sym before) (subst (λ z. LooksTimes 1024 None z) (sym behind) (looks-nowhere 1024)))
          ])
    ]

-- and are so while these rings stay
pub gone-still : (f a b : SlaveState) → KeepsOlder a b → a.acts ≤ b.acts → LetsGo f a → LetsGo f b
gone-still f a b keeps grows (inl spent) = inl (still-spent a b grows spent)
gone-still f a b keeps grows (inr goes) = inr (λ k. at-to f a b k (keeps k) (goes k))

-- where there is no such part, nothing is to be let go
pub none-there : (f : SlaveState) (c : ℕ) → older_at f c ≡ None → LetsGoThere f f c
none-there f c none = record {
  there = inr (inl (looks-any 0 1024 (older_at f c) (older_at f c) (omega arith) (ap known_of none) (looks-same (older_at f c))));
  others = λ k other. refl;
}

not-some : {X : Type 0} (o : Option X) → is_some o ≡ false → o ≡ None
not-some None away = refl
not-some (Some x) away = absurd (cc)

pub none-older : (f : SlaveState) (c : ℕ) (has : Bool) → c < length f.channels → ((x : ChannelState) → slice_get f.channels c ≡ Some x → has ≡ is_some x.older) → has ≡ false → older_at f c ≡ None
none-older f c has low tells away =
    let (x, was) = some-at f.channels c low in
    ap older_part was ∙ not-some x.older (sym (tells x was) ∙ away)
