-- The rings of the newest measurement are looked at by turns.
use Rattle.std.proofs.Common.{◌≡◌, ◌≢◌, ◌⊎◌, ℕ, ◌+◌, ◌-◌, ◌<◌, ◌≤◌, true, List, [], ◌∷◌, ◌++◌, append-nil, append_assoc, length, length-append, slice_get, refl, sym, ap, ◌∙◌, subst, arith, inl, inr}
use Rattle.std.specs.Prelude.{Option, Some, None}
use mathlib.Core.List.{IsPrefix}
use Rattle.std.proofs.lemmas.Bool.{false≢true}
use Rattle.std.proofs.lemmas.Bool.Decides.{eqb_tells, leb_tells}
use Rattle.std.proofs.lemmas.Option.{slice_get_past}
use Rattle.xcp_base.specs.declared.item.Item.{Item}
use Rattle.slave_outbox.specs.Intakes.{OnlyLooked}
use Rattle.slave_outbox.specs.Steps.{Takes}
use Rattle.slave_outbox.specs.declared.step.Step.{Step}
use Rattle.slave_outbox.specs.declared.step.Step.TheVariants.{Full, Marked, Nothing, Skipped, Wrote}
use Rattle.slave_outbox.specs.Outboxes.{OutboxState}
use Rattle.slave_outbox.specs.Taking.{TakesItem}
use Rattle.slave_channels.specs.Channels.{ShareState, TakesOf}
use Rattle.slave.specs.Hearing.{is_spent}
use Rattle.slave.specs.Inner.{EndsAt, GoesRound, KeepsNewest, LooksFrom, LooksOnce}
use Rattle.slave.specs.Standing.{SlaveState}
use Rattle.slave.specs.Taking.{LooksAt, LooksTimes, TakesFairly, known_of, newest_at, newest_part, received_of}
use Rattle.slave.specs.declared.round.Round.{Round}
use Rattle.slave.specs.declared.round.Round.TheVariants.{Empty, HeldUp, Took}
use Rattle.slave.specs.declared.limits.TheConstants.{MOST_ACTS}

-- what is spent stays so
pub still-spent : (a b : SlaveState) → a.acts ≤ b.acts → is_spent a ≡ true → is_spent b ≡ true
still-spent a b grows spent =
    elim (leb_tells MOST_ACTS b.acts) [
      | inl w ↦ w.0
      | inr w ↦
          elim (leb_tells MOST_ACTS a.acts) [
            | inl t ↦ absurd (omega (arith, t.1, w.1, grows))
            | inr t ↦ absurd (false≢true (sym t.0 ∙ spent))
          ]
    ]

-- the front of what is behind some items, and of what is behind some more
prefix-more : (xs ys zs ts us : List Item) → IsPrefix xs (ts ++ ys) → IsPrefix ys (us ++ zs) → IsPrefix xs (ts ++ us ++ zs)
prefix-more xs ys zs ts us (ps, one) (qs, two) = (
  ps ++ qs,
  sym (append_assoc xs ps qs) ∙ ap (λ z. z ++ qs) one ∙ append_assoc ts ys qs ∙ ap (λ z. ts ++ z) two ∙ sym (append_assoc ts us zs),
)

pub prefix-length : (xs ys ts : List Item) → IsPrefix xs (ts ++ ys) → length xs ≤ length ts + length ys
prefix-length xs ys ts (ps, one) = omega (arith, length-append xs ps, length-append ts ys, ap length one)

-- the round came to this event channel
comes-to : (end begin c : ℕ) → begin ≤ c → c ≤ end → (end ≡ begin) ⊎ (end ≡ c) → end ≡ c
comes-to end begin c low high (inl first) = omega (arith, low, high, first)
comes-to end begin c low high (inr here) = here

-- so many looks, said otherwise
pub looks-as : (n k : ℕ) (a b : Option ShareState) → n ≡ k → LooksTimes n a b → LooksTimes k a b
looks-as n k a b same looks = subst (λ m. LooksTimes m a b) same looks

pub looks-same : (a : Option ShareState) → LooksTimes 0 a a
looks-same a = record {
  taken = [];
  gains = sym (append-nil (received_of a));
  in_order = ([], append-nil (known_of a));
  most = omega arith;
  fewer = λ less. absurd (omega (arith, less));
}

-- where there is no part, any number of looks finds nothing
pub looks-nowhere : (n : ℕ) → LooksTimes n None None
looks-nowhere n = record { taken = []; gains = refl; in_order = ([], refl); most = omega arith; fewer = λ less. omega arith }

-- looks, and then others
pub looks-more : (n k : ℕ) (a m b : Option ShareState) → LooksTimes n a m → LooksTimes k m b → LooksTimes (n + k) a b
looks-more n k a m b one two =
    let all = length-append one.taken two.taken in
    let front = prefix-length (known_of a) (known_of m) one.taken one.in_order in
    let few = one.most in
    let few_more = two.most in
    record {
      taken = one.taken ++ two.taken;
      gains = two.gains ∙ ap (λ xs. xs ++ two.taken) one.gains ∙ append_assoc (received_of a) one.taken two.taken;
      in_order = prefix-more (known_of a) (known_of m) (known_of b) one.taken two.taken one.in_order two.in_order;
      most = omega (arith, all, few, few_more);
      fewer = λ less.
          elim (leb_tells n (length one.taken)) [
            | inl w ↦ let rest = two.fewer (omega (arith, all, less, w.1, few)) in omega (arith, all, front, rest)
            | inr w ↦ let none = one.fewer w.1 in omega (arith, all, none)
          ];
    }

-- a look that took nothing, one that found nothing, and one that took an item
looks-only : (s t : ShareState) → OnlyLooked s.intake t.intake → LooksTimes 0 (Some s) (Some t)
looks-only s t looked = record {
  taken = [];
  gains = looked.end.received ∙ sym (append-nil s.intake.end.received);
  in_order = looked.end.grows;
  most = omega arith;
  fewer = λ less. absurd (omega (arith, less));
}

looks-empty : (s t : ShareState) → OnlyLooked s.intake t.intake → t.intake.end.known ≡ [] → LooksTimes 1 (Some s) (Some t)
looks-empty s t looked none =
    let front = prefix-length s.intake.end.known t.intake.end.known [] looked.end.grows in
    let nothing = ap length none in
    record {
      taken = [];
      gains = looked.end.received ∙ sym (append-nil s.intake.end.received);
      in_order = looked.end.grows;
      most = omega arith;
      fewer = λ less. omega (arith, front, nothing);
    }

looks-took : (s t : ShareState) (x : Item) → Takes s.intake t.intake x → LooksTimes 1 (Some s) (Some t)
looks-took s t x takes = record {
  taken = x ∷ [];
  gains = takes.gains;
  in_order = takes.first_known;
  most = omega arith;
  fewer = λ less. absurd (omega (arith, less));
}

looks-item : (s t : ShareState) (o p : OutboxState) (m c : ℕ) (step : Step) → TakesItem s.intake t.intake o p m c step → step ≢ Full → LooksTimes 1 (Some s) (Some t)
looks-item s t o p m c Nothing (looked, none, out) other = looks-empty s t looked none
looks-item s t o p m c Full takes other = absurd (other refl)
looks-item s t o p m c (Marked l) (mark, takes, list, out) other = looks-took s t _ takes
looks-item s t o p m c (Skipped l) (sample, takes, list, held, out) other = looks-took s t _ takes
looks-item s t o p m c (Wrote l len) (sample, takes, list, passes, each, room, lays) other = looks-took s t _ takes

pub looks-turn : (c : ℕ) (u v : Option ShareState) (o p : OutboxState) (step : Step) → TakesOf c u v o p step → step ≢ Full → LooksTimes 1 u v
looks-turn c None None o p step takes other = looks-nowhere 1
looks-turn c None (Some t) o p step takes other = elim takes [ ]
looks-turn c (Some s) None o p step takes other = elim takes [ ]
looks-turn c (Some s) (Some t) o p step takes other = looks-item s t o p s.number c step takes.1 other

pub looks-held : (c : ℕ) (u v : Option ShareState) (o p : OutboxState) (step : Step) → TakesOf c u v o p step → step ≡ Full → LooksTimes 0 u v
looks-held c None None o p step takes full = looks-nowhere 0
looks-held c None (Some t) o p step takes full = elim takes [ ]
looks-held c (Some s) None o p step takes full = elim takes [ ]
looks-held c (Some s) (Some t) o p step takes full =
    let (sample, len, looked, next, passes, room, out) = subst (λ z. TakesItem s.intake t.intake o p s.number c z) full takes.1 in
    looks-only s t looked

-- where a round begins: the first where the look was to begin, and the others at the first ring
abbrev pub Begins : SlaveState → ℕ → ℕ → Type 0
Begins a rounds begin = ((rounds ≡ 0) × (begin ≡ a.next)) ⊎ ((0 < rounds) × (begin ≡ 0))

-- the newest parts are as they were
pub keeps-all : (a : SlaveState) → KeepsNewest a a
keeps-all a = record { newest = λ c. refl; next = refl }

pub keeps-more : (a m b : SlaveState) → KeepsNewest a m → KeepsNewest m b → KeepsNewest a b
keeps-more a m b one two = record { newest = λ c. two.newest c ∙ one.newest c; next = two.next ∙ one.next }

-- a round that was whole
whole : (b : SlaveState) (end begin : ℕ) (r : Round) → EndsAt b end r → (r ≡ Took) ⊎ ((r ≡ Empty) × (0 < begin)) → length b.channels ≤ end
whole b end begin r ends (inl took) = subst (EndsAt b end) took ends
whole b end begin r ends (inr late) = subst (EndsAt b end) late.0 ends

-- nothing was taken where the part stays
pub looks-still : (a b : SlaveState) (c : ℕ) → newest_at b c ≡ newest_at a c → LooksAt 0 a b c
looks-still a b c same = subst (λ z. LooksTimes 0 (newest_at a c) z) (sym same) (looks-same (newest_at a c))

-- behind the last event channel there is none
looks-outside : (n : ℕ) (a b : SlaveState) (c : ℕ) → length a.channels ≤ c → length b.channels ≤ c → LooksAt n a b c
looks-outside n a b c before behind =
    let was : newest_at a c ≡ None = ap newest_part (slice_get_past a.channels c before) in
    let is : newest_at b c ≡ None = ap newest_part (slice_get_past b.channels c behind) in
    subst (λ z. LooksTimes n z (newest_at b c)) (sym was) (subst (λ z. LooksTimes n None z) (sym is) (looks-nowhere n))

-- n looks, and then k more, are so many
then : (n k j : ℕ) (a m b : SlaveState) (c : ℕ) → n + k ≡ j → LooksAt n a m c → LooksAt k m b c → LooksAt j a b c
then n k j a m b c sum one two = looks-as (n + k) j (newest_at a c) (newest_at b c) sum (looks-more n k (newest_at a c) (newest_at m c) (newest_at b c) one two)

same-channel : (a b : SlaveState) (k : ℕ) → slice_get b.channels k ≡ slice_get a.channels k → newest_at b k ≡ newest_at a k
same-channel a b k same = ap newest_part same

-- where nothing more is taken, the same holds
from-still : (begin end : ℕ) (f a b : SlaveState) → ((c : ℕ) → LooksAt 0 a b c) → LooksFrom begin end f a → LooksFrom begin end f b
from-still begin end f a b still looks = record {
  before = λ c low. then 0 0 0 f a b c refl (looks.before c low) (still c);
  there = λ c low high. then 1 0 1 f a b c refl (looks.there c low high) (still c);
  behind = λ c high. then 0 0 0 f a b c refl (looks.behind c high) (still c);
}

-- a round so far
pub record RoundSoFar (f s : SlaveState) (begin c : ℕ) : Type 0 where
  pub end : ℕ
  pub reach : begin ≤ end
  pub looks : LooksFrom begin end f s
  pub at : ((c ≤ end) × ((end ≡ begin) ⊎ (end ≡ c))) ⊎ (is_spent s ≡ true)
  pub spent : is_spent f ≡ true → (k : ℕ) → LooksAt 0 f s k

pub round-begins : (f : SlaveState) (begin c : ℕ) → c ≤ begin → RoundSoFar f f begin c
round-begins f begin c low = record {
  end = begin;
  reach = omega arith;
  looks = record {
    before = λ k below. looks-still f f k refl;
    there = λ k above below. absurd (omega (arith, above, below));
    behind = λ k above. looks-still f f k refl;
  };
  at = inl (low, inl refl);
  spent = λ is k. looks-still f f k refl;
}

-- a slave that is spent takes nothing
spent-still : (a b : SlaveState) (c : ℕ) (step : Step) → LooksOnce a b c step → is_spent a ≡ true → (k : ℕ) → LooksAt 0 a b k
spent-still a b c step looks spent k = looks-still a b k (ap (λ (z : SlaveState). newest_at z k) (looks.spent spent))

-- nor is anything taken of a ring that is held up
held-still : (a b : SlaveState) (c : ℕ) (step : Step) → LooksOnce a b c step → step ≡ Full → (k : ℕ) → LooksAt 0 a b k
held-still a b c step looks full k =
    elim (eqb_tells k c) [
      | inl w ↦ subst (λ j. LooksAt 0 a b j) (sym w.1) (looks.held full)
      | inr w ↦ looks-still a b k (same-channel a b k (looks.others k w.1))
    ]

still-more : (f a b : SlaveState) → f.acts ≤ a.acts → (is_spent a ≡ true → (k : ℕ) → LooksAt 0 a b k) → (is_spent f ≡ true → (k : ℕ) → LooksAt 0 f a k)
    → is_spent f ≡ true → (k : ℕ) → LooksAt 0 f b k
still-more f a b grows next before spent k = then 0 0 0 f a b k refl (before spent k) (next (still-spent f a grows spent) k)

-- one look more
from-more : (f a b : SlaveState) (begin c : ℕ) (step : Step) → LooksOnce a b c step → LooksAt 1 a b c → begin ≤ c → LooksFrom begin c f a → LooksFrom begin (c + 1) f b
from-more f a b begin c step once turn reach looks = record {
  before = λ k low. then 0 0 0 f a b k refl (looks.before k low) (still k (λ e. omega (arith, reach, low, e)));
  there = λ k low high.
      elim (eqb_tells k c) [
        | inl w ↦ subst (λ j. LooksAt 1 f b j) (sym w.1) (then 0 1 1 f a b c refl (looks.behind c (omega arith)) turn)
        | inr w ↦ then 1 0 1 f a b k refl (looks.there k low (below k c high w.1)) (still k w.1)
      ];
  behind = λ k high. then 0 0 0 f a b k refl (looks.behind k (omega (arith, high))) (still k (λ e. omega (arith, high, e)));
} where
  still : (k : ℕ) → k ≢ c → LooksAt 0 a b k
  still k other = looks-still a b k (same-channel a b k (once.others k other))

  below : (k c : ℕ) → k < c + 1 → k ≢ c → k < c
  below k c high other =
      elim (leb_tells (k + 1) c) [
        | inl t ↦ omega (arith, t.1)
        | inr t ↦ absurd (other (omega (arith, t.1, high)))
      ]

pub round-goes-on : (f a b : SlaveState) (begin c : ℕ) (step : Step) → LooksOnce a b c step → step ≢ Full → begin ≤ c → f.acts ≤ a.acts → RoundSoFar f a begin c → RoundSoFar f b begin (c + 1)
round-goes-on f a b begin c step once other low grows so_far =
    let stays = still-more f a b grows (spent-still a b c step once) so_far.spent in
    let counts : a.acts ≤ b.acts = omega (arith, once.counted) in
    elim (leb_tells MOST_ACTS a.acts) [
      | inl w ↦ record {
        end = so_far.end;
        reach = so_far.reach;
        looks = from-still begin so_far.end f a b (spent-still a b c step once w.0) so_far.looks;
        at = inr (still-spent a b counts w.0);
        spent = stays;
      }
      | inr w ↦
          elim so_far.at [
            | inl at ↦
                let here = comes-to so_far.end begin c low at.0 at.1 in
                record {
                  end = c + 1;
                  reach = omega (arith, low);
                  looks = from-more f a b begin c step once (once.turn w.0 other) low (subst (λ e. LooksFrom begin e f a) here so_far.looks);
                  at = inl (omega arith, inr refl);
                  spent = stays;
                }
            | inr spent ↦ absurd (false≢true (sym w.0 ∙ spent))
          ]
    ]

-- it ends at a ring that is held up
pub round-held : (f a b : SlaveState) (begin c : ℕ) (step : Step) → LooksOnce a b c step → step ≡ Full → begin ≤ c → f.acts ≤ a.acts → RoundSoFar f a begin c → GoesRound f (record b { next = c }) begin HeldUp
round-held f a b begin c step once full low grows so_far =
    let counts : a.acts ≤ b.acts = omega (arith, once.counted) in
    let n : SlaveState = record b { next = c } in
    let still : (k : ℕ) → LooksAt 0 a n k = held-still a b c step once full in
    let looks : LooksFrom begin so_far.end f n = from-still begin so_far.end f a n still so_far.looks in
    let spent : is_spent f ≡ true → (k : ℕ) → LooksAt 0 f n k = still-more f a n grows (λ is. still) so_far.spent in
    record {
      end = so_far.end;
      reach = so_far.reach;
      looks = looks;
      ends =
          elim so_far.at [
            | inl at ↦ inl (sym (comes-to so_far.end begin c low at.0 at.1))
            | inr is ↦ inr (still-spent a n counts is)
          ];
      spent = spent;
    }

-- or behind the last
pub round-done : (f s : SlaveState) (begin c : ℕ) (r : Round) → ((end : ℕ) → length s.channels ≤ end → EndsAt (record s { next = 0 }) end r) → length s.channels ≤ c → RoundSoFar f s begin c → GoesRound f (record s { next = 0 }) begin r
round-done f s begin c r ends all so_far = record {
  end = so_far.end;
  reach = so_far.reach;
  looks = record { before = so_far.looks.before; there = so_far.looks.there; behind = so_far.looks.behind };
  ends =
      elim so_far.at [
        | inl at ↦ inl (ends so_far.end (let high = at.0 in omega (arith, all, high)))
        | inr is ↦ inr is
      ];
  spent = so_far.spent;
}

-- so many whole rounds, of which the first began where the look was to begin
pub record Rounds (a s : SlaveState) (rounds : ℕ) : Type 0 where
  pub low : (c : ℕ) → c < a.next → LooksAt (rounds - 1) a s c
  pub high : (c : ℕ) → a.next ≤ c → LooksAt rounds a s c

pub no-rounds : (a s : SlaveState) → KeepsNewest a s → Rounds a s 0
no-rounds a s keeps = record { low = λ c below. looks-still a s c (keeps.newest c); high = λ c above. looks-still a s c (keeps.newest c) }

-- a whole round more
rounds-more : (a m b : SlaveState) (rounds begin end : ℕ) → Begins a rounds begin → LooksFrom begin end m b → length a.channels ≤ end → length b.channels ≤ end → Rounds a m rounds → Rounds a b (rounds + 1)
rounds-more a m b rounds begin end begins looks was is so_far = elim begins [
  | inl first ↦
      let none = first.0 in
      let from = first.1 in
      record {
        low = λ c below. then (rounds - 1) 0 (rounds + 1 - 1) a m b c (omega (arith, none)) (so_far.low c below) (looks.before c (omega (arith, below, from)));
        high = λ c above.
            elim (leb_tells (c + 1) end) [
              | inl w ↦ then rounds 1 (rounds + 1) a m b c refl (so_far.high c above) (looks.there c (omega (arith, above, from)) (omega (arith, w.1)))
              | inr w ↦ looks-outside (rounds + 1) a b c (omega (arith, was, w.1)) (omega (arith, is, w.1))
            ];
      }
  | inr later ↦
      let some = later.0 in
      let from = later.1 in
      record {
        low = λ c below.
            elim (leb_tells (c + 1) end) [
              | inl w ↦ then (rounds - 1) 1 (rounds + 1 - 1) a m b c (omega (arith, some)) (so_far.low c below) (looks.there c (omega (arith, from)) (omega (arith, w.1)))
              | inr w ↦ looks-outside (rounds + 1 - 1) a b c (omega (arith, was, w.1)) (omega (arith, is, w.1))
            ];
        high = λ c above.
            elim (leb_tells (c + 1) end) [
              | inl w ↦ then rounds 1 (rounds + 1) a m b c refl (so_far.high c above) (looks.there c (omega (arith, from)) (omega (arith, w.1)))
              | inr w ↦ looks-outside (rounds + 1) a b c (omega (arith, was, w.1)) (omega (arith, is, w.1))
            ];
      }
]

-- some rounds, and a part of one more
fair-part : (a m b : SlaveState) (rounds begin end : ℕ) → Begins a rounds begin → begin ≤ end → LooksFrom begin end m b → (b.next ≡ end) ⊎ (is_spent b ≡ true) → Rounds a m rounds → TakesFairly a b
fair-part a m b rounds begin end begins reach looks next so_far = elim begins [
  | inl first ↦
      let none = first.0 in
      let from = first.1 in
      record {
        rounds = 0;
        end = end;
        once_more = λ c between.
            elim between [
              | inl w ↦ let (low, high) = w in then rounds 1 1 a m b c (omega (arith, none)) (so_far.high c low) (looks.there c (omega (arith, from, low)) high)
              | inr w ↦ let past = w.0 in absurd (omega (arith, past, from, reach))
            ];
        others = λ c not_between.
            elim (leb_tells a.next c) [
              | inl w ↦
                  elim (leb_tells end c) [
                    | inl v ↦ then rounds 0 0 a m b c (omega (arith, none)) (so_far.high c w.1) (looks.behind c v.1)
                    | inr v ↦ absurd (not_between (inl (w.1, v.1)))
                  ]
              | inr w ↦ then (rounds - 1) 0 0 a m b c (omega (arith, none)) (so_far.low c w.1) (looks.before c (omega (arith, w.1, from)))
            ];
        next = next;
      }
  | inr later ↦
      let some = later.0 in
      let from = later.1 in
      elim (leb_tells a.next end) [
        | inl far ↦ record {
          rounds = rounds;
          end = end;
          once_more = λ c between.
              elim between [
                | inl w ↦ let (low, high) = w in then rounds 1 (rounds + 1) a m b c refl (so_far.high c low) (looks.there c (omega (arith, from)) high)
                | inr w ↦ let past = w.0 in absurd (omega (arith, past, far.1))
              ];
          others = λ c not_between.
              elim (leb_tells a.next c) [
                | inl w ↦
                    elim (leb_tells end c) [
                      | inl v ↦ then rounds 0 rounds a m b c (omega arith) (so_far.high c w.1) (looks.behind c v.1)
                      | inr v ↦ absurd (not_between (inl (w.1, v.1)))
                    ]
                | inr w ↦ then (rounds - 1) 1 rounds a m b c (omega (arith, some)) (so_far.low c w.1) (looks.there c (omega (arith, from)) (omega (arith, w.1, far.1)))
              ];
          next = next;
        }
        | inr near ↦ record {
          rounds = rounds - 1;
          end = end;
          once_more = λ c between.
              elim between [
                | inl w ↦ let (low, high) = w in absurd (omega (arith, low, high, near.1))
                | inr w ↦
                    elim w.1 [
                      | inl low ↦ then rounds 0 (rounds - 1 + 1) a m b c (omega (arith, some)) (so_far.high c low) (looks.behind c (omega (arith, low, near.1)))
                      | inr high ↦ then (rounds - 1) 1 (rounds - 1 + 1) a m b c refl (so_far.low c (omega (arith, high, near.1))) (looks.there c (omega (arith, from)) high)
                    ]
              ];
          others = λ c not_between.
              elim (leb_tells a.next c) [
                | inl w ↦ absurd (not_between (inr (near.1, inl w.1)))
                | inr w ↦
                    elim (leb_tells end c) [
                      | inl v ↦ then (rounds - 1) 0 (rounds - 1) a m b c (omega arith) (so_far.low c w.1) (looks.behind c v.1)
                      | inr v ↦ absurd (not_between (inr (near.1, inr v.1)))
                    ]
              ];
          next = next;
        }
      ]
]

-- whole rounds, behind which the next look begins at the first ring
fair-whole : (a b : SlaveState) (rounds : ℕ) → 0 < rounds → b.next ≡ 0 → Rounds a b rounds → TakesFairly a b
fair-whole a b rounds some next so_far = elim (leb_tells 1 a.next) [
  | inl w ↦ record {
    rounds = rounds - 1;
    end = 0;
    once_more = λ c between.
        elim between [
          | inl v ↦ let high = v.1 in absurd (omega (arith, high))
          | inr v ↦
              elim v.1 [
                | inl low ↦ looks-as rounds (rounds - 1 + 1) (newest_at a c) (newest_at b c) (omega (arith, some)) (so_far.high c low)
                | inr high ↦ absurd (omega (arith, high))
              ]
        ];
    others = λ c not_between.
        elim (leb_tells a.next c) [
          | inl v ↦ absurd (not_between (inr (omega (arith, w.1), inl v.1)))
          | inr v ↦ so_far.low c v.1
        ];
    next = inl next;
  }
  | inr w ↦ record {
    rounds = rounds;
    end = 0;
    once_more = λ c between.
        elim between [
          | inl v ↦ let high = v.1 in absurd (omega (arith, high))
          | inr v ↦ let past = v.0 in absurd (omega (arith, past, w.1))
        ];
    others = λ c not_between. so_far.high c (omega (arith, w.1));
    next = inl next;
  }
]

-- a slave that is spent takes nothing more
fair-still : (a m b : SlaveState) → ((c : ℕ) → LooksAt 0 m b c) → is_spent b ≡ true → TakesFairly a m → TakesFairly a b
fair-still a m b still spent fair = record {
  rounds = fair.rounds;
  end = fair.end;
  once_more = λ c between. then (fair.rounds + 1) 0 (fair.rounds + 1) a m b c (omega arith) (fair.once_more c between) (still c);
  others = λ c not_between. then fair.rounds 0 fair.rounds a m b c (omega arith) (fair.others c not_between) (still c);
  next = inr spent;
}

-- so far: whole rounds, or it is spent
abbrev pub FairSoFar : SlaveState → SlaveState → ℕ → Type 0
FairSoFar a s rounds = Rounds a s rounds ⊎ ((is_spent s ≡ true) × TakesFairly a s)

pub fair-goes-on : (a m b : SlaveState) (rounds begin : ℕ) (r : Round) → GoesRound m b begin r → (r ≡ Took) ⊎ ((r ≡ Empty) × (0 < begin)) → Begins a rounds begin → m.acts ≤ b.acts → length b.channels ≡ length a.channels
    → FairSoFar a m rounds → FairSoFar a b (rounds + 1)
fair-goes-on a m b rounds begin r goes kind begins grows as_many (inl so_far) =
    elim goes.ends [
      | inl ends ↦
          let all = whole b goes.end begin r ends kind in
          inl (rounds-more a m b rounds begin goes.end begins goes.looks (omega (arith, all, as_many)) all so_far)
      | inr spent ↦ inr (spent, fair-part a m b rounds begin goes.end begins goes.reach goes.looks (inr spent) so_far)
    ]
fair-goes-on a m b rounds begin r goes kind begins grows as_many (inr is) =
    let spent = still-spent m b grows is.0 in
    inr (spent, fair-still a m b (goes.spent is.0) spent is.1)

-- the last round
pub fair-last : (a m b : SlaveState) (rounds begin : ℕ) (r : Round) → GoesRound m b begin r → (r ≡ HeldUp) ⊎ ((r ≡ Empty) × (begin ≡ 0)) → (r ≡ Empty → b.next ≡ 0) → Begins a rounds begin → m.acts ≤ b.acts → length b.channels ≡ length a.channels
    → FairSoFar a m rounds → TakesFairly a b
fair-last a m b rounds begin r goes kind first begins grows as_many (inl so_far) =
    elim goes.ends [
      | inl ends ↦
          elim kind [
            | inl held ↦ fair-part a m b rounds begin goes.end begins goes.reach goes.looks (inl (subst (EndsAt b goes.end) held ends)) so_far
            | inr empty ↦
                let all : length b.channels ≤ goes.end = subst (EndsAt b goes.end) empty.0 ends in
                fair-whole a b (rounds + 1) (omega arith) (first empty.0) (rounds-more a m b rounds begin goes.end begins goes.looks (omega (arith, all, as_many)) all so_far)
          ]
      | inr spent ↦ fair-part a m b rounds begin goes.end begins goes.reach goes.looks (inr spent) so_far
    ]
fair-last a m b rounds begin r goes kind first begins grows as_many (inr is) = fair-still a m b (goes.spent is.0) (still-spent m b grows is.0) is.1

-- or there were many
pub fair-many : (a b : SlaveState) (rounds : ℕ) → 0 < rounds → b.next ≡ 0 → FairSoFar a b rounds → TakesFairly a b
fair-many a b rounds some next (inl so_far) = fair-whole a b rounds some next so_far
fair-many a b rounds some next (inr is) = is.1

-- then each ring was looked at 1,023 times, or 1,024
pub looked-through : (a b : SlaveState) (rounds : ℕ) → rounds ≡ 1024 → FairSoFar a b rounds → (is_spent b ≡ true) ⊎ ((c : ℕ) → LooksAt 1023 a b c ⊎ LooksAt 1024 a b c)
looked-through a b rounds many (inl so_far) = inr (λ c.
    elim (leb_tells a.next c) [
      | inl w ↦ inr (looks-as rounds 1024 (newest_at a c) (newest_at b c) many (so_far.high c w.1))
      | inr w ↦ inl (looks-as (rounds - 1) 1023 (newest_at a c) (newest_at b c) (omega (arith, many)) (so_far.low c w.1))
    ])
looked-through a b rounds many (inr is) = inl is.0
