-- A drain empties the rings in rounds.
use Rattle.std.specs.Prelude.{ℕ, zero, suc, ◌+◌, ◌≤◌, ◌≡◌, false, true}
use Rattle.std.specs.Prelude.{List, [], ◌∷◌, ◌++◌, drop, map, None, Some, Result, Ok, Err}
use mathlib.Core.List.{IsPrefix}
use Rattle.xcp_base.specs.Samples.{SampleParts}
use Rattle.xcp_base.specs.declared.limits.TheConstants.{MAX_TAKEN}
use Rattle.xcp_base.specs.declared.item.Item.{Item}
use Rattle.xcp_base.specs.declared.item.Item.TheVariants.{Sample}
use Rattle.transmitter.specs.Merge.{of_ring}
use Rattle.transmitter.specs.Pumps.{Leads}
use Rattle.transmitter.specs.Written.{TransmitterState}
use Rattle.transmitter.specs.declared.faults.PumpFault.{PumpFault}
use Rattle.transmitter.specs.declared.faults.PumpFault.TheVariants.{Closed, Failed, Spent}

-- the first item of each list that has one, in order, as that of ring c, c + 1, ..
abbrev pub round : ℕ → List (List Item) → List (ℕ × Item)
round c [] = []
round c ([] ∷ lists) = round (c + 1) lists
round c ((x ∷ xs) ∷ lists) = (c, x) ∷ round (c + 1) lists

-- the lists without their first items
abbrev pub without_first : List (List Item) → List (List Item)
without_first lists = map (λ (xs : List Item). drop 1 xs) lists

-- so many rounds: each is the first item left of each ring that has one
abbrev pub rounds : ℕ → List (List Item) → List (ℕ × Item)
rounds zero lists = []
rounds (suc n) lists = round 0 lists ++ rounds n (without_first lists)

-- transmitter b is a after it took these items, in rounds, of what was left in the rings; `sent`
-- has what was sent to each
pub record TakesInRounds (sent : List (List Item)) (a b : TransmitterState) : Type 0 where
  pub was_open : a.writer.closed ≡ false
  -- fixed by `leaves`
  pub left : List (List Item)
  pub leaves : (c : ℕ) → of_ring a.received c ++ of_ring left c ≡ of_ring sent c
  -- fixed by `in_rounds`, and by how many there are in `leads`
  pub taken : List (ℕ × Item)
  -- any: so many rounds that what was taken is in them
  pub turns : ℕ
  pub in_rounds : IsPrefix taken (rounds turns left)
  pub leads : Leads (record a { known = left }) taken b

-- the sample in hand is the last item that was taken
pub record EndsInHand (b : TransmitterState) (qs : List (ℕ × Item)) : Type 0 where
  -- fixed by `hand` and `last`
  pub sample : SampleParts
  pub ring : ℕ
  pub before : List (ℕ × Item)
  pub hand : b.hand ≡ Some sample
  pub last : qs ≡ before ++ (ring, Sample sample) ∷ []

-- the ring at which pumps that fill a buffer go on behind a drain that took these items: that of
-- before where it took none, else the first
abbrev pub next_behind : List (ℕ × Item) → ℕ → ℕ
next_behind [] next = next
next_behind (q ∷ qs) next = 0

-- what a drain does and answers: all that was sent was received; or the writer failed within the
-- sample taken last; or it was closed before, and nothing changed; or too many items were taken
abbrev pub Drains :
    List (List Item) → TransmitterState → TransmitterState → Result (Unit {0}) PumpFault → Type 0
Drains sent a b (Ok u) =
    (t : TakesInRounds sent a b) × (b.hand ≡ None)
    × ((c : ℕ) → of_ring b.received c ≡ of_ring sent c) × (b.next ≡ next_behind t.taken a.next)
Drains sent a b (Err Failed) = (t : TakesInRounds sent a b) × EndsInHand b t.taken
Drains sent a b (Err Closed) = (a.writer.closed ≡ true) × (b ≡ a)
Drains sent a b (Err Spent) =
    (t : TakesInRounds sent a b) × (b.hand ≡ None) × (MAX_TAKEN ≤ b.taken)
    × (b.next ≡ next_behind t.taken a.next)
