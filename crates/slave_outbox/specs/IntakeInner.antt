-- What no public clause cites: what is kept of each DAQ list, and the parts of a step.
use Rattle.std.specs.Prelude.{◌≡◌, ◌≢◌, ℕ, ◌+◌, ◌<◌, min, ◌&&◌, Bool, true, false, not, nat_lt}
use Rattle.std.specs.Prelude.{List, [], ◌∷◌, ◌++◌, slice_get, Some}
use mathlib.Core.List.{IsPrefix}
use Rattle.xcp_base.specs.Samples.{MarkParts, SampleParts}
use Rattle.xcp_base.specs.declared.item.Item.{Item}
use Rattle.xcp_base.specs.declared.item.Item.TheVariants.{Marker, Sample}
use Rattle.xcp_base.specs.declared.limits.TheConstants.{MAX_LISTS}
use Rattle.frame_ring.specs.Ends.{TakeState}
use Rattle.frame_ring.specs.Heads.{head_of, item_head}
use Rattle.frame_page.specs.Pages.{PageState}
use Rattle.slave_outbox.specs.Steps.{HoldsNext, LaysOut}
use Rattle.slave_outbox.specs.declared.origin.Origin.{Origin}
use Rattle.slave_outbox.specs.declared.origin.Origin.TheVariants as origin
use Rattle.slave_outbox.specs.declared.list_intake.ListIntake.{ListIntake}
use Rattle.slave_outbox.specs.declared.step.Step.{Step}
use Rattle.slave_outbox.specs.declared.step.Step.TheVariants.{Full, Marked, Nothing, Skipped}
use Rattle.slave_outbox.specs.declared.step.Step.TheVariants.{Wrote}

-- a count as 64 bits keep it
abbrev pub capped : ℕ → ℕ
capped n = min n 0xFFFFFFFFFFFFFFFF

-- what is kept of a list behind an order, a marker, a sample, one that was thrown away
abbrev pub started : ListIntake → ListIntake
started x = record x { runs = true }

abbrev pub stopped : ListIntake → ListIntake
stopped x = record x { runs = false; stops = capped (x.stops + 1) }

abbrev pub marked : ListIntake → ListIntake
marked x = record x { marks = capped (x.marks + 1) }

abbrev pub wrote : ListIntake → ListIntake
wrote x = record x { written = capped (x.written + 1) }

abbrev pub threw : ListIntake → ListIntake
threw x = record x { unsent = capped (x.unsent + 1) }

-- a sample of a list of which this is kept is written
abbrev pub lets_pass : ListIntake → Bool
lets_pass x = x.runs && not (nat_lt x.marks x.stops)

-- what is kept of list l changed so, and nothing else
pub record Changes (a b : List ListIntake) (l : ℕ) (f : ListIntake → ListIntake) : Type 0 where
  pub here : (x : ListIntake) → slice_get a l ≡ Some x → slice_get b l ≡ Some (f x)
  pub others : (k : ℕ) → k ≢ l → slice_get b k ≡ slice_get a k

-- the first item was taken, which is this one, as its head told
pub record LetsGo (t u : TakeState) (x : Item) : Type 0 where
  pub told : head_of t.front ≡ item_head x
  pub gains : u.received ≡ t.received ++ x ∷ []
  pub first : IsPrefix t.known (x ∷ u.known)
  pub ring : u.ring ≡ t.ring

-- a list lets samples pass, or doesn't
pub record LetsPass (lists : List ListIntake) (l : ℕ) (may : Bool) : Type 0 where
  pub below : l < MAX_LISTS
  pub kept : ListIntake
  pub found : slice_get lists l ≡ Some kept
  pub may_is : may ≡ lets_pass kept

-- what the first item comes to, of which the head is known, if it is one of measurement m and event
-- channel c
abbrev pub TakesHead :
    TakeState → TakeState → List ListIntake → PageState Origin → PageState Origin → ℕ → ℕ → ℕ
    → Step → Type 0
TakesHead t u lists p q m c room Nothing = ⊥
TakesHead t u lists p q m c room Full =
    (s : SampleParts) × (len : ℕ) × HoldsNext t s len × LetsPass lists s.list true
    × (room < len) × (u ≡ t) × (q ≡ p)
TakesHead t u lists p q m c room (Marked l) =
    (x : MarkParts) × LetsGo t u (Marker x) × (l ≡ x.list) × (l < MAX_LISTS) × (q ≡ p)
TakesHead t u lists p q m c room (Skipped l) =
    (s : SampleParts) × LetsGo t u (Sample s) × (l ≡ s.list) × LetsPass lists l false × (q ≡ p)
TakesHead t u lists p q m c room (Wrote l len) =
    (s : SampleParts) × LetsGo t u (Sample s) × (l ≡ s.list) × LetsPass lists l true
    × LaysOut p q s (origin.Sample m c l) len room

-- what is kept of the lists behind a step
abbrev pub Notes : List ListIntake → List ListIntake → Step → Type 0
Notes a b Nothing = b ≡ a
Notes a b Full = b ≡ a
Notes a b (Marked l) = Changes a b l marked
Notes a b (Skipped l) = b ≡ a
Notes a b (Wrote l len) = Changes a b l wrote

-- a step is of a list that there may be
abbrev pub IsOfList : Step → Type 0
IsOfList Nothing = Unit {0}
IsOfList Full = Unit {0}
IsOfList (Marked l) = l < MAX_LISTS
IsOfList (Skipped l) = l < MAX_LISTS
IsOfList (Wrote l len) = l < MAX_LISTS
