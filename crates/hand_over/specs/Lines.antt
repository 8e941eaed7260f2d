-- A line between two threads: the one lends values, one behind another; the other fetches them, and
-- gives back what is left of each.
use Rattle.std.specs.Prelude.{◌≡◌, ℕ, false, List, [], ◌∷◌, ◌++◌, length}
use mathlib.Core.List.{IsPrefix}
use Rattle.channel_ring.specs.Ends.{RingName}
use Rattle.crossbeam_queue.specs.Passes.{Pass, view}
use Rattle.hand_over.specs.declared.known.Known.{Known}
use Rattle.hand_over.specs.declared.parcel.Parcel.{Parcel}
use Rattle.hand_over.specs.declared.parcel.Parcel.TheVariants.{Back, Begun}

-- the lender's end: the line's name; the values that are out, which were lent and neither recalled
-- nor came back, oldest first; what came back; and what is known to come next
pub record LenderState (T L : Type 0) : Type 0 where
  pub ring : RingName
  pub out : List T
  pub came : List L
  pub coming : List L

-- the borrower's end: the line's name, the values that were fetched, oldest first, and what was
-- given back, of each of them but perhaps the last
pub record BorrowerState (T L : Type 0) : Type 0 where
  pub ring : RingName
  pub fetched : List T
  pub gave : List L

module _ {T L : Type 0} where
  -- what is left, among parcels
  abbrev pub lefts : List (Parcel T L) → List L
  lefts [] = []
  lefts (Begun pass ∷ parcels) = lefts parcels
  lefts (Back left pass ∷ parcels) = left ∷ lefts parcels

  -- what is left of the n-th value that was fetched, by the rule; the pass shows that value, behind
  -- those before
  pub record IsLeftOf (leaves : T → L → Type 0) (first : Pass T (Known T)) (n : ℕ) (left : L)
      (shown : Pass T (Known T))
      : Type 0 where
    pub one_place : shown.table_id ≡ first.table_id
    pub none_out : shown.me.1 ≡ []
    pub lends_not : (view shown).lends ≡ false
    pub fetches_not : (view shown).fetches ≡ false
    pub before : List T
    pub value : T
    pub fetched : (view shown).fetched ≡ before ++ value ∷ []
    pub many : length before ≡ n
    pub by_rule : leaves value left

  -- a pass of the place comes first, then what is left of the values, one behind another
  abbrev pub Comes : (T → L → Type 0) → List (Parcel T L) → Parcel T L → Type 0
  Comes leaves [] (Begun pass) = Unit {0}
  Comes leaves (Begun pass ∷ backs) (Back left shown) =
      IsLeftOf leaves pass (length backs) left shown
  Comes leaves _ _ = ⊥

  -- what is left of the oldest value that was out came back
  pub record ComesBack (leaves : T → L → Type 0) (a b : LenderState T L) (left : L)
      : Type 0 where
    pub value : T
    pub oldest : a.out ≡ value ∷ b.out
    pub by_rule : leaves value left
    pub came : b.came ≡ a.came ++ left ∷ []
    pub known : IsPrefix a.coming (left ∷ b.coming)
    pub ring : b.ring ≡ a.ring

  -- this may be given back: it is left of the value that was fetched last, of which nothing was
  -- given back yet
  pub record MayGive (leaves : T → L → Type 0) (a : BorrowerState T L) (left : L) : Type 0 where
    pub before : List T
    pub value : T
    pub last : a.fetched ≡ before ++ value ∷ []
    pub many : length before ≡ length a.gave
    pub by_rule : leaves value left
