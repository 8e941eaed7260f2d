-- What no public clause cites: what each end of a line knows.
use Rattle.std.specs.Prelude.{◌≡◌, ℕ, ◌+◌, ◌<◌, ◌⊎◌, true, false, List, ◌∷◌, length}
use mathlib.Core.List.{IsPrefix}
use Rattle.crossbeam_queue.specs.Passes.{Pass, view}
use Rattle.hand_over.specs.declared.known.Known.{Known}
use Rattle.hand_over.specs.declared.parcel.Parcel.{Parcel}
use Rattle.hand_over.specs.declared.parcel.Parcel.TheVariants.{Begun}
use Rattle.hand_over.specs.Lines.{lefts}

module _ {T L : Type 0} where
  -- parcels of a line of whose place this is a pass: a pass of the place first, and then what is
  -- left of values
  pub record IsLine (pass : Pass T (Known T)) (parcels : List (Parcel T L)) : Type 0 where
    pub first : Pass T (Known T)
    pub backs : List (Parcel T L)
    pub begins : parcels ≡ Begun first ∷ backs
    pub one_place : first.table_id ≡ pass.table_id
    pub many : length (lefts backs) ≡ length backs

  -- the lender saw as many values fetched as came back
  pub record IsLender (pass : Pass T (Known T)) (received : List (Parcel T L)) : Type 0 where
    pub line : IsLine pass received
    pub lends : (view pass).lends ≡ true
    pub fetches_not : (view pass).fetches ≡ false
    pub seen : IsPrefix (view pass).fetched (view pass).lent
    pub many : length (view pass).fetched ≡ length (lefts received)

  -- something was given back of all values that were fetched, or of all but the last, for which
  -- there is room
  pub record IsBorrower (pass : Pass T (Known T)) (sent : List (Parcel T L)) (free : ℕ)
      : Type 0 where
    pub line : IsLine pass sent
    pub lends_not : (view pass).lends ≡ false
    pub fetches : (view pass).fetches ≡ true
    pub held :
        (length (view pass).fetched ≡ length (lefts sent))
        ⊎ ((length (view pass).fetched ≡ length (lefts sent) + 1) × (0 < free))
