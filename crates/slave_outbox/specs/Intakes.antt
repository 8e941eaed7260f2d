-- What contracts see of an intake, and what it stands after.
use Rattle.std.specs.Prelude.{◌≡◌, ℕ, ◌<◌, ◌≤◌, List, ◌∷◌, length, slice_get, Some}
use Rattle.xcp_base.specs.declared.limits.TheConstants.{MAX_LISTS, MAX_TAKEN}
use Rattle.frame_ring.specs.Ends.{LooksForItems, TakeState}
use Rattle.transmitter.specs.Items.{count_of}
use Rattle.slave_outbox.specs.Deeds.{Deed, marks_of, passed, runs, stops_of, taken, unsent_of}
use Rattle.slave_outbox.specs.declared.list_intake.ListIntake.{ListIntake}

-- the take end of the ring, and what is kept of each DAQ list
pub record IntakeState : Type 0 where
  pub end : TakeState
  pub lists : List ListIntake

-- what is kept of list l behind these deeds
abbrev pub list_after : List Deed → ℕ → ListIntake
list_after deeds l = record {
  runs = runs deeds l;
  stops = stops_of deeds l;
  marks = marks_of deeds l;
  written = count_of l (passed deeds);
  unsent = unsent_of deeds l;
}

-- an intake stands after these deeds, which are no more than 2^62
pub record StandsAfter (i : IntakeState) (deeds : List Deed) : Type 0 where
  pub few : length deeds ≤ MAX_TAKEN
  pub received : i.end.received ≡ taken deeds
  pub lists : (l : ℕ) → l < MAX_LISTS → slice_get i.lists l ≡ Some (list_after deeds l)

-- whatever the one stands after, short of 2^62 deeds, the other stands after that and this one
abbrev pub GoesOn : IntakeState → IntakeState → Deed → Type 0
GoesOn a b deed =
    (deeds : List Deed) → length deeds < MAX_TAKEN → StandsAfter a deeds
    → StandsAfter b (deed ∷ deeds)

-- nothing changed but what is known to be in the ring
pub record OnlyLooked (a b : IntakeState) : Type 0 where
  pub lists : b.lists ≡ a.lists
  pub end : LooksForItems a.end b.end
