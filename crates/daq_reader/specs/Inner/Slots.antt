-- Where the entries of an ODT stand among its elements.
use Rattle.std.specs.Prelude.{◌≡◌, ℕ, ◌+◌, ◌≤◌, List, [], ◌∷◌, map, take, sum_by}
use Rattle.copy_plan.specs.Config.{OdtEntry}
use Rattle.daq_reader.specs.declared.slots.Slot.{Slot}
use Rattle.daq_reader.specs.declared.slots.Slots.TheInside.{Inside}

abbrev pub entry_of : Slot → OdtEntry
entry_of s = (s.in_image, s.size)

-- the bytes of some entries
abbrev pub bytes_of : List OdtEntry → ℕ
bytes_of es = sum_by (λ (e : OdtEntry). e.1) es

-- the entries one behind another, from a place on
abbrev pub laid_out : ℕ → List OdtEntry → List Slot
laid_out start [] = []
laid_out start (e ∷ es) =
    record { in_image = e.0; size = e.1; start = start } ∷ laid_out (start + e.1) es

abbrev pub slots_view : Inside → List OdtEntry
slots_view a = map entry_of a.slots.items

pub record AreLaidOut (a : Inside) : Type 0 where
  pub slots : a.slots.items ≡ laid_out 0 (slots_view a)
  pub len : a.len ≡ bytes_of (slots_view a)

-- a slot is that of entry i: it stands behind those before, and within all
pub record IsSlotAt (es : List OdtEntry) (i : ℕ) (s : Slot) : Type 0 where
  pub start : s.start ≡ bytes_of (take i es)
  pub within : s.start + s.size ≤ bytes_of es
