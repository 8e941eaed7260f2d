-- The DAQ pointer: SET_DAQ_PTR, and WRITE_DAQ and READ_DAQ, which move it on. An allocation and
-- CLEAR_DAQ_LIST make it undefined.
use Rattle.std.specs.Prelude.{ℕ, ◌+◌, ◌==◌, ◌&&◌, nat_lt, Bool, false, if◌then◌else◌, List, [], ◌∷◌}
use Rattle.std.specs.Prelude.{Option, Some, None, option_and_then}
use Rattle.daq_store.specs.declared.command.Command.{Command}
use Rattle.daq_store.specs.declared.command.Command.TheVariants.{AllocDaq, AllocOdt, AllocOdtEntry}
use Rattle.daq_store.specs.declared.command.Command.TheVariants.{ClearDaqList, ReadDaq}
use Rattle.daq_store.specs.declared.command.Command.TheVariants.{SetDaqPtr, WriteDaq}
use Rattle.daq_store.specs.Shape.{entry_count}

-- the last call among the allocations, CLEAR_DAQ_LIST and SET_DAQ_PTR is a SET_DAQ_PTR of this
-- place: list, ODT, entry
abbrev pub set_place : List Command → Option (ℕ × ℕ × ℕ)
set_place [] = None
set_place (AllocDaq count ∷ earlier) = None
set_place (AllocOdt list count ∷ earlier) = None
set_place (AllocOdtEntry list odt count ∷ earlier) = None
set_place (ClearDaqList list ∷ earlier) = None
set_place (SetDaqPtr list odt entry ∷ earlier) = Some (list, odt, entry)
set_place (_ ∷ earlier) = set_place earlier

-- the number of writes and reads since the last SET_DAQ_PTR
abbrev pub steps_since : List Command → ℕ
steps_since [] = 0
steps_since (SetDaqPtr list odt entry ∷ earlier) = 0
steps_since (WriteDaq bit size ext addr ∷ earlier) = steps_since earlier + 1
steps_since (ReadDaq ∷ earlier) = steps_since earlier + 1
steps_since (_ ∷ earlier) = steps_since earlier

-- the place (l, k, e), if that entry exists
abbrev pub entry_at : List Command → ℕ → ℕ → ℕ → Option (ℕ × ℕ × ℕ)
entry_at calls l k e = if nat_lt e (entry_count calls l k) then Some (l, k, e) else None

-- the pointer: as many entries after the place that was set as writes and reads came since, if that
-- entry exists
abbrev pub pointer : List Command → Option (ℕ × ℕ × ℕ)
pointer calls =
    option_and_then (λ p. entry_at calls p.0 p.1 (p.2 + steps_since calls)) (set_place calls)

-- the pointer is at entry e of ODT k of list l
abbrev pub points_at : Option (ℕ × ℕ × ℕ) → ℕ → ℕ → ℕ → Bool
points_at None l k e = false
points_at (Some p) l k e = p.0 == l && p.1 == k && p.2 == e
