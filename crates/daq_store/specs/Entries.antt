-- The values of the ODT entries: WRITE_DAQ, READ_DAQ and CLEAR_DAQ_LIST.
use Rattle.std.specs.Prelude.{ℕ, ◌==◌, ◌&&◌, if◌then◌else◌, List, [], ◌∷◌, map, Option, Some, None}
use Rattle.std.specs.Prelude.{option_and_then}
use Rattle.daq_store.specs.declared.command.Command.{Command}
use Rattle.daq_store.specs.declared.command.Command.TheVariants.{AllocDaq, AllocOdt, AllocOdtEntry}
use Rattle.daq_store.specs.declared.command.Command.TheVariants.{ClearDaqList, WriteDaq}
use Rattle.daq_store.specs.declared.entry.Entry.{Entry}
use Rattle.daq_store.specs.Calls.{numbers_below}
use Rattle.daq_store.specs.Shape.{entry_count}
use Rattle.daq_store.specs.Pointer.{pointer, points_at}

-- an entry has the value of the last WRITE_DAQ at it since it was allocated and since the last
-- CLEAR_DAQ_LIST of its list; without one it is unwritten
abbrev pub last_write : List Command → ℕ → ℕ → ℕ → Option Entry
last_write [] l k e = None
last_write (AllocDaq count ∷ earlier) l k e = None
last_write (AllocOdt list count ∷ earlier) l k e =
    if list == l then None else last_write earlier l k e
last_write (AllocOdtEntry list odt count ∷ earlier) l k e =
    if list == l && odt == k then None else last_write earlier l k e
last_write (ClearDaqList list ∷ earlier) l k e =
    if list == l then None else last_write earlier l k e
last_write (WriteDaq bit size ext addr ∷ earlier) l k e =
    if points_at (pointer earlier) l k e
    then Some (record { extension = ext; address = addr; size = size })
    else last_write earlier l k e
last_write (_ ∷ earlier) l k e = last_write earlier l k e

-- the entry at the pointer, if it is written
abbrev pub pointed : List Command → Option Entry
pointed calls = option_and_then (λ p. last_write calls p.0 p.1 p.2) (pointer calls)

-- the entries of ODT k of list l
abbrev pub odt_of : List Command → ℕ → ℕ → List (Option Entry)
odt_of calls l k = map (last_write calls l k) (numbers_below (entry_count calls l k))
