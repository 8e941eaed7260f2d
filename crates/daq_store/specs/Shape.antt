-- The phase, and how many DAQ lists, ODTs and ODT entries there are: ALLOC_DAQ, ALLOC_ODT,
-- ALLOC_ODT_ENTRY (ASAM MCD-1 XCP, protocol layer, dynamic DAQ configuration). A repeated
-- allocation replaces the count.
use Rattle.std.specs.Prelude.{ℕ, ◌==◌, ◌&&◌, nat_lt, Bool, true, false, if◌then◌else◌, List, []}
use Rattle.std.specs.Prelude.{◌∷◌, sum_by}
use Rattle.daq_store.specs.declared.command.Command.{Command}
use Rattle.daq_store.specs.declared.command.Command.TheVariants.{AllocDaq, AllocOdt, AllocOdtEntry}
use Rattle.daq_store.specs.declared.phase.Phase.{Phase}
use Rattle.daq_store.specs.declared.phase.Phase.TheVariants as phase
use Rattle.daq_store.specs.Calls.{numbers_below}

-- the phase is named by the last allocation
abbrev pub phase_of : List Command → Phase
phase_of [] = phase.Free
phase_of (AllocDaq count ∷ earlier) = phase.Daq
phase_of (AllocOdt list count ∷ earlier) = phase.Odt
phase_of (AllocOdtEntry list odt count ∷ earlier) = phase.Entry
phase_of (_ ∷ earlier) = phase_of earlier

-- the number of lists is that of the last ALLOC_DAQ
abbrev pub list_count : List Command → ℕ
list_count [] = 0
list_count (AllocDaq count ∷ earlier) = count
list_count (_ ∷ earlier) = list_count earlier

-- the number of ODTs of list l is that of the last ALLOC_ODT of l since the last ALLOC_DAQ
abbrev pub odt_count : List Command → ℕ → ℕ
odt_count [] l = 0
odt_count (AllocDaq count ∷ earlier) l = 0
odt_count (AllocOdt list count ∷ earlier) l = if list == l then count else odt_count earlier l
odt_count (_ ∷ earlier) l = odt_count earlier l

-- the number of entries of ODT k of list l is that of the last ALLOC_ODT_ENTRY of this ODT since
-- the last ALLOC_DAQ and the last ALLOC_ODT of l
abbrev pub entry_count : List Command → ℕ → ℕ → ℕ
entry_count [] l k = 0
entry_count (AllocDaq count ∷ earlier) l k = 0
entry_count (AllocOdt list count ∷ earlier) l k = if list == l then 0 else entry_count earlier l k
entry_count (AllocOdtEntry list odt count ∷ earlier) l k =
    if list == l && odt == k then count else entry_count earlier l k
entry_count (_ ∷ earlier) l k = entry_count earlier l k

-- there is such a list, such an ODT, such an entry
abbrev pub is_list : List Command → ℕ → Bool
is_list calls l = nat_lt l (list_count calls)

abbrev pub has_odt : List Command → ℕ → ℕ → Bool
has_odt calls l k = is_list calls l && nat_lt k (odt_count calls l)

abbrev pub has_entry : List Command → ℕ → ℕ → ℕ → Bool
has_entry calls l k e = has_odt calls l k && nat_lt e (entry_count calls l k)

-- the ODTs of the lists before l: FIRST_PID of l with an absolute ODT number
abbrev pub odts_before : List Command → ℕ → ℕ
odts_before calls l = sum_by (odt_count calls) (numbers_below l)

-- the phases in which ALLOC_DAQ, ALLOC_ODT, ALLOC_ODT_ENTRY are out of sequence
abbrev pub forbids_lists : Phase → Bool
forbids_lists phase.Odt = true
forbids_lists phase.Entry = true
forbids_lists _ = false

abbrev pub forbids_odts : Phase → Bool
forbids_odts phase.Free = true
forbids_odts phase.Entry = true
forbids_odts _ = false

abbrev pub forbids_entries : Phase → Bool
forbids_entries phase.Free = true
forbids_entries phase.Daq = true
forbids_entries _ = false
