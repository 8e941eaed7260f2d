-- Which DAQ lists are selected, and which run: START_STOP_DAQ_LIST and START_STOP_SYNCH. Mode 0
-- stops, 1 starts and 2 selects; in START_STOP_SYNCH 0 stops all lists, 1 starts and 2 stops those
-- that are selected. CLEAR_DAQ_LIST stops its list and ends its selection.
use Rattle.std.specs.Prelude.{ℕ, ◌==◌, ◌&&◌, ◌||◌, not, Bool, false, if◌then◌else◌, List, [], ◌∷◌}
use Rattle.std.specs.List.{list_any}
use Rattle.daq_store.specs.declared.command.Command.{Command}
use Rattle.daq_store.specs.declared.command.Command.TheVariants.{AllocDaq, StartStopDaqList}
use Rattle.daq_store.specs.declared.command.Command.TheVariants.{StartStopSynch, ClearDaqList}
use Rattle.daq_store.specs.Calls.{numbers_below}
use Rattle.daq_store.specs.Shape.{list_count, is_list}

-- list l is selected where the last START_STOP_DAQ_LIST or CLEAR_DAQ_LIST of l, START_STOP_SYNCH or
-- ALLOC_DAQ is a START_STOP_DAQ_LIST of mode 2
abbrev pub is_selected : List Command → ℕ → Bool
is_selected [] l = false
is_selected (AllocDaq count ∷ earlier) l = false
is_selected (StartStopSynch mode ∷ earlier) l = false
is_selected (StartStopDaqList mode list ∷ earlier) l =
    if list == l then mode == 2 else is_selected earlier l
is_selected (ClearDaqList list ∷ earlier) l = if list == l then false else is_selected earlier l
is_selected (_ ∷ earlier) l = is_selected earlier l

-- list l runs where, among ALLOC_DAQ, CLEAR_DAQ_LIST of l, the starts and stops of l, the stop of
-- all lists, and the starts and stops of the selected lists at which l was selected, the last is a
-- start
abbrev pub is_running : List Command → ℕ → Bool
is_running [] l = false
is_running (AllocDaq count ∷ earlier) l = false
is_running (StartStopDaqList mode list ∷ earlier) l =
    if list == l && not (mode == 2) then mode == 1 else is_running earlier l
is_running (StartStopSynch mode ∷ earlier) l =
    if mode == 0 || is_selected earlier l then mode == 1 else is_running earlier l
is_running (ClearDaqList list ∷ earlier) l = if list == l then false else is_running earlier l
is_running (_ ∷ earlier) l = is_running earlier l

-- list l exists and runs, exists and is selected
abbrev pub is_active : List Command → ℕ → Bool
is_active calls l = is_list calls l && is_running calls l

abbrev pub is_chosen : List Command → ℕ → Bool
is_chosen calls l = is_list calls l && is_selected calls l

-- some list passes the test
abbrev pub any_list : List Command → (ℕ → Bool) → Bool
any_list calls test = list_any test (numbers_below (list_count calls))
