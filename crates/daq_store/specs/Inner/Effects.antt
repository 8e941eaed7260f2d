-- What the private helpers of the store test and change.
use Rattle.std.specs.Prelude.{◌≡◌, ℕ, ◌+◌, ◌-◌, ◌==◌, ◌&&◌, ◌||◌, not, nat_lt, Bool, false}
use Rattle.std.specs.Prelude.{if◌then◌else◌, [], length, map, sum_by, slice_index_or, slice_set}
use Rattle.std.specs.Prelude.{replicate, List, Option, Some, None, is_none}
use Rattle.std.specs.List.{list_any}
use Rattle.xcp_base.specs.declared.limits.TheConstants.{MAX_LISTS}
use Rattle.xcp_base.specs.declared.packet_form.PacketForm.{PacketForm}
use Rattle.xcp_base.specs.Forms.{most_odts}
use Rattle.xcp_base.specs.declared.err_code.ErrCode.{ErrCode}
use Rattle.xcp_base.specs.declared.err_code.ErrCode.TheVariants.{DaqActive, OutOfRange}
use Rattle.xcp_base.specs.declared.err_code.ErrCode.TheVariants.{ModeNotValid, Sequence, DaqConfig}
use Rattle.xcp_base.specs.declared.err_code.ErrCode.TheVariants.{MemoryOverflow}
use Rattle.segments.specs.declared.segment.Segment.{Segment}
use Rattle.daq_store.specs.declared.command.Command.{Command}
use Rattle.daq_store.specs.declared.command.Command.TheVariants.{FreeDaq, AllocDaq, AllocOdt}
use Rattle.daq_store.specs.declared.command.Command.TheVariants.{AllocOdtEntry, SetDaqPtr, WriteDaq}
use Rattle.daq_store.specs.declared.command.Command.TheVariants.{SetDaqListMode, StartStopDaqList}
use Rattle.daq_store.specs.declared.command.Command.TheVariants.{StartStopSynch, ClearDaqList}
use Rattle.daq_store.specs.declared.command.Command.TheVariants.{ReadDaq}
use Rattle.daq_store.specs.declared.phase.Phase.TheVariants as phase
use Rattle.daq_store.specs.declared.mode.Mode.{Mode}
use Rattle.daq_store.specs.declared.entry.Entry.{Entry}
use Rattle.daq_store.specs.declared.list_state.ListState.{ListState}
use Rattle.daq_store.specs.Configuration.{fresh_conf, odt_entries, is_ready}
use Rattle.daq_store.specs.Shape.{forbids_lists, forbids_odts, forbids_entries}
use Rattle.daq_store.specs.Answer.{is_bad_entry}
use Rattle.daq_store.specs.Standing.{StoreState, conf_of, odts_of, shows_running}

-- a list as it is when it is allocated
abbrev pub fresh_state : PacketForm → ListState
fresh_state form = record { conf = fresh_conf form; running = false; selected = false }

-- the list at a place
abbrev pub list_at : StoreState → ℕ → ListState
list_at s l = slice_index_or s.lists l (fresh_state s.profile.form)

-- some list runs
abbrev pub some_runs : StoreState → Bool
some_runs s = list_any (λ x. x.running) s.lists

-- there is such a list, such an ODT, such an entry
abbrev pub shows_list : StoreState → ℕ → Bool
shows_list s l = nat_lt l (length s.lists)

abbrev pub shows_odt : StoreState → ℕ → ℕ → Bool
shows_odt s l k = nat_lt k (length (conf_of s l).odts)

abbrev pub shows_entry : StoreState → ℕ → ℕ → ℕ → Bool
shows_entry s l k e = nat_lt e (length (odt_entries (conf_of s l) k))

-- the ODTs of all lists but one
abbrev pub other_odts : StoreState → ℕ → ℕ
other_odts s l = sum_by odts_of s.lists - odts_of (list_at s l)

-- with n ODTs in list l, in place of those that it has, there would be too many
abbrev pub shows_too_many : StoreState → ℕ → ℕ → Bool
shows_too_many s l n =
    nat_lt s.profile.most_odts n || nat_lt (most_odts s.profile.form.id) (other_odts s l + n)

-- list l isn't ready
abbrev pub shows_unready : StoreState → ℕ → Bool
shows_unready s l = not (is_ready s.profile.segments (conf_of s l))

-- a list is selected and not ready
abbrev pub is_unready : List Segment → ListState → Bool
is_unready segments x = x.selected && not (is_ready segments x.conf)

-- there is no such list or channel, or the prescaler is 0
abbrev pub is_bad_target : StoreState → ℕ → ℕ → ℕ → Bool
is_bad_target s l channel prescaler =
    not (shows_list s l) || not (nat_lt channel s.profile.channels) || prescaler == 0

-- a mode byte with another bit than 0x10
abbrev pub is_bad_mode : ℕ → Bool
is_bad_mode mode = not (mode == 0 || mode == 0x10)

-- the pointer is defined, and its list runs
abbrev pub runs_at_pointer : StoreState → Option (ℕ × ℕ × ℕ) → Bool
runs_at_pointer s None = false
runs_at_pointer s (Some p) = shows_running s p.0

-- the first two checks of an allocation, where its phase forbids it or not
abbrev pub allocation_fault : StoreState → Bool → Option ErrCode
allocation_fault s forbidden =
    if some_runs s then Some DaqActive else if forbidden then Some Sequence else None

-- the first of two faults
abbrev pub or_else : Option ErrCode → Option ErrCode → Option ErrCode
or_else (Some code) next = Some code
or_else None next = next

-- the first check of a call that fails, on what the store shows
abbrev pub shown_fault : StoreState → Command → Option ErrCode
shown_fault s FreeDaq = None
shown_fault s (AllocDaq count) =
    or_else (allocation_fault s (forbids_lists s.phase))
    (if nat_lt MAX_LISTS count then Some MemoryOverflow else None)
shown_fault s (AllocOdt list count) =
    or_else (allocation_fault s (forbids_odts s.phase))
    (if not (shows_list s list) then Some OutOfRange
    else if shows_too_many s list count then Some MemoryOverflow else None)
shown_fault s (AllocOdtEntry list odt count) =
    or_else (allocation_fault s (forbids_entries s.phase))
    (if not (shows_odt s list odt) then Some OutOfRange
    else if nat_lt s.profile.most_entries count then Some MemoryOverflow else None)
shown_fault s (SetDaqPtr list odt entry) =
    if shows_running s list then Some DaqActive
    else if not (shows_entry s list odt entry) then Some OutOfRange else None
shown_fault s (WriteDaq bit size ext addr) =
    if runs_at_pointer s s.pointer then Some DaqActive
    else if is_none s.pointer then Some Sequence
    else if is_bad_entry s.profile bit size ext addr then Some OutOfRange else None
shown_fault s (SetDaqListMode mode list channel prescaler priority) =
    if shows_running s list then Some DaqActive
    else if is_bad_target s list channel prescaler then Some OutOfRange
    else if is_bad_mode mode then Some ModeNotValid else None
shown_fault s (StartStopDaqList mode list) =
    if not (shows_list s list) then Some OutOfRange
    else if nat_lt 2 mode then Some ModeNotValid
    else if mode == 1 && shows_unready s list then Some DaqConfig else None
shown_fault s (StartStopSynch mode) =
    if nat_lt 2 mode then Some ModeNotValid
    else if mode == 1 && list_any (is_unready s.profile.segments) s.lists then Some DaqConfig
    else None
shown_fault s (ClearDaqList list) = if not (shows_list s list) then Some OutOfRange else None
shown_fault s ReadDaq = if is_none s.pointer then Some Sequence else None

-- every check of the call passes, this check is the first to fail, on what the store shows
abbrev pub Passes : StoreState → Command → Type 0
Passes s call = shown_fault s call ≡ None

abbrev pub Fails : StoreState → Command → ErrCode → Type 0
Fails s call code = shown_fault s call ≡ Some code

-- the store with n fresh lists in place of all
abbrev pub lists_put : StoreState → ℕ → StoreState
lists_put s n =
    record s {
      lists = replicate n (fresh_state s.profile.form);
      pointer = None;
      phase = phase.Daq;
    }

-- a list with n ODTs without entries, with n unwritten entries in ODT k, with a mode, with a
-- written entry
abbrev pub with_odts : ListState → ℕ → ListState
with_odts x n = record x { conf = record x.conf { odts = replicate n [] } }

abbrev pub with_entries : ListState → ℕ → ℕ → ListState
with_entries x k n =
    record x { conf = record x.conf { odts = slice_set x.conf.odts k (replicate n None) } }

abbrev pub with_mode : ListState → Mode → ListState
with_mode x mode = record x { conf = record x.conf { mode = Some mode } }

abbrev pub with_entry : ListState → ℕ → ℕ → Entry → ListState
with_entry x k e entry =
    record x {
      conf = record x.conf {
        odts = slice_set x.conf.odts k (slice_set (odt_entries x.conf k) e (Some entry));
      };
    }

-- as many unwritten entries
abbrev pub unwritten : List (Option Entry) → List (Option Entry)
unwritten entries = replicate (length entries) None

-- a list after CLEAR_DAQ_LIST of it
abbrev pub cleared : ListState → ListState
cleared x =
    record {
      conf = record x.conf { mode = None; odts = map unwritten x.conf.odts };
      running = false;
      selected = false;
    }

-- a list after START_STOP_DAQ_LIST of it, after START_STOP_SYNCH
abbrev pub start_stopped : ℕ → ListState → ListState
start_stopped mode x =
    record x { running = if mode == 2 then x.running else mode == 1; selected = mode == 2 }

abbrev pub synched : ℕ → ListState → ListState
synched mode x =
    record x {
      running = if mode == 0 || x.selected then mode == 1 else x.running;
      selected = false;
    }

-- the store after each change of one list
abbrev pub odts_put : StoreState → ℕ → ℕ → StoreState
odts_put s l n =
    record s {
      lists = slice_set s.lists l (with_odts (list_at s l) n);
      pointer = None;
      phase = phase.Odt;
    }

abbrev pub entries_put : StoreState → ℕ → ℕ → ℕ → StoreState
entries_put s l k n =
    record s {
      lists = slice_set s.lists l (with_entries (list_at s l) k n);
      pointer = None;
      phase = phase.Entry;
    }

abbrev pub mode_put : StoreState → ℕ → Mode → StoreState
mode_put s l mode = record s { lists = slice_set s.lists l (with_mode (list_at s l) mode) }

abbrev pub start_stop_put : StoreState → ℕ → ℕ → StoreState
start_stop_put s mode l =
    record s { lists = slice_set s.lists l (start_stopped mode (list_at s l)) }

-- the next entry of the same ODT, if there is one
abbrev pub next_place : StoreState → ℕ → ℕ → ℕ → Option (ℕ × ℕ × ℕ)
next_place s l k e =
    if nat_lt (e + 1) (length (odt_entries (list_at s l).conf k)) then Some (l, k, e + 1) else None

-- the store with the entry at a place written, and the pointer moved on
abbrev pub entry_put : StoreState → ℕ → ℕ → ℕ → Entry → StoreState
entry_put s l k e entry =
    record s {
      lists = slice_set s.lists l (with_entry (list_at s l) k e entry);
      pointer = next_place s l k e;
    }

-- the store after CLEAR_DAQ_LIST
abbrev pub cleared_put : StoreState → ℕ → StoreState
cleared_put s l =
    record s { lists = slice_set s.lists l (cleared (list_at s l)); pointer = None }

-- the store with the pointer moved on from a place
abbrev pub moved_on : StoreState → ℕ → ℕ → ℕ → StoreState
moved_on s l k e = record s { pointer = next_place s l k e }

-- the store after START_STOP_SYNCH
abbrev pub synch_put : StoreState → ℕ → StoreState
synch_put s mode = record s { lists = map (synched mode) s.lists }
