-- What is answered to a call: the first check that fails, else a positive reply. Which checks
-- each call makes, in which order, stands in docs/PROFILE.md as a table.
use Rattle.std.specs.Prelude.{ℕ, ◌==◌, ◌&&◌, ◌||◌, not, nat_lt, Bool, false, if◌then◌else◌}
use Rattle.std.specs.Prelude.{List, [], ◌∷◌, Option, Some, None, is_some, is_none}
use Rattle.xcp_base.specs.declared.limits.TheConstants.{MAX_LISTS}
use Rattle.xcp_base.specs.Forms.{first_pid_behind, most_entry, most_odts}
use Rattle.xcp_base.specs.declared.err_code.ErrCode.{ErrCode}
use Rattle.xcp_base.specs.declared.err_code.ErrCode.TheVariants.{DaqActive, OutOfRange}
use Rattle.xcp_base.specs.declared.err_code.ErrCode.TheVariants.{ModeNotValid, Sequence, DaqConfig}
use Rattle.xcp_base.specs.declared.err_code.ErrCode.TheVariants.{MemoryOverflow}
use Rattle.segments.specs.declared.segment.Segment.{Segment}
use Rattle.segments.specs.Places.{segment_of}
use Rattle.daq_store.specs.declared.command.Command.{Command}
use Rattle.daq_store.specs.declared.command.Command.TheVariants.{FreeDaq, AllocDaq, AllocOdt}
use Rattle.daq_store.specs.declared.command.Command.TheVariants.{AllocOdtEntry, SetDaqPtr, WriteDaq}
use Rattle.daq_store.specs.declared.command.Command.TheVariants.{SetDaqListMode, StartStopDaqList}
use Rattle.daq_store.specs.declared.command.Command.TheVariants.{StartStopSynch, ClearDaqList}
use Rattle.daq_store.specs.declared.command.Command.TheVariants.{ReadDaq}
use Rattle.daq_store.specs.declared.entry.Entry.{Entry}
use Rattle.daq_store.specs.declared.reply.Reply.{Reply}
use Rattle.daq_store.specs.declared.reply.Reply.TheVariants.{Positive, Started, Read, Error}
use Rattle.daq_store.specs.Calls.{Profile, and_then}
use Rattle.daq_store.specs.Shape.{phase_of, list_count, is_list, has_odt, has_entry, odts_before}
use Rattle.daq_store.specs.Shape.{forbids_lists, forbids_odts, forbids_entries}
use Rattle.daq_store.specs.Pointer.{pointer}
use Rattle.daq_store.specs.Entries.{pointed}
use Rattle.daq_store.specs.Running.{is_running, is_selected, is_active, any_list}
use Rattle.daq_store.specs.Configuration.{list_is_ready}

-- with n ODTs in list l, in place of those that it has, the list would have too many, or all lists
-- together
abbrev pub are_too_many : Profile → List Command → ℕ → ℕ → Bool
are_too_many profile calls l n =
    nat_lt profile.most_odts n
    || nat_lt (most_odts profile.form.id) (odts_before (AllocOdt l n ∷ calls) (list_count calls))

-- the pointer is defined, and its list exists and runs
abbrev pub is_active_at : List Command → Option (ℕ × ℕ × ℕ) → Bool
is_active_at calls None = false
is_active_at calls (Some p) = is_active calls p.0

-- an entry that is one bit (a bit offset other than 0xFF), has no byte or more than find room in a
-- packet, or lies in no segment
abbrev pub is_bad_entry : Profile → ℕ → ℕ → ℕ → ℕ → Bool
is_bad_entry profile bit size ext addr =
    not (bit == 0xFF) || size == 0 || nat_lt (most_entry profile.form) size
    || is_none (segment_of profile.segments ext addr size)

-- list l is selected and not ready
abbrev pub selects_unready : Profile → List Command → ℕ → Bool
selects_unready profile calls l = is_selected calls l && not (list_is_ready profile calls l)

-- the checks of a call, each with the error that it is answered by, in their order
abbrev pub checks : Profile → List Command → Command → List (Bool × ErrCode)
checks profile calls FreeDaq = []
checks profile calls (AllocDaq count) =
    (any_list calls (is_running calls), DaqActive)
    ∷ (forbids_lists (phase_of calls), Sequence)
    ∷ (nat_lt MAX_LISTS count, MemoryOverflow) ∷ []
checks profile calls (AllocOdt list count) =
    (any_list calls (is_running calls), DaqActive)
    ∷ (forbids_odts (phase_of calls), Sequence)
    ∷ (not (is_list calls list), OutOfRange)
    ∷ (are_too_many profile calls list count, MemoryOverflow) ∷ []
checks profile calls (AllocOdtEntry list odt count) =
    (any_list calls (is_running calls), DaqActive)
    ∷ (forbids_entries (phase_of calls), Sequence)
    ∷ (not (has_odt calls list odt), OutOfRange)
    ∷ (nat_lt profile.most_entries count, MemoryOverflow) ∷ []
checks profile calls (SetDaqPtr list odt entry) =
    (is_active calls list, DaqActive)
    ∷ (not (has_entry calls list odt entry), OutOfRange) ∷ []
checks profile calls (WriteDaq bit size ext addr) =
    (is_active_at calls (pointer calls), DaqActive)
    ∷ (is_none (pointer calls), Sequence)
    ∷ (is_bad_entry profile bit size ext addr, OutOfRange) ∷ []
checks profile calls (SetDaqListMode mode list channel prescaler priority) =
    (is_active calls list, DaqActive)
    ∷ (
      not (is_list calls list) || not (nat_lt channel profile.channels) || prescaler == 0,
      OutOfRange,
    )
    ∷ (not (mode == 0 || mode == 0x10), ModeNotValid) ∷ []
checks profile calls (StartStopDaqList mode list) =
    (not (is_list calls list), OutOfRange)
    ∷ (nat_lt 2 mode, ModeNotValid)
    ∷ (mode == 1 && not (list_is_ready profile calls list), DaqConfig) ∷ []
checks profile calls (StartStopSynch mode) =
    (nat_lt 2 mode, ModeNotValid)
    ∷ (mode == 1 && any_list calls (selects_unready profile calls), DaqConfig) ∷ []
checks profile calls (ClearDaqList list) = (not (is_list calls list), OutOfRange) ∷ []
checks profile calls ReadDaq = (is_none (pointer calls), Sequence) ∷ []

-- the error of the first check that fails
abbrev pub first_failing : List (Bool × ErrCode) → Option ErrCode
first_failing [] = None
first_failing (check ∷ more) = if check.0 then Some check.1 else first_failing more

-- why a call is refused, if it is
abbrev pub fault_of : Profile → List Command → Command → Option ErrCode
fault_of profile calls call = first_failing (checks profile calls call)

-- the reply to READ_DAQ at a written entry, or at an unwritten one
abbrev pub read_reply : Option Entry → Reply
read_reply None = Read 0 0 0
read_reply (Some entry) = Read entry.size entry.extension entry.address

-- the positive reply to a call: to START_STOP_DAQ_LIST with FIRST_PID of its list, to READ_DAQ with
-- the entry at the pointer
abbrev pub accepted_reply : Profile → List Command → Command → Reply
accepted_reply profile calls (StartStopDaqList mode list) =
    Started (first_pid_behind profile.form.id (odts_before calls list))
accepted_reply profile calls ReadDaq = read_reply (pointed calls)
accepted_reply profile calls _ = Positive

-- the error, or else the positive reply
abbrev pub reply_by : Reply → Option ErrCode → Reply
reply_by accepted None = accepted
reply_by accepted (Some code) = Error code

-- the answer to a call
abbrev pub answer : Profile → List Command → Command → Reply
answer profile calls call =
    reply_by (accepted_reply profile calls call) (fault_of profile calls call)

-- the calls that stand after one that was asked for: those before it, if it was refused
abbrev pub calls_after : Profile → List Command → Command → List Command
calls_after profile calls call =
    if is_some (fault_of profile calls call) then calls else and_then calls call

-- the answers to calls that are asked for one after another
abbrev pub answers : Profile → List Command → List Command → List Reply
answers profile calls [] = []
answers profile calls (call ∷ more) =
    answer profile calls call ∷ answers profile (calls_after profile calls call) more
