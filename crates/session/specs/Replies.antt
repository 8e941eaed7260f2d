-- What stands in each reply to a connected master, field by field with its name in the standard
-- (ASAM MCD-1 XCP, protocol layer, at the command of each). A field that is kept for later versions
-- is reserved, and 0. The replies to the commands that set DAQ lists are the store's.
use Rattle.std.specs.Prelude.{ℕ, ◌+◌, ◌*◌, ◌==◌, nat_lt, max, Bool, true, false}
use Rattle.std.specs.Prelude.{if◌then◌else◌, List, [], ◌∷◌, ◌++◌, length, map}
use Rattle.std.specs.Prelude.{Option, Some, None, Result, Ok, Err, unwrap_or}
use Rattle.xcp_base.specs.declared.err_code.ErrCode.{ErrCode}
use Rattle.xcp_base.specs.declared.err_code.ErrCode.TheVariants.{OutOfRange}
use Rattle.xcp_base.specs.declared.id_kind.IdKind.{IdKind}
use Rattle.xcp_base.specs.declared.id_kind.IdKind.TheVariants.{Absolute, RelativeByte, RelativeWord}
use Rattle.xcp_base.specs.declared.limits.TheConstants.{MAX_LISTS}
use Rattle.xcp_base.specs.Forms.{most_entry}
use Rattle.daq_store.specs.declared.command.Command.{Command}
use Rattle.daq_store.specs.declared.mode.Mode.{Mode}
use Rattle.daq_store.specs.declared.reply.Reply.{Reply}
use Rattle.daq_store.specs.declared.reply.Reply.TheVariants.{Positive}
use Rattle.daq_store.specs.Configuration.{Configuration, channel_of, configuration, is_stamped}
use Rattle.daq_store.specs.Configuration.{prescaler_of, priority_of}
use Rattle.daq_store.specs.Modes.{mode_of}
use Rattle.daq_store.specs.Running.{is_running, is_selected}
use Rattle.daq_store.specs.Shape.{is_list, list_count}
use Rattle.session.specs.declared.event_channel.EventChannel.{EventChannel}
use Rattle.session.specs.declared.profile.Profile.{Profile}
use Rattle.session.specs.Fields.{BYTE, DWORD, WORD}
use Rattle.session.specs.Profiles.{id_text, lists_of}

-- CONNECT of mode 0, NORMAL; there is no other
abbrev pub connect_fields : Profile → List ℕ
connect_fields d =
    BYTE 0x04  -- RESOURCE: DAQ
    ++ BYTE 0x80  -- COMM_MODE_BASIC: OPTIONAL; Intel byte order, granularity BYTE, no block mode
    ++ BYTE d.max_cto  -- MAX_CTO
    ++ WORD d.max_dto  -- MAX_DTO
    ++ BYTE 0x01  -- XCP protocol layer version
    ++ BYTE 0x01  -- XCP transport layer version

abbrev pub connect_reply : Profile → ℕ → Result (List ℕ) ErrCode
connect_reply d mode = if mode == 0 then Ok (connect_fields d) else Err OutOfRange

-- GET_STATUS
abbrev pub status_fields : Bool → List ℕ
status_fields runs =
    BYTE (if runs then 0x40 else 0)  -- current session status: DAQ_RUNNING
    ++ BYTE 0  -- current resource protection status: none is protected
    ++ BYTE 0  -- reserved
    ++ WORD 0  -- session configuration id

-- GET_COMM_MODE_INFO
abbrev pub comm_mode_fields : List ℕ
comm_mode_fields =
    BYTE 0  -- reserved
    ++ BYTE 0  -- COMM_MODE_OPTIONAL: neither block mode nor interleaved mode
    ++ BYTE 0  -- reserved
    ++ BYTE 0  -- MAX_BS
    ++ BYTE 0  -- MIN_ST
    ++ BYTE 0  -- QUEUE_SIZE
    ++ BYTE 0x10  -- XCP driver version 1.0

-- GET_ID: the text of type 0 stands in the reply, those of the types 1, 4 and 5 are read by UPLOAD,
-- and the types 2 and 3 have none
abbrev pub id_fields : ℕ → ℕ → List ℕ → List ℕ
id_fields mode len text =
    BYTE mode  -- mode: 1, the text stands here; 0, UPLOAD reads it
    ++ WORD 0  -- reserved
    ++ DWORD len  -- length
    ++ text  -- identification

abbrev pub id_reply : Profile → ℕ → Result (List ℕ) ErrCode
id_reply d kind =
    if kind == 0 then Ok (id_fields 1 (length d.name.items) d.name.items)
    else if nat_lt 5 kind then Err OutOfRange
    else Ok (id_fields 0 (length (unwrap_or (id_text d kind) [])) [])

-- GET_DAQ_LIST_MODE; a list without a mode has all but SELECTED zero
abbrev pub mode_bits : Bool → Bool → Bool → ℕ
mode_bits selected stamped runs =
    (if selected then 0x01 else 0)  -- SELECTED
    + (if stamped then 0x10 else 0)  -- TIMESTAMP
    + (if runs then 0x40 else 0)  -- RUNNING

abbrev pub list_mode_fields : ℕ → Option Mode → List ℕ
list_mode_fields bits mode =
    BYTE bits  -- current mode
    ++ WORD 0  -- reserved
    ++ WORD (channel_of mode)  -- current event channel
    ++ BYTE (prescaler_of mode)  -- current prescaler
    ++ BYTE (priority_of mode)  -- current priority

abbrev pub list_mode_reply : List Command → ℕ → Result (List ℕ) ErrCode
list_mode_reply calls l =
    if is_list calls l
    then Ok (list_mode_fields
    (mode_bits (is_selected calls l) (is_stamped (mode_of calls l)) (is_running calls l))
    (mode_of calls l))
    else Err OutOfRange

-- GET_DAQ_CLOCK
abbrev pub clock_fields : ℕ → List ℕ
clock_fields clock =
    BYTE 0  -- reserved
    ++ WORD 0  -- reserved
    ++ DWORD clock  -- receive timestamp

-- GET_DAQ_PROCESSOR_INFO
abbrev pub key_byte : IdKind → ℕ
key_byte Absolute = 0x00
key_byte RelativeByte = 0x40
key_byte RelativeWord = 0x80

abbrev pub processor_fields : Profile → List Command → List ℕ
processor_fields d calls =
    BYTE 0x53  -- DAQ_PROPERTIES: dynamic, prescaler, timestamp, overload in PID
    ++ WORD (list_count calls)  -- MAX_DAQ
    ++ WORD (length d.events.items)  -- MAX_EVENT_CHANNEL
    ++ BYTE 0  -- MIN_DAQ
    ++ BYTE (key_byte d.id)  -- DAQ_KEY_BYTE: the identification field

-- GET_DAQ_RESOLUTION_INFO
abbrev pub resolution_fields : Profile → List ℕ
resolution_fields d =
    BYTE 1  -- GRANULARITY_ODT_ENTRY_SIZE_DAQ
    ++ BYTE (most_entry (lists_of d).form)  -- MAX_ODT_ENTRY_SIZE_DAQ
    ++ BYTE 1  -- GRANULARITY_ODT_ENTRY_SIZE_STIM
    ++ BYTE 0  -- MAX_ODT_ENTRY_SIZE_STIM
    ++ BYTE (d.stamp_size + 16 * d.unit)  -- TIMESTAMP_MODE: size, unit
    ++ WORD d.ticks  -- TIMESTAMP_TICKS

-- GET_DAQ_LIST_INFO
abbrev pub most_of : List ℕ → ℕ
most_of [] = 0
most_of (n ∷ more) = max n (most_of more)

abbrev pub list_info_fields : Configuration → List ℕ
list_info_fields c =
    BYTE 0x04  -- DAQ_LIST_PROPERTIES: DAQ
    ++ BYTE (length c.odts)  -- MAX_ODT
    ++ BYTE (most_of (map length c.odts))  -- MAX_ODT_ENTRIES
    ++ WORD 0  -- FIXED_EVENT

abbrev pub list_info_reply : Profile → List Command → ℕ → Result (List ℕ) ErrCode
list_info_reply d calls l =
    if is_list calls l
    then Ok (list_info_fields (configuration (lists_of d).form calls l))
    else Err OutOfRange

-- GET_DAQ_EVENT_INFO
abbrev pub event_fields : EventChannel → List ℕ
event_fields e =
    BYTE 0x44  -- DAQ_EVENT_PROPERTIES: DAQ, CONSISTENCY DAQ
    ++ BYTE MAX_LISTS  -- MAX_DAQ_LIST
    ++ BYTE (length e.name.items)  -- EVENT_CHANNEL_NAME_LENGTH
    ++ BYTE e.cycle  -- EVENT_CHANNEL_TIME_CYCLE
    ++ BYTE e.cycle_unit  -- EVENT_CHANNEL_TIME_UNIT
    ++ BYTE e.priority  -- EVENT_CHANNEL_PRIORITY

abbrev pub event_reply : Option EventChannel → Result (List ℕ) ErrCode
event_reply None = Err OutOfRange
event_reply (Some e) = Ok (event_fields e)

-- a reply that is no plain RES
abbrev pub is_error : Reply → Bool
is_error Positive = false
is_error _ = true
