-- The reply to each packet of a master, what each leaves, and many packets one after another.
use Rattle.std.specs.Prelude.{◌≡◌, ℕ, ◌==◌, Bool, true, false, if◌then◌else◌, List, [], ◌∷◌, drop}
use Rattle.std.specs.Prelude.{slice_get, Option, Some, None, Result, Ok, Err}
use Rattle.xcp_base.specs.declared.err_code.ErrCode.{ErrCode}
use Rattle.xcp_base.specs.declared.err_code.ErrCode.TheVariants.{CmdSynch, MemoryOverflow}
use Rattle.daq_store.specs.declared.command.Command.{Command}
use Rattle.daq_store.specs.declared.reply.Reply.{Reply}
use Rattle.daq_store.specs.declared.reply.Reply.TheVariants.{Positive}
use Rattle.daq_store.specs.Calls.{Profile as ListsProfile}
use Rattle.daq_store.specs.Answer.{answer, calls_after, fault_of}
use Rattle.daq_store.specs.Replies.{Allocates, reply_bytes}
use Rattle.session.specs.declared.profile.Profile.{Profile}
use Rattle.session.specs.declared.request.Request.{Request}
use Rattle.session.specs.declared.request.Request.TheVariants.{Connect, Disconnect, GetStatus}
use Rattle.session.specs.declared.request.Request.TheVariants.{Synch, GetCommModeInfo, GetId}
use Rattle.session.specs.declared.request.Request.TheVariants.{SetMta, ShortUpload, Upload}
use Rattle.session.specs.declared.request.Request.TheVariants.{GetDaqListMode, GetDaqClock}
use Rattle.session.specs.declared.request.Request.TheVariants.{GetDaqProcessorInfo}
use Rattle.session.specs.declared.request.Request.TheVariants.{GetDaqResolutionInfo, GetDaqListInfo}
use Rattle.session.specs.declared.request.Request.TheVariants.{GetDaqEventInfo, Lists}
use Rattle.session.specs.declared.request.Request.TheVariants.{WriteDaqMultiple}
use Rattle.session.specs.Fields.{packet_of}
use Rattle.session.specs.Past.{Given, Past, new_past}
use Rattle.session.specs.Profiles.{lists_of}
use Rattle.session.specs.Replies.{clock_fields, comm_mode_fields, connect_reply, event_reply}
use Rattle.session.specs.Replies.{id_reply, is_error, list_info_reply, list_mode_reply}
use Rattle.session.specs.Sources.{memory_reply, mta_reply, source_after_event, source_after_id}
use Rattle.session.specs.Sources.{source_after_memory, source_after_mta, source_after_upload}
use Rattle.session.specs.Sources.{upload_reply}
use Rattle.session.specs.Replies.{processor_fields, resolution_fields, status_fields}
use Rattle.session.specs.Requests.{request, writes}
use Rattle.daq_store.specs.Running.{any_list, is_running}

-- WRITE_DAQ_MULTIPLE: the first write that is refused answers, and those before it stand
abbrev pub writes_reply : ListsProfile → List Command → List Command → Reply
writes_reply lists calls [] = Positive
writes_reply lists calls (call ∷ more) =
    if is_error (answer lists calls call) then answer lists calls call
    else writes_reply lists (calls_after lists calls call) more

abbrev pub calls_after_writes : ListsProfile → List Command → List Command → List Command
calls_after_writes lists calls [] = calls
calls_after_writes lists calls (call ∷ more) =
    if is_error (answer lists calls call) then calls_after lists calls call
    else calls_after_writes lists (calls_after lists calls call) more

-- the reply to a request
abbrev pub request_reply : Profile → Past → Given → List ℕ → Request → List ℕ
request_reply d past given packet (Connect mode) = packet_of (connect_reply d mode)
request_reply d past given packet Disconnect = packet_of (Ok [])
request_reply d past given packet GetStatus =
    packet_of (Ok (status_fields (any_list past.calls (is_running past.calls))))
request_reply d past given packet Synch = packet_of (Err CmdSynch)
request_reply d past given packet GetCommModeInfo = packet_of (Ok comm_mode_fields)
request_reply d past given packet (GetId kind) = packet_of (id_reply d kind)
request_reply d past given packet (SetMta extension address) =
    packet_of (mta_reply d extension address)
request_reply d past given packet (Upload n) =
    packet_of (upload_reply d given.memory n past.source)
request_reply d past given packet (ShortUpload n extension address) =
    packet_of (memory_reply d given.memory n extension address)
request_reply d past given packet (GetDaqListMode l) = packet_of (list_mode_reply past.calls l)
request_reply d past given packet GetDaqClock = packet_of (Ok (clock_fields given.clock))
request_reply d past given packet GetDaqProcessorInfo =
    packet_of (Ok (processor_fields d past.calls))
request_reply d past given packet GetDaqResolutionInfo = packet_of (Ok (resolution_fields d))
request_reply d past given packet (GetDaqListInfo l) = packet_of (list_info_reply d past.calls l)
request_reply d past given packet (GetDaqEventInfo c) =
    packet_of (event_reply (slice_get d.events.items c))
request_reply d past given packet (WriteDaqMultiple n) =
    reply_bytes (writes_reply (lists_of d) past.calls (writes n (drop 2 packet)))
request_reply d past given packet (Lists call) =
    reply_bytes (answer (lists_of d) past.calls call)

-- what a request leaves
abbrev pub past_after : Profile → Past → Given → List ℕ → Request → Past
past_after d past given packet Disconnect = new_past
past_after d past given packet (GetId kind) =
    record past { source = source_after_id d kind past.source }
past_after d past given packet (SetMta extension address) =
    record past { source = source_after_mta d extension address past.source }
past_after d past given packet (Upload n) =
    record past { source = source_after_upload d given.memory n past.source }
past_after d past given packet (ShortUpload n extension address) =
    record past {
      source = source_after_memory d given.memory n extension address past.source;
    }
past_after d past given packet (GetDaqEventInfo c) =
    record past { source = source_after_event (slice_get d.events.items c) past.source }
past_after d past given packet (WriteDaqMultiple n) =
    record past {
      calls = calls_after_writes (lists_of d) past.calls (writes n (drop 2 packet));
    }
past_after d past given packet (Lists call) =
    record past { calls = calls_after (lists_of d) past.calls call }
past_after d past given packet _ = past

-- CONNECT with mode 0, the one packet that is answered while no master is connected
abbrev pub is_greeting : Result Request ErrCode → Bool
is_greeting (Ok (Connect mode)) = mode == 0
is_greeting _ = false

-- the reply to what was read while no master is connected, if there is one, and what it leaves
abbrev pub greeting_reply : Profile → Result Request ErrCode → Option (List ℕ)
greeting_reply d read =
    if is_greeting read then Some (packet_of (connect_reply d 0)) else None

abbrev pub past_after_greeting : Past → Result Request ErrCode → Past
past_after_greeting past read = if is_greeting read then record past { connected = true } else past

-- the reply to what was read from a packet, and what it leaves: an error is answered by itself, and
-- leaves all as it was
abbrev pub read_reply : Profile → Past → Given → List ℕ → Result Request ErrCode → List ℕ
read_reply d past given packet (Ok asked) = request_reply d past given packet asked
read_reply d past given packet (Err code) = packet_of (Err code)

abbrev pub past_after_read : Profile → Past → Given → List ℕ → Result Request ErrCode → Past
past_after_read d past given packet (Ok asked) = past_after d past given packet asked
past_after_read d past given packet (Err code) = past

-- the reply to a packet of the master, if there is one, and what the packet leaves
abbrev pub master_reply : Profile → Past → Given → List ℕ → Option (List ℕ)
master_reply d past given packet =
    if past.connected then Some (read_reply d past given packet (request d.max_cto packet))
    else greeting_reply d (request d.max_cto packet)

abbrev pub past_after_packet : Profile → Past → Given → List ℕ → Past
past_after_packet d past given packet =
    if past.connected then past_after_read d past given packet (request d.max_cto packet)
    else past_after_greeting past (request d.max_cto packet)

-- a packet, what was handed in with it, and whether there was no memory for it
pub record Exchange : Type 0 where
  pub packet : List ℕ
  pub given : Given
  pub out_of_memory : Bool

-- there may be no memory only where a master is connected and its packet is that of an allocation,
-- every check of which passes
pub record MayBeOut (d : Profile) (past : Past) (packet : List ℕ) : Type 0 where
  pub connected : past.connected ≡ true
  pub call : Command
  pub read : request d.max_cto packet ≡ Ok (Lists call)
  pub allocates : Allocates call
  pub passes : fault_of (lists_of d) past.calls call ≡ None

-- the reply of an exchange, if there is one, and what it leaves: out of memory is answered by
-- ERR_MEMORY_OVERFLOW, and leaves all as it was
abbrev pub reply_in : Profile → Past → Exchange → Option (List ℕ)
reply_in d past x =
    if x.out_of_memory then Some (packet_of (Err MemoryOverflow))
    else master_reply d past x.given x.packet

abbrev pub past_behind : Profile → Past → Exchange → Past
past_behind d past x =
    if x.out_of_memory then past else past_after_packet d past x.given x.packet
