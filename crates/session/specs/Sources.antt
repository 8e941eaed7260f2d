-- What UPLOAD and SHORT_UPLOAD read, and what UPLOAD reads next (ASAM MCD-1 XCP, protocol layer,
-- SET_MTA, UPLOAD, SHORT_UPLOAD, GET_ID). A command that is refused leaves that as it was.
use Rattle.std.specs.Prelude.{ℕ, ◌+◌, ◌==◌, ◌||◌, nat_le, nat_lt, Bool, if◌then◌else◌, List, []}
use Rattle.std.specs.Prelude.{length, take, drop, Option, Some, None, Result, Ok, Err, is_some}
use Rattle.xcp_base.specs.declared.err_code.ErrCode.{ErrCode}
use Rattle.xcp_base.specs.declared.err_code.ErrCode.TheVariants.{AccessDenied, OutOfRange, Sequence}
use Rattle.segments.specs.declared.read_fault.ReadFault.{ReadFault}
use Rattle.segments.specs.declared.read_fault.ReadFault.TheVariants as fault
use Rattle.segments.specs.Memory.{read}
use Rattle.segments.specs.Places.{segment_of}
use Rattle.session.specs.declared.event_channel.EventChannel.{EventChannel}
use Rattle.session.specs.declared.profile.Profile.{Profile}
use Rattle.session.specs.Past.{Memory, Nothing, Source, Text}
use Rattle.session.specs.Profiles.{id_text, segments_of}

-- no byte, or more than a reply of MAX_CTO bytes has
abbrev pub is_bad_number : ℕ → ℕ → Bool
is_bad_number max_cto n = n == 0 || nat_le max_cto n

-- of what is left of a text: no byte, more than a reply has, more than are left
abbrev pub is_bad_count : ℕ → ℕ → List ℕ → Bool
is_bad_count max_cto n left = is_bad_number max_cto n || nat_lt (length left) n

abbrev pub text_reply : ℕ → ℕ → List ℕ → Result (List ℕ) ErrCode
text_reply max_cto n left =
    if is_bad_count max_cto n left then Err OutOfRange else Ok (take n left)

-- the error of bytes that aren't read
abbrev pub read_result : Result (List ℕ) ReadFault → Result (List ℕ) ErrCode
read_result (Ok bytes) = Ok bytes
read_result (Err fault.OutOfRange) = Err OutOfRange
read_result (Err fault.AccessDenied) = Err AccessDenied

-- SHORT_UPLOAD: n bytes of memory from an address on
abbrev pub memory_reply : Profile → List (List ℕ) → ℕ → ℕ → ℕ → Result (List ℕ) ErrCode
memory_reply d memory n extension address =
    if is_bad_number d.max_cto n then Err OutOfRange
    else read_result (read (segments_of d) memory extension address n)

-- UPLOAD: the next n bytes
abbrev pub upload_reply : Profile → List (List ℕ) → ℕ → Source → Result (List ℕ) ErrCode
upload_reply d memory n Nothing = Err Sequence
upload_reply d memory n (Text left) = text_reply d.max_cto n left
upload_reply d memory n (Memory extension address) = memory_reply d memory n extension address

-- SET_MTA: the address lies in a segment
abbrev pub mta_reply : Profile → ℕ → ℕ → Result (List ℕ) ErrCode
mta_reply d extension address =
    if is_some (segment_of (segments_of d) extension address 1) then Ok [] else Err OutOfRange

-- what is read behind a command with this reply: this, if it was accepted
abbrev pub source_if : Result (List ℕ) ErrCode → Source → Source → Source
source_if (Ok fields) next before = next
source_if (Err code) next before = before

abbrev pub source_after_mta : Profile → ℕ → ℕ → Source → Source
source_after_mta d extension address before =
    source_if (mta_reply d extension address) (Memory extension address) before

abbrev pub source_after_memory : Profile → List (List ℕ) → ℕ → ℕ → ℕ → Source → Source
source_after_memory d memory n extension address before =
    source_if (memory_reply d memory n extension address) (Memory extension (address + n)) before

abbrev pub source_after_upload : Profile → List (List ℕ) → ℕ → Source → Source
source_after_upload d memory n Nothing = Nothing
source_after_upload d memory n (Text left) =
    source_if (text_reply d.max_cto n left) (Text (drop n left)) (Text left)
source_after_upload d memory n (Memory extension address) =
    source_after_memory d memory n extension address (Memory extension address)

-- a text takes the place of what was read before
abbrev pub source_with : Option (List ℕ) → Source → Source
source_with (Some text) before = Text text
source_with None before = before

-- GET_ID of the types 1, 4 and 5
abbrev pub source_after_id : Profile → ℕ → Source → Source
source_after_id d kind before = source_with (id_text d kind) before

-- GET_DAQ_EVENT_INFO
abbrev pub source_after_event : Option EventChannel → Source → Source
source_after_event None before = before
source_after_event (Some e) before = Text e.name.items
