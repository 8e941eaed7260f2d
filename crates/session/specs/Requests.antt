-- Command packets (ASAM MCD-1 XCP, protocol layer): the commands of a session, those that set DAQ
-- lists among them. A longer packet is accepted and its surplus ignored; a reserved byte may have
-- any value.
use Rattle.std.specs.Prelude.{ℕ, zero, suc, ◌+◌, ◌*◌, ◌==◌, ◌||◌, nat_lt, Bool}
use Rattle.std.specs.Prelude.{if◌then◌else◌, List, [], ◌∷◌, length, drop, take, Result, Ok, Err}
use Rattle.xcp_base.specs.declared.err_code.ErrCode.{ErrCode}
use Rattle.xcp_base.specs.declared.err_code.ErrCode.TheVariants.{CmdSyntax, OutOfRange}
use Rattle.daq_store.specs.declared.command.Command.{Command}
use Rattle.daq_store.specs.declared.command.Command.TheVariants.{ClearDaqList, ReadDaq, WriteDaq}
use Rattle.daq_store.specs.Commands.{command, dword, word}
use Rattle.session.specs.declared.request.Request.{Request}
use Rattle.session.specs.declared.request.Request.TheVariants.{Connect, Disconnect, GetStatus}
use Rattle.session.specs.declared.request.Request.TheVariants.{Synch, GetCommModeInfo, GetId}
use Rattle.session.specs.declared.request.Request.TheVariants.{SetMta, ShortUpload, Upload}
use Rattle.session.specs.declared.request.Request.TheVariants.{GetDaqListMode, GetDaqClock}
use Rattle.session.specs.declared.request.Request.TheVariants.{GetDaqProcessorInfo}
use Rattle.session.specs.declared.request.Request.TheVariants.{GetDaqResolutionInfo, GetDaqListInfo}
use Rattle.session.specs.declared.request.Request.TheVariants.{GetDaqEventInfo, Lists}
use Rattle.session.specs.declared.request.Request.TheVariants.{WriteDaqMultiple}

-- a request with a BYTE behind its code; with a WORD behind a reserved byte
abbrev pub with_byte : (ℕ → Request) → List ℕ → Result Request ErrCode
with_byte make (x ∷ _) = Ok (make x)
with_byte make [] = Err CmdSyntax

abbrev pub with_word : (ℕ → Request) → List ℕ → Result Request ErrCode
with_word make (_ ∷ low ∷ high ∷ _) = Ok (make (word low high))
with_word make _ = Err CmdSyntax

-- WRITE_DAQ_MULTIPLE of no entry, or of more than a packet of MAX_CTO bytes has behind code and
-- count: its count is 1 to (MAX_CTO - 2) / 8
abbrev pub is_bad_entry_count : ℕ → ℕ → Bool
is_bad_entry_count max_cto n = n == 0 || nat_lt max_cto (2 + 8 * n)

-- and then there are eight bytes for each entry
abbrev pub with_entries : ℕ → List ℕ → Result Request ErrCode
with_entries max_cto [] = Err CmdSyntax
with_entries max_cto (n ∷ entries) =
    if is_bad_entry_count max_cto n then Err OutOfRange
    else if nat_lt (length entries) (8 * n) then Err CmdSyntax else Ok (WriteDaqMultiple n)

-- the WRITE_DAQ of the first eight bytes: bit offset, size, address, address extension and a
-- reserved byte; that of each eight bytes
abbrev pub write_of : List ℕ → Command
write_of (bit ∷ size ∷ a ∷ b ∷ c ∷ d ∷ ext ∷ _) = WriteDaq bit size ext (dword a b c d)
write_of _ = WriteDaq 0 0 0 0

abbrev pub writes : ℕ → List ℕ → List Command
writes zero bytes = []
writes (suc n) bytes = write_of (take 8 bytes) ∷ writes n (drop 8 bytes)

-- SET_MTA, and SHORT_UPLOAD of so many bytes: address extension and address
abbrev pub set_mta : List ℕ → Result Request ErrCode
set_mta (_ ∷ _ ∷ ext ∷ a ∷ b ∷ c ∷ d ∷ _) = Ok (SetMta ext (dword a b c d))
set_mta _ = Err CmdSyntax

abbrev pub short_upload : List ℕ → Result Request ErrCode
short_upload (n ∷ _ ∷ ext ∷ a ∷ b ∷ c ∷ d ∷ _) = Ok (ShortUpload n ext (dword a b c d))
short_upload _ = Err CmdSyntax

-- one of the nine commands that set lists up, or the error of a packet that is none of these
abbrev pub of_lists : Result Command ErrCode → Result Request ErrCode
of_lists (Ok call) = Ok (Lists call)
of_lists (Err code) = Err code

-- CLEAR_DAQ_LIST
abbrev pub clear_list : ℕ → Request
clear_list list = Lists (ClearDaqList list)

-- the request of a packet to a slave of this MAX_CTO, or its error: it is empty, or else its code
-- is unknown, or else it is too short
abbrev pub request : ℕ → List ℕ → Result Request ErrCode
request max_cto [] = Err CmdSyntax
request max_cto (code ∷ more) =
    if code == 0xFF then with_byte Connect more  -- mode
    else if code == 0xFE then Ok Disconnect
    else if code == 0xFD then Ok GetStatus
    else if code == 0xFC then Ok Synch
    else if code == 0xFB then Ok GetCommModeInfo
    else if code == 0xFA then with_byte GetId more  -- type
    else if code == 0xF6 then set_mta more  -- address extension, address
    else if code == 0xF5 then with_byte Upload more  -- number of bytes
    else if code == 0xF4 then short_upload more  -- number of bytes, address extension, address
    else if code == 0xE3 then with_word clear_list more  -- DAQ list
    else if code == 0xDF then with_word GetDaqListMode more  -- DAQ list
    else if code == 0xDC then Ok GetDaqClock
    else if code == 0xDB then Ok (Lists ReadDaq)
    else if code == 0xDA then Ok GetDaqProcessorInfo
    else if code == 0xD9 then Ok GetDaqResolutionInfo
    else if code == 0xD8 then with_word GetDaqListInfo more  -- DAQ list
    else if code == 0xD7 then with_word GetDaqEventInfo more  -- event channel
    else if code == 0xC7 then with_entries max_cto more  -- number of entries, entries
    else of_lists (command (code ∷ more))
