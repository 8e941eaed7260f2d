-- Command packets (ASAM MCD-1 XCP, protocol layer, data acquisition commands): the code of a
-- command, and what follows it. A longer packet is accepted and its surplus ignored; a reserved
-- byte may have any value.
use Rattle.std.specs.Prelude.{◌≡◌, ℕ, ◌+◌, ◌*◌, ◌/◌, ◌%◌, ◌<◌, ◌==◌, nat_lt, if◌then◌else◌, List}
use Rattle.std.specs.Prelude.{[], ◌∷◌, ◌++◌, length, Option, Some, None, Result, Ok, Err}
use Rattle.xcp_base.specs.declared.err_code.ErrCode.{ErrCode}
use Rattle.xcp_base.specs.declared.err_code.ErrCode.TheVariants.{CmdSyntax, CmdUnknown}
use Rattle.daq_store.specs.declared.command.Command.{Command}
use Rattle.daq_store.specs.declared.command.Command.TheVariants.{FreeDaq, AllocDaq, AllocOdt}
use Rattle.daq_store.specs.declared.command.Command.TheVariants.{AllocOdtEntry, SetDaqPtr, WriteDaq}
use Rattle.daq_store.specs.declared.command.Command.TheVariants.{SetDaqListMode, StartStopDaqList}
use Rattle.daq_store.specs.declared.command.Command.TheVariants.{StartStopSynch, ClearDaqList}
use Rattle.daq_store.specs.declared.command.Command.TheVariants.{ReadDaq}

-- a WORD and a DWORD, the least significant byte first
abbrev pub word_bytes : ℕ → List ℕ
word_bytes x = x % 256 ∷ x / 256 % 256 ∷ []

abbrev pub dword_bytes : ℕ → List ℕ
dword_bytes x = x % 256 ∷ x / 256 % 256 ∷ x / 65536 % 256 ∷ x / 16777216 % 256 ∷ []

-- the bytes of a command: its code, its reserved byte if it has one, and its fields
abbrev pub command_bytes : Command → ℕ → List ℕ
command_bytes FreeDaq reserved = 0xD6 ∷ []
command_bytes (AllocDaq count) reserved = 0xD5 ∷ reserved ∷ word_bytes count
command_bytes (AllocOdt list count) reserved = 0xD4 ∷ reserved ∷ (word_bytes list ++ count ∷ [])
command_bytes (AllocOdtEntry list odt count) reserved =
    0xD3 ∷ reserved ∷ (word_bytes list ++ odt ∷ count ∷ [])
command_bytes (SetDaqPtr list odt entry) reserved =
    0xE2 ∷ reserved ∷ (word_bytes list ++ odt ∷ entry ∷ [])
command_bytes (WriteDaq bit size ext addr) reserved = 0xE1 ∷ bit ∷ size ∷ ext ∷ dword_bytes addr
command_bytes (SetDaqListMode mode list channel prescaler priority) reserved =
    0xE0 ∷ mode ∷ (word_bytes list ++ (word_bytes channel ++ prescaler ∷ priority ∷ []))
command_bytes (StartStopDaqList mode list) reserved = 0xDE ∷ mode ∷ word_bytes list
command_bytes (StartStopSynch mode) reserved = 0xDD ∷ mode ∷ []
command_bytes (ClearDaqList list) reserved = 0xE3 ∷ reserved ∷ word_bytes list
command_bytes ReadDaq reserved = 0xDB ∷ []

-- each field of a command that is a WORD or a DWORD fits two or four bytes
abbrev pub HasFields : Command → Type 0
HasFields (AllocDaq count) = count < 65536
HasFields (AllocOdt list count) = list < 65536
HasFields (AllocOdtEntry list odt count) = list < 65536
HasFields (SetDaqPtr list odt entry) = list < 65536
HasFields (WriteDaq bit size ext addr) = addr < 4294967296
HasFields (SetDaqListMode mode list channel prescaler priority) = (list < 65536) × (channel < 65536)
HasFields (StartStopDaqList mode list) = list < 65536
HasFields (ClearDaqList list) = list < 65536
HasFields _ = Unit {0}

-- one of the nine commands that set lists up and start them: the others are left to who speaks with
-- a master that is connected
abbrev pub SetsUp : Command → Type 0
SetsUp (ClearDaqList list) = ⊥
SetsUp ReadDaq = ⊥
SetsUp _ = Unit {0}

-- the packet is that of one of these commands: for some reserved byte it is the command's bytes,
-- and then any surplus
pub record IsPacketOf (packet : List ℕ) (call : Command) : Type 0 where
  pub sets_up : SetsUp call
  pub fields : HasFields call
  pub reserved : ℕ
  pub surplus : List ℕ
  pub bytes : packet ≡ command_bytes call reserved ++ surplus

-- the least length of a packet with this code, if it is the code of a command
abbrev pub least_len : ℕ → Option ℕ
least_len code =
    if code == 0xD6 then Some 1
    else if code == 0xD5 then Some 4
    else if code == 0xD4 then Some 5
    else if code == 0xD3 then Some 6
    else if code == 0xE2 then Some 6
    else if code == 0xE1 then Some 8
    else if code == 0xE0 then Some 8
    else if code == 0xDE then Some 4
    else if code == 0xDD then Some 2
    else None

-- the error in a packet of this length whose code has this least length: none is known, or it is
-- too short
abbrev pub fault_of_len : ℕ → Option ℕ → Option ErrCode
fault_of_len len None = Some CmdUnknown
fault_of_len len (Some least) = if nat_lt len least then Some CmdSyntax else None

-- the error in a packet, if there is one: it is empty, or else its code is unknown, or else it is
-- too short
abbrev pub packet_fault : List ℕ → Option ErrCode
packet_fault [] = Some CmdSyntax
packet_fault (code ∷ more) = fault_of_len (1 + length more) (least_len code)

-- numbers of two and of four bytes
abbrev pub word : ℕ → ℕ → ℕ
word a b = a + 256 * b

abbrev pub dword : ℕ → ℕ → ℕ → ℕ → ℕ
dword a b c d = a + 256 * b + 65536 * c + 16777216 * d

-- each command of what follows its code
abbrev pub alloc_daq : List ℕ → Result Command ErrCode
alloc_daq (_ ∷ n0 ∷ n1 ∷ _) = Ok (AllocDaq (word n0 n1))
alloc_daq _ = Err CmdSyntax

abbrev pub alloc_odt : List ℕ → Result Command ErrCode
alloc_odt (_ ∷ l0 ∷ l1 ∷ n ∷ _) = Ok (AllocOdt (word l0 l1) n)
alloc_odt _ = Err CmdSyntax

abbrev pub alloc_odt_entry : List ℕ → Result Command ErrCode
alloc_odt_entry (_ ∷ l0 ∷ l1 ∷ k ∷ n ∷ _) = Ok (AllocOdtEntry (word l0 l1) k n)
alloc_odt_entry _ = Err CmdSyntax

abbrev pub set_daq_ptr : List ℕ → Result Command ErrCode
set_daq_ptr (_ ∷ l0 ∷ l1 ∷ k ∷ e ∷ _) = Ok (SetDaqPtr (word l0 l1) k e)
set_daq_ptr _ = Err CmdSyntax

abbrev pub write_daq : List ℕ → Result Command ErrCode
write_daq (bit ∷ size ∷ ext ∷ a ∷ b ∷ c ∷ d ∷ _) = Ok (WriteDaq bit size ext (dword a b c d))
write_daq _ = Err CmdSyntax

abbrev pub set_daq_list_mode : List ℕ → Result Command ErrCode
set_daq_list_mode (mode ∷ l0 ∷ l1 ∷ c0 ∷ c1 ∷ prescaler ∷ priority ∷ _) =
    Ok (SetDaqListMode mode (word l0 l1) (word c0 c1) prescaler priority)
set_daq_list_mode _ = Err CmdSyntax

abbrev pub start_stop_daq_list : List ℕ → Result Command ErrCode
start_stop_daq_list (mode ∷ l0 ∷ l1 ∷ _) = Ok (StartStopDaqList mode (word l0 l1))
start_stop_daq_list _ = Err CmdSyntax

abbrev pub start_stop_synch : List ℕ → Result Command ErrCode
start_stop_synch (mode ∷ _) = Ok (StartStopSynch mode)
start_stop_synch _ = Err CmdSyntax

-- the command of a packet, or its error, computed from the bytes
abbrev pub command : List ℕ → Result Command ErrCode
command [] = Err CmdSyntax
command (code ∷ more) =
    if code == 0xD6 then Ok FreeDaq
    else if code == 0xD5 then alloc_daq more
    else if code == 0xD4 then alloc_odt more
    else if code == 0xD3 then alloc_odt_entry more
    else if code == 0xE2 then set_daq_ptr more
    else if code == 0xE1 then write_daq more
    else if code == 0xE0 then set_daq_list_mode more
    else if code == 0xDE then start_stop_daq_list more
    else if code == 0xDD then start_stop_synch more
    else Err CmdUnknown
