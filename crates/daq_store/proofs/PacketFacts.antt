-- Worked examples of command packets, on literals: a wrong rule in specs/ does not check here.
use Rattle.std.proofs.Common.{◌≡◌, ℕ, List, [], ◌∷◌, Some, None, Ok, lit<, refl}
use Rattle.xcp_base.specs.declared.err_code.ErrCode.TheVariants.{CmdSyntax, CmdUnknown}
use Rattle.xcp_base.specs.Forms.{usual_form}
use Rattle.segments.specs.Image.{image_segments}
use Rattle.daq_store.specs.declared.command.Command.TheVariants.{AllocDaq, SetDaqListMode, WriteDaq}
use Rattle.daq_store.specs.declared.reply.Reply.TheVariants.{Read}
use Rattle.daq_store.specs.Calls.{Profile}
use Rattle.daq_store.specs.Commands.{IsPacketOf, command, command_bytes, packet_fault}
use Rattle.daq_store.specs.Replies.{replies, reply_bytes}

-- WORDs and DWORDs have the least significant byte first
bytes-write_daq : command_bytes (WriteDaq 0xFF 0x02 0x00 0x04030201) 0 ≡ 0xE1 ∷ 0xFF ∷ 0x02 ∷ 0x00 ∷ 0x01 ∷ 0x02 ∷ 0x03 ∷ 0x04 ∷ []
bytes-write_daq = refl

command-set_daq_list_mode : command (0xE0 ∷ 0x10 ∷ 0x01 ∷ 0x02 ∷ 0x03 ∷ 0x04 ∷ 0x05 ∷ 0x06 ∷ []) ≡ Ok (SetDaqListMode 0x10 0x0201 0x0403 0x05 0x06)
command-set_daq_list_mode = refl

-- a reserved byte may have any value, and a surplus is ignored
surplus-alloc_daq : IsPacketOf (0xD5 ∷ 0xAA ∷ 0x01 ∷ 0x00 ∷ 0x55 ∷ []) (AllocDaq 1)
surplus-alloc_daq = record { sets_up = tt; fields = lit< tt; reserved = 0xAA; surplus = 0x55 ∷ []; bytes = refl }

-- empty, of no known code, too short, long enough
fault-empty : packet_fault [] ≡ Some CmdSyntax
fault-empty = refl

fault-unknown : packet_fault (0xC0 ∷ []) ≡ Some CmdUnknown
fault-unknown = refl

-- the codes of CLEAR_DAQ_LIST and READ_DAQ are none of the nine
fault-clear : packet_fault (0xE3 ∷ 0 ∷ 0 ∷ 0 ∷ []) ≡ Some CmdUnknown
fault-clear = refl

fault-read : packet_fault (0xDB ∷ []) ≡ Some CmdUnknown
fault-read = refl

fault-short : packet_fault (0xE1 ∷ 0xFF ∷ 0x02 ∷ []) ≡ Some CmdSyntax
fault-short = refl

fault-none : packet_fault (0xDD ∷ 0x00 ∷ []) ≡ None
fault-none = refl

profile : Profile
profile = record { channels = 1; most_odts = 8; most_entries = 32; segments = image_segments 4; form = usual_form }

RES : List ℕ
RES = 0xFF ∷ []

-- allocations in and out of their sequence
replies-sequence : replies profile []
    ((0xD4 ∷ 0 ∷ 0 ∷ 0 ∷ 1 ∷ []) ∷ (0xD5 ∷ 0 ∷ 1 ∷ 0 ∷ []) ∷ (0xD4 ∷ 0 ∷ 0 ∷ 0 ∷ 1 ∷ []) ∷ (0xD3 ∷ 0 ∷ 0 ∷ 0 ∷ 0 ∷ 1 ∷ [])
    ∷ (0xD4 ∷ 0 ∷ 0 ∷ 0 ∷ 1 ∷ []) ∷ (0xD5 ∷ 0 ∷ 1 ∷ 0 ∷ []) ∷ (0xD3 ∷ 0 ∷ 0 ∷ 0 ∷ 0 ∷ 2 ∷ []) ∷ [])
    ≡ (0xFE ∷ 0x29 ∷ []) ∷ RES ∷ RES ∷ RES ∷ (0xFE ∷ 0x29 ∷ []) ∷ (0xFE ∷ 0x29 ∷ []) ∷ RES ∷ []
unfolding profile RES
replies-sequence = refl

-- a DAQ list is set up and started
replies-set_up : replies profile []
    ((0xD6 ∷ []) ∷ (0xD5 ∷ 0 ∷ 1 ∷ 0 ∷ []) ∷ (0xD4 ∷ 0 ∷ 0 ∷ 0 ∷ 1 ∷ []) ∷ (0xD3 ∷ 0 ∷ 0 ∷ 0 ∷ 0 ∷ 1 ∷ [])
    ∷ (0xE2 ∷ 0 ∷ 0 ∷ 0 ∷ 0 ∷ 0 ∷ []) ∷ (0xE1 ∷ 0xFF ∷ 2 ∷ 0 ∷ 0 ∷ 0 ∷ 0 ∷ 0 ∷ [])
    ∷ (0xE0 ∷ 0 ∷ 0 ∷ 0 ∷ 0 ∷ 0 ∷ 1 ∷ 0 ∷ []) ∷ (0xDE ∷ 1 ∷ 0 ∷ 0 ∷ []) ∷ [])
    ≡ RES ∷ RES ∷ RES ∷ RES ∷ RES ∷ RES ∷ RES ∷ (0xFF ∷ 0x00 ∷ []) ∷ []
unfolding profile RES
replies-set_up = refl

-- the reply to READ_DAQ has the entry's address extension
bytes-read : reply_bytes (Read 0x02 0x01 0x04030201) ≡ 0xFF ∷ 0xFF ∷ 0x02 ∷ 0x01 ∷ 0x01 ∷ 0x02 ∷ 0x03 ∷ 0x04 ∷ []
bytes-read = refl

-- packets that are no command of the profile, and one that is
replies-faults : replies profile [] ((0xC0 ∷ []) ∷ [] ∷ (0xD6 ∷ []) ∷ []) ≡ (0xFE ∷ 0x20 ∷ []) ∷ (0xFE ∷ 0x21 ∷ []) ∷ RES ∷ []
unfolding profile RES
replies-faults = refl
