-- The commands of a master that tell of DAQ lists (ASAM MCD-1 XCP, protocol layer): the code of a
-- command, and what follows it. A longer packet is one of the command too; a packet that is too
-- short is of none. One without bytes stands for a command that is missing in the capture.
use Rattle.std.specs.Prelude.{ℕ, ◌+◌, ◌*◌, ◌==◌, if◌then◌else◌, List, [], ◌∷◌}
use Rattle.measured_values.specs.declared.byte_order.ByteOrder.{ByteOrder}
use Rattle.measured_values.specs.declared.byte_order.ByteOrder.TheVariants.{MsbFirst, MsbLast}
use Rattle.captured_session.specs.declared.command.Command.{Command}
use Rattle.captured_session.specs.declared.command.Command.TheVariants.{AllocDaq, AllocOdt}
use Rattle.captured_session.specs.declared.command.Command.TheVariants.{AllocOdtEntry, ClearDaqList}
use Rattle.captured_session.specs.declared.command.Command.TheVariants.{Connect, FreeDaq, Missing}
use Rattle.captured_session.specs.declared.command.Command.TheVariants.{Other}
use Rattle.captured_session.specs.declared.command.Command.TheVariants.{ProcessorInfo}
use Rattle.captured_session.specs.declared.command.Command.TheVariants.{ResolutionInfo, SetDaqPtr}
use Rattle.captured_session.specs.declared.command.Command.TheVariants.{SetDaqListMode}
use Rattle.captured_session.specs.declared.command.Command.TheVariants.{StartStopDaqList, WriteDaq}
use Rattle.captured_session.specs.declared.command.Command.TheVariants.{WriteDaqMultiple}

-- a WORD and a DWORD of their bytes
abbrev pub word : ByteOrder → ℕ → ℕ → ℕ
word MsbLast a b = a + 256 * b
word MsbFirst a b = b + 256 * a

abbrev pub dword : ByteOrder → ℕ → ℕ → ℕ → ℕ → ℕ
dword MsbLast a b c d = a + 256 * b + 65536 * c + 16777216 * d
dword MsbFirst a b c d = d + 256 * c + 65536 * b + 16777216 * a

-- each command of what follows its code
abbrev pub alloc_odt : ByteOrder → List ℕ → Command
alloc_odt order (_ ∷ a ∷ b ∷ n ∷ _) = AllocOdt (word order a b) n
alloc_odt order _ = Other

abbrev pub alloc_odt_entry : ByteOrder → List ℕ → Command
alloc_odt_entry order (_ ∷ a ∷ b ∷ k ∷ n ∷ _) = AllocOdtEntry (word order a b) k n
alloc_odt_entry order _ = Other

abbrev pub set_daq_ptr : ByteOrder → List ℕ → Command
set_daq_ptr order (_ ∷ a ∷ b ∷ k ∷ e ∷ _) = SetDaqPtr (word order a b) k e
set_daq_ptr order _ = Other

abbrev pub write_daq : ByteOrder → List ℕ → Command
write_daq order (bit ∷ size ∷ ext ∷ a ∷ b ∷ c ∷ d ∷ _) =
    WriteDaq
    record { bit = bit; size = size; extension = ext; address = dword order a b c d }
write_daq order _ = Other

abbrev pub write_daq_multiple : List ℕ → Command
write_daq_multiple (n ∷ _) = WriteDaqMultiple n
write_daq_multiple _ = Other

abbrev pub set_daq_list_mode : ByteOrder → List ℕ → Command
set_daq_list_mode order (bits ∷ a ∷ b ∷ c ∷ d ∷ prescaler ∷ _) =
    SetDaqListMode (word order a b)
    record { bits = bits; channel = word order c d; prescaler = prescaler }
set_daq_list_mode order _ = Other

abbrev pub clear_daq_list : ByteOrder → List ℕ → Command
clear_daq_list order (_ ∷ a ∷ b ∷ _) = ClearDaqList (word order a b)
clear_daq_list order _ = Other

abbrev pub start_stop_daq_list : ByteOrder → List ℕ → Command
start_stop_daq_list order (_ ∷ a ∷ b ∷ _) = StartStopDaqList (word order a b)
start_stop_daq_list order _ = Other

-- the command of a code, and of what follows it
abbrev pub command_by : ByteOrder → ℕ → List ℕ → Command
command_by order code fields =
    if code == 0xFF then Connect
    else if code == 0xDA then ProcessorInfo
    else if code == 0xD9 then ResolutionInfo
    else if code == 0xD6 then FreeDaq
    else if code == 0xD5 then AllocDaq
    else if code == 0xD4 then alloc_odt order fields
    else if code == 0xD3 then alloc_odt_entry order fields
    else if code == 0xE2 then set_daq_ptr order fields
    else if code == 0xE1 then write_daq order fields
    else if code == 0xC7 then write_daq_multiple fields
    else if code == 0xE0 then set_daq_list_mode order fields
    else if code == 0xE3 then clear_daq_list order fields
    else if code == 0xDE then start_stop_daq_list order fields
    else Other

abbrev pub command_of : ByteOrder → List ℕ → Command
command_of order [] = Missing
command_of order (code ∷ fields) = command_by order code fields
