-- Why a packet doesn't go on with a sample of a DAQ list: the first check that fails.
use Rattle.std.specs.Prelude.{ℕ, ◌==◌, nat_lt, Bool, not, if◌then◌else◌, List, length}
use Rattle.std.specs.Prelude.{slice_index, Option, Some, None, true, false}
use Rattle.xcp_base.specs.Forms.{field_len}
use Rattle.xcp_base.specs.Packets.{packet_len}
use Rattle.copy_plan.specs.Config.{ListPlan, elements_len}
use Rattle.copy_plan.specs.Pids.{pid}
use Rattle.daq_reader.specs.declared.packet_fault.PacketFault.{PacketFault}
use Rattle.daq_reader.specs.declared.packet_fault.PacketFault.TheVariants.{OtherList}
use Rattle.daq_reader.specs.declared.packet_fault.PacketFault.TheVariants.{OutOfTurn, WrongLength}
use Rattle.daq_reader.specs.Recorded.{is_of_list}

-- the first byte is the PID of ODT k, in ODT 0 with or without the overload indication
abbrev pub is_pid : ListPlan → ℕ → List ℕ → Bool
is_pid plan k q =
    if slice_index q 0 == pid plan k false then true else slice_index q 0 == pid plan k true

-- the bytes of the packet of ODT k
abbrev pub len_of : ListPlan → ℕ → ℕ
len_of plan k = packet_len plan.form plan.stamped k (elements_len plan k)

-- what is wrong with a packet if that of ODT k is awaited: it is of another list, as is one that is
-- shorter than an identification field; or else of another ODT; or else it has another length
abbrev pub fault_of : ListPlan → ℕ → List ℕ → Option PacketFault
fault_of plan k q =
    if nat_lt (length q) (field_len plan.form.id) then Some OtherList
    else if not (is_of_list plan q) then Some OtherList
    else if not (is_pid plan k q) then Some OutOfTurn
    else if length q == len_of plan k then None else Some WrongLength
