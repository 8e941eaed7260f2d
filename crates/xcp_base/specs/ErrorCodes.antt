-- The bytes of the error codes (ASAM MCD-1 XCP, protocol layer, error codes).
use Rattle.std.specs.Prelude.{ℕ}
use Rattle.xcp_base.specs.declared.err_code.ErrCode.{ErrCode}
use Rattle.xcp_base.specs.declared.err_code.ErrCode.TheVariants.{CmdSynch, CmdBusy}
use Rattle.xcp_base.specs.declared.err_code.ErrCode.TheVariants.{DaqActive, CmdUnknown, CmdSyntax}
use Rattle.xcp_base.specs.declared.err_code.ErrCode.TheVariants.{OutOfRange, AccessDenied}
use Rattle.xcp_base.specs.declared.err_code.ErrCode.TheVariants.{ModeNotValid, Sequence}
use Rattle.xcp_base.specs.declared.err_code.ErrCode.TheVariants.{DaqConfig, MemoryOverflow}

-- the byte that stands for an error in an ERR packet
abbrev pub error_byte : ErrCode → ℕ
error_byte CmdSynch = 0x00
error_byte CmdBusy = 0x10
error_byte DaqActive = 0x11
error_byte CmdUnknown = 0x20
error_byte CmdSyntax = 0x21
error_byte OutOfRange = 0x22
error_byte AccessDenied = 0x24
error_byte ModeNotValid = 0x27
error_byte Sequence = 0x29
error_byte DaqConfig = 0x2A
error_byte MemoryOverflow = 0x30
