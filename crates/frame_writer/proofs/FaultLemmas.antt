-- Which fault an open frame writer answers.
use Rattle.std.proofs.Common.{◌≡◌, Bool, false, true, refl}
use Rattle.std.specs.Prelude.{Err, IsErrOf}
use Rattle.frame_writer.specs.declared.writer.WriteFault.{WriteFault}
use Rattle.frame_writer.specs.declared.writer.WriteFault.TheVariants.{Failed, Closed}

-- `Closed` comes only where it was closed before
pub failed_while_open : {T : Type 0} (closed : Bool) (fault : WriteFault) → closed ≡ false
    → (IsErrOf {T = T} (Err fault) Closed → closed ≡ true) → IsErrOf {T = T} (Err fault) Failed
failed_while_open closed Failed is_open only = refl
failed_while_open closed Closed is_open only = cc (only refl)
