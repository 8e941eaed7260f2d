use Rattle.std.proofs.Common.{sym, subst, arith}
use Rattle.capture.specs.Inner.{IsWhole}
use Rattle.capture.specs.Units.{RefusesStep}
use Rattle.capture.proofs.NextLemmas.{going-none, going-refuses, handed-on}
use Rattle.capture.proofs.capture_reader.CaptureReader.next_block.Goals as goal

-- no block begins here, or it is too long
pub returns-in_err-len-clause-err : goal.returns-in_err-len-clause-err
returns-in_err-len-clause-err c =
    let old = c.args.self.now in
    let bytes = c.args.bytes.now in
    handed-on c.from_residual.result (RefusesStep old bytes) _ c.from_residual.ensures.1
    (going-refuses old bytes (omega (arith, c.if-bytes-lt-SHORTEST.false)) _ c.args.order c.requires (sym c.if-is_section_header.ensures) c.in_err-len.ensures.err)

-- it is none of its type
pub returns-in_err-packet-clause-err : goal.returns-in_err-packet-clause-err
returns-in_err-packet-clause-err c =
    let old = c.args.self.now in
    let bytes = c.args.bytes.now in
    let e = subst (IsWhole c.args.order bytes) c.in-Block.is c.in_ok-len.ensures.ok in
    handed-on c.from_residual-in_err-packet.result (RefusesStep old bytes) _ c.from_residual-in_err-packet.ensures.1
    (going-none old bytes (omega (arith, c.if-bytes-lt-SHORTEST.false)) _ c.args.order c.in-Block.len c.requires (sym c.if-is_section_header.ensures) e.1 e.2 c.in_err-packet.ensures.err)
