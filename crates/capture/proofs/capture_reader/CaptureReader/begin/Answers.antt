use Rattle.std.proofs.Common.{refl, sym, arith}
use Rattle.capture.proofs.NextLemmas.{header-none}
use Rattle.capture.proofs.capture_reader.CaptureReader.begin.Goals as goal

-- the bytes begin no file of libpcap
pub returns-in_default-clause-err : goal.returns-in_default-clause-err
returns-in_default-clause-err c = (
  c.requires,
  header-none c.args.self.now c.args.bytes.now (omega (arith, c.if-bytes-lt-HEADER.false)) c.requires (sym c.if-is_section_header.ensures) c.if-bytes-lt-HEADER.false
      (c.in_default.ensures.none refl),
)
