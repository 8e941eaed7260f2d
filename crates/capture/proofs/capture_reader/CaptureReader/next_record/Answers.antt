use Rattle.std.proofs.Common.{◌+◌, ap, refl, arith}
use Rattle.capture.proofs.RecordLemmas.{is-record, next-record, record-len, takes-record}
use Rattle.capture.proofs.capture_reader.CaptureReader.next_record.Goals as goal

-- the next record is longer than any that is read
pub returns-then-len-gt-MAX_UNIT-clause-err : goal.returns-then-len-gt-MAX_UNIT-clause-err
returns-then-len-gt-MAX_UNIT-clause-err c more unit behind own new same next =
    let r = next-record c.args.header c.args.self.now unit own new c.requires next in
    let len = record-len c.args.header c.args.bytes.now more unit behind same (omega (arith, c.if-bytes-lt-RECORD_HEAD.false)) r in
    omega (arith, len, c.number_at.ensures.value, c.if-len-gt-MAX_UNIT.true)

-- it isn't there whole
pub returns-then-bytes-len-clause-ok : goal.returns-then-bytes-len-clause-ok
returns-then-bytes-len-clause-ok c = (
  omega (arith, c.if-bytes-len.true),
  omega (arith, c.if-len-gt-MAX_UNIT.false),
  refl,
  λ more unit behind own new same next.
      let r = next-record c.args.header c.args.self.now unit own new c.requires next in
      let len = record-len c.args.header c.args.bytes.now more unit behind same (omega (arith, c.if-bytes-lt-RECORD_HEAD.false)) r in
      omega (arith, len, c.number_at.ensures.value),
)

-- it is a record
pub packet_in-requires : goal.packet_in-requires
packet_in-requires c = is-record c.args.header c.args.bytes.now _ (ap (λ n. 16 + n) c.number_at.ensures.value) (omega (arith, c.if-bytes-len.false))

pub returns-clause-ok : goal.returns-clause-ok
returns-clause-ok c = (
  omega arith,
  omega (arith, c.if-bytes-len.false),
  takes-record c.args.header c.args.self.now _ _ c.requires
      (is-record c.args.header c.args.bytes.now _ (ap (λ n. 16 + n) c.number_at.ensures.value) (omega (arith, c.if-bytes-len.false))) c.packet_in.ensures,
)
