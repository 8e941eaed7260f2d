use Rattle.std.proofs.Common.{arith, get_or, subst, sym}
use Rattle.std.proofs.lemmas.List.{take_rest}
use Rattle.xcp_base.specs.Bodies.{IsBodyOf}
use Rattle.byte_ring.specs.Reads.{IsSampleRead}
use Rattle.byte_ring.proofs.DecodeLemmas.{sample_of_record, sample_read}
use Rattle.byte_ring.proofs.decode.read_sample.Goals as goal

-- a sample's record is longer
pub returns-then-bytes-lt-HEAD-clause-no : goal.returns-then-bytes-lt-HEAD-clause-no
returns-then-bytes-lt-HEAD-clause-no c = λ _ x h is.
    let s = sample_of_record x c.args.bytes.now h is c.requires.kind in
    omega (arith, s.long)

-- and it has packets
pub returns-then-bytes-eq0-clause-no : goal.returns-then-bytes-eq0-clause-no
returns-then-bytes-eq0-clause-no c = λ _ x h is.
    let s = sample_of_record x c.args.bytes.now h is c.requires.kind in
    omega (arith, s.some, s.body.count, c.if-bytes-eq0.true)

pub returns-clause-yes : goal.returns-clause-yes
returns-clause-yes c = λ yes_read.
    let n = c.from_le_bytes-number.result in
    let read = subst (λ b. IsSampleRead (get_or c.args.bytes.now 1 0) (get_or c.args.bytes.now 2 0) n (get_or c.args.bytes.now 11 0) b c.read_into.new.item) (take_rest c.args.bytes.now 12) (rw (c.requires.channel.0, c.requires.list.0) (c.read_into.ensures.yes yes_read)) in
    (sample_read c.args.bytes.now n c.read_into.new.item c.if-bytes-lt-HEAD.false (λ i. omega (arith, c.type_inv.bytes i)) c.requires.kind (omega (arith, c.requires.channel.0, c.requires.channel.1)) (omega (arith, c.requires.list.0, c.requires.list.1)) c.if-bytes-eq0.false (omega (arith, c.from_le_bytes-number.type_inv)) c.from_le_bytes-number.ensures read).0

pub returns-clause-item : goal.returns-clause-item
returns-clause-item c = λ yes_read.
    let n = c.from_le_bytes-number.result in
    let read = subst (λ b. IsSampleRead (get_or c.args.bytes.now 1 0) (get_or c.args.bytes.now 2 0) n (get_or c.args.bytes.now 11 0) b c.read_into.new.item) (take_rest c.args.bytes.now 12) (rw (c.requires.channel.0, c.requires.list.0) (c.read_into.ensures.yes yes_read)) in
    (sample_read c.args.bytes.now n c.read_into.new.item c.if-bytes-lt-HEAD.false (λ i. omega (arith, c.type_inv.bytes i)) c.requires.kind (omega (arith, c.requires.channel.0, c.requires.channel.1)) (omega (arith, c.requires.list.0, c.requires.list.1)) c.if-bytes-eq0.false (omega (arith, c.from_le_bytes-number.type_inv)) c.from_le_bytes-number.ensures read).1

-- its packets would have been read
pub returns-clause-no : goal.returns-clause-no
returns-clause-no c = λ not_read x h is.
    let s = sample_of_record x c.args.bytes.now h is c.requires.kind in
    c.read_into.ensures.no not_read s.packets s.some (subst (λ b. IsBodyOf (get_or c.args.bytes.now 11 0) b s.packets) (sym (take_rest c.args.bytes.now 12)) s.body)
