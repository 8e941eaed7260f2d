use Rattle.std.proofs.Common.{arith, sym, ◌≡◌, [], ◌<◌, length}
use Rattle.std.proofs.lemmas.Grind.{common_steps}
use Rattle.std.proofs.lemmas.List.{nil_from_length}
use Rattle.byte_ring.proofs.HeldLemmas.{least-long, least-marker, least-nil, least-short}
use Rattle.byte_ring.proofs.held.least_len.Goals as goal

pub returns-then-is_empty-clause-value : goal.returns-then-is_empty-clause-value
returns-then-is_empty-clause-value c =
    let none : c.args.bytes.now ≡ [] = grind (arith, common_steps, nil_from_length c.args.bytes.now) in
    sym (least-nil c.args.bytes.now none)

pub returns-then-bytes-ne-SAMPLE-clause-value : goal.returns-then-bytes-ne-SAMPLE-clause-value
returns-then-bytes-ne-SAMPLE-clause-value c =
    let some : 0 < length c.args.bytes.now = grind (arith, common_steps) in
    sym (least-marker c.args.bytes.now some (λ e. omega (arith, e)))

pub returns-then-bytes-lt-HEAD-clause-value : goal.returns-then-bytes-lt-HEAD-clause-value
returns-then-bytes-lt-HEAD-clause-value c =
    let some : 0 < length c.args.bytes.now = grind (arith, common_steps) in
    sym (least-short c.args.bytes.now some (omega arith) (omega arith))

pub returns-clause-value : goal.returns-clause-value
returns-clause-value c = omega (arith, least-long c.args.bytes.now (omega arith) (omega arith))
