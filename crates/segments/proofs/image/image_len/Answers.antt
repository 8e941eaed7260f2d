use Rattle.std.proofs.Common.{◌<◌, ◌-◌, arith, rules, length}
use Rattle.segments.proofs.FitLemmas.{no_segment}
use Rattle.segments.proofs.ImageLemmas.{last_ends}
use Rattle.segments.proofs.image.image_len.Goals as goal

-- it ends with the last segment
pub overflow_add-result : goal.overflow_add-result
overflow_add-result c =
    let some : 0 < length c.args.segments.now = search rules in
    omega (arith, c.requires.len, c.image_start.ensures, last_ends c.args.segments.now (length c.args.segments.now - 1) no_segment (omega (arith, some)))

pub returns : goal.returns
returns c =
    let some : 0 < length c.args.segments.now = search rules in
    omega (arith, c.image_start.ensures, last_ends c.args.segments.now (length c.args.segments.now - 1) no_segment (omega (arith, some)))
