use Rattle.std.proofs.Common.{arith}
use Rattle.segments.proofs.FitLemmas.{no_segment}
use Rattle.segments.proofs.ImageLemmas.{base_at, ends_within, len_at}
use Rattle.segments.proofs.image.image_place.Goals as goal

-- the address stands as far behind the segment's first byte in both
pub overflow_add-result : goal.overflow_add-result
overflow_add-result c =
    let i = c.in_ok-segment.segment in
    let held = c.in_ok-segment.ensures.holds in
    omega (arith, c.requires.image.len, c.image_start.ensures, held.ends, base_at c.args.segments.now i no_segment held.there, len_at c.args.segments.now i no_segment held.there, ends_within c.args.segments.now i no_segment held.there)
