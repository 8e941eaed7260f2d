use Rattle.std.proofs.Common.{arith, rules}
use Rattle.segments.proofs.FitLemmas.{no_segment}
use Rattle.segments.proofs.ImageLemmas.{ends_within, lies_at}
use Rattle.segments.proofs.image.lies_in.Goals as goal

-- a segment ends within the image
pub overflow_add-ends : goal.overflow_add-ends
overflow_add-ends c = omega (arith, c.requires.image.len, c.image_start-begins.ensures, ends_within c.args.segments.now c.args.i no_segment c.requires.there)

pub returns-then-begins-start : goal.returns-then-begins-start
returns-then-begins-start c =
    let is = lies_at c.args.channel c.args.segments.now c.args.start c.args.end c.args.i no_segment c.requires.there in
    search (rules, is)

pub returns-else-begins-start : goal.returns-else-begins-start
returns-else-begins-start c =
    let is = lies_at c.args.channel c.args.segments.now c.args.start c.args.end c.args.i no_segment c.requires.there in
    search (rules, is)
