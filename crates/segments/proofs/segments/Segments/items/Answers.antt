use Rattle.std.proofs.Common.{rules}
use Rattle.segments.proofs.ImageLemmas.{have_image}
use Rattle.segments.proofs.segments.Segments.items.Goals as goal

-- they are within their limits
pub returns-clause-image : goal.returns-clause-image
returns-clause-image c = search (rules, have_image)
