use Rattle.std.proofs.Common.{rules}
use Rattle.segments.proofs.OrderLemmas.{are_within}
use Rattle.segments.proofs.segments.Segments.new.Goals as goal

-- they are within their limits
pub invariant_of-result : goal.invariant_of-result
invariant_of-result c = search (rules, are_within)
