use Rattle.std.proofs.Common.{sym, ◌∙◌, arith}
use Rattle.std.proofs.lemmas.Bool.{false≢true}
use Rattle.rtrb.specs.Ring.{received}
use Rattle.byte_ring.specs.Fronts.{part}
use Rattle.byte_ring.proofs.FrontLemmas.{counts_none, holds_nothing}
use Rattle.byte_ring.proofs.byte_take.ByteTake.new.Goals as goal

-- nothing was popped
pub invariant_of-result : goal.invariant_of-result
invariant_of-result c =
    let n = c.nothing.ensures in
    let popped = received c.args.consumer in
    record {
      held = holds_nothing popped (part c.nothing.result) c.requires.popped n.part;
      ready = record { there = omega (arith, n.ahead); first = λ yes_item. absurd (false≢true (sym n.is_ready ∙ yes_item)) };
      counted = counts_none popped c.requires.popped;
    }
