use Rattle.std.proofs.Common.{◌∙◌, ap}
use Rattle.rtrb.specs.Ring.{received}
use Rattle.frame_ring.specs.Reading.{items_in}
use Rattle.frame_ring.proofs.HeldLemmas.{are_none, counts_none}
use Rattle.frame_ring.proofs.RecordLemmas.{nothing_read}
use Rattle.frame_ring.proofs.frame_take.FrameTake.new.Goals as goal

pub invariant_of-result : goal.invariant_of-result
invariant_of-result c =
    record {
      whole = are_none (received c.args.consumer) c.requires;
      counted = counts_none (received c.args.consumer) (ap items_in c.requires ∙ nothing_read);
    }
