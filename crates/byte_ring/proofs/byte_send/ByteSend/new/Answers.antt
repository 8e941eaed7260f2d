use Rattle.rtrb.specs.Ring.{sent}
use Rattle.byte_ring.proofs.FrontLemmas.{are_no_records, counts_none}
use Rattle.byte_ring.proofs.byte_send.ByteSend.new.Goals as goal

-- nothing was sent
pub invariant_of-result : goal.invariant_of-result
invariant_of-result c =
    record {
      whole = are_no_records (sent c.args.producer) c.requires;
      counted = counts_none (sent c.args.producer) c.requires;
    }
