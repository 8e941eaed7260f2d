use Rattle.std.proofs.Common.{ap, ◌∙◌, sym, ◌+◌}
use Rattle.frame_ring.specs.Records.{blocks_for}
use Rattle.frame_ring.proofs.RecordLemmas.{sample_cost}
use Rattle.frame_ring.proofs.record.sample_blocks.Goals as goal

pub returns-clause-cost : goal.returns-clause-cost
returns-clause-cost c = λ s is. ap (λ n. 2 + n) (c.blocks_for.ensures ∙ ap blocks_for is) ∙ sym (sample_cost s)
