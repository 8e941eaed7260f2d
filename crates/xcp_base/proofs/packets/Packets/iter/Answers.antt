use Rattle.std.proofs.Common.{ap, ◌∙◌}
use Rattle.xcp_base.specs.Inner.{packets_in}
use Rattle.xcp_base.proofs.IterLemmas.{is_whole_body, packets_in-body_of}
use Rattle.xcp_base.proofs.packets.Packets.iter.Goals as goal

pub invariant_of-result : goal.invariant_of-result
invariant_of-result c = is_whole_body c.body.result.now c.args.self.now c.body.ensures.value

pub returns-clause-value : goal.returns-clause-value
returns-clause-value c = ap packets_in c.body.ensures.value ∙ packets_in-body_of c.args.self.now
