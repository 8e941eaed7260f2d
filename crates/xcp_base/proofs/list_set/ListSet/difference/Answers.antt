use Rattle.std.proofs.Common.{◌&&◌, not, ap, ◌∙◌}
use Rattle.xcp_base.specs.Lists.{has_list}
use Rattle.xcp_base.proofs.BitLemmas.{has-difference}
use Rattle.xcp_base.proofs.list_set.ListSet.difference.Goals as goal

pub returns : goal.returns
returns c = λ k below.
    has-difference c.self.inside.bits c.other.inside.bits k c.other.invariant below
    ∙ ap (λ n. has_list n k && not (has_list c.other.inside.bits k)) c.self.view_is
    ∙ ap (λ n. has_list c.args.self k && not (has_list n k)) c.other.view_is
