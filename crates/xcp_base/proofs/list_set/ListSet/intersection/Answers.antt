use Rattle.std.proofs.Common.{◌&&◌, ap, ◌∙◌}
use Rattle.xcp_base.specs.Lists.{has_list}
use Rattle.xcp_base.proofs.BitLemmas.{has-intersection}
use Rattle.xcp_base.proofs.list_set.ListSet.intersection.Goals as goal

pub returns : goal.returns
returns c = λ k.
    has-intersection c.self.inside.bits c.other.inside.bits k
    ∙ ap (λ n. has_list n k && has_list c.other.inside.bits k) c.self.view_is
    ∙ ap (λ n. has_list c.args.self k && has_list n k) c.other.view_is
