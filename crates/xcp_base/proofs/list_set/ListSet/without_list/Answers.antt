use Rattle.std.proofs.Common.{◌&&◌, not, nat_eq, ap, ◌∙◌}
use Rattle.xcp_base.specs.Lists.{has_list}
use Rattle.xcp_base.proofs.BitLemmas.{has-without}
use Rattle.xcp_base.proofs.list_set.ListSet.without_list.Goals as goal

pub returns : goal.returns
returns c = λ k below.
    has-without c.self.inside.bits c.byte.result k c.byte.ensures.below below
    ∙ ap (λ n. has_list n k && not (nat_eq c.byte.result k)) c.self.view_is
    ∙ ap (λ n. has_list c.args.self k && not (nat_eq n k)) c.byte.ensures.value
