use Rattle.std.proofs.Common.{◌≡◌, ◌∙◌, ◌||◌, arith}
use Rattle.xcp_base.specs.declared.limits.TheConstants.{MAX_LISTS}
use Rattle.xcp_base.specs.Lists.{has_list}
use Rattle.xcp_base.specs.Counts.{how_many}
use Rattle.tasks.proofs.NeedLemmas.{how_many-same}
use Rattle.tasks.proofs.needs.places_for.Goals as goal

pub returns : goal.returns
returns c =
    let all : c.len-2.result ≡ how_many MAX_LISTS (λ l. has_list c.args.running l || has_list c.args.lists l)
    = c.len-2.ensures.value ∙ how_many-same MAX_LISTS (has_list c.union.result) (λ l. has_list c.args.running l || has_list c.args.lists l) (λ k h. c.union.ensures k) in
    omega (arith, c.len.ensures.value, all)
