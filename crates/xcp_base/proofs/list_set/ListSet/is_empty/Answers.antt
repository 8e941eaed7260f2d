use Rattle.std.proofs.Common.{◌≡◌, ℕ, ◌<◌, true, subst}
use Rattle.xcp_base.specs.declared.limits.TheConstants.{MAX_LISTS}
use Rattle.xcp_base.specs.Lists.{has_list}
use Rattle.xcp_base.proofs.BitLemmas.{has-some}
use Rattle.xcp_base.proofs.list_set.ListSet.is_empty.Goals as goal

-- a number that is not zero has a bit
pub returns-clause-some : goal.returns-clause-some
returns-clause-some c = λ is.
    subst (λ n. (l : ℕ) × (l < MAX_LISTS) × (has_list n l ≡ true)) c.self.view_is (has-some c.self.inside.bits c.self.invariant is)
