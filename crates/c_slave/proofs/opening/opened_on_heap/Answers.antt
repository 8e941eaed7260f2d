use Rattle.std.proofs.Common.{subst, sym}
use Rattle.std.proofs.lemmas.Result.{IfOk-weaker}
use Rattle.c_slave.specs.declared.content.Content.{Content}
use Rattle.c_slave.specs.Openings.{IsSlaveOf}
use Rattle.c_slave.proofs.opening.opened_on_heap.Goals as goal

-- the slave is in the box
pub returns-clause-ok : goal.returns-clause-ok
returns-clause-ok c =
    IfOk-weaker c.boxed.result _ _ (λ it is. record {
      profile = c.in_ok-profile.profile;
      good = c.in_ok-profile.ensures.ok;
      opened =
          subst (λ (content : Content). IsSlaveOf c.in_ok-profile.profile content) (sym is)
          c.in_ok-content.ensures.ok;
    }) c.boxed.ensures.ok
