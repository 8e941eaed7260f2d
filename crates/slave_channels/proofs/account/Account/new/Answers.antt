use Rattle.std.proofs.Common.{ap, ◌∙◌}
use Rattle.std.specs.Prelude.{slice_get}
use Rattle.xcp_base.specs.declared.limits.TheConstants.{MAX_LISTS}
use Rattle.slave_channels.specs.declared.sums.TheConstants.{NO_SUMS}
use Rattle.slave_channels.proofs.AccountLemmas.{all-same, none-stands}
use Rattle.slave_channels.proofs.account.Account.new.Goals as goal

-- each place has zeros
pub returns : goal.returns
returns c = record { stands = none-stands _ (λ l below. ap (λ xs. slice_get xs l) c.of.ensures ∙ all-same NO_SUMS MAX_LISTS l below) }
