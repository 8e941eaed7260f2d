use Rattle.std.proofs.Common.{subst, sym}
use Rattle.slave_channels.specs.Accounts.{HasEntries}
use Rattle.slave_channels.proofs.AccountLemmas.{advances}
use Rattle.slave_channels.proofs.account.Account.advance.Goals as goal

-- in the sums of all lists it began
pub returns-clause-keeps : goal.returns-clause-keeps
returns-clause-keeps c entries unsent has =
    advances c.self.inside.lists c.advance_lists.new.lists c.self.inside.end c.advance_lists.ensures.changes entries unsent
    (subst (λ account. HasEntries account entries unsent) (sym c.self.view_is) has)
