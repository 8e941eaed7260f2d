use Rattle.std.proofs.Common.{ap, arith}
use Rattle.slave_channels.specs.Accounts.{AccountState}
use Rattle.slave_channels.proofs.account.Account.reach.Goals as goal

-- one measurement more, short of the end
pub loop-self-preserved : goal.loop-self-preserved
loop-self-preserved c = record {
  within = omega (arith, c.loop-self.invariant.within, c.advance.ensures.end, c.loop-self-test.true, ap (λ (a : AccountState). a.end) c.self.view_is);
  keeps = λ entries unsent has. c.advance.ensures.keeps entries unsent (c.loop-self.invariant.keeps entries unsent has);
}
