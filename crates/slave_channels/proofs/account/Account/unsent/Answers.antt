use Rattle.std.proofs.Common.{subst, sym, ap, ◌∙◌, arith}
use Rattle.slave_channels.specs.Accounts.{AccountStandsAfter, AccountState}
use Rattle.slave_channels.proofs.AccountLemmas.{unsent-stands}
use Rattle.slave_channels.proofs.account.Account.unsent.Goals as goal

-- so many of the list's samples were moved, in the measurement's row
pub returns : goal.returns
returns c = record {
  unsent = λ entries unsent there stands.
      let inside = subst (λ account. AccountStandsAfter account entries unsent) (sym c.self.view_is) stands in
      let behind = c.behind-behind.ensures.within (omega (arith, there, inside.end_is, ap (λ (a : AccountState). a.end) c.self.view_is)) in
      record {
        has = unsent-stands c.self.inside.lists c.move_some.new.lists c.self.inside.end c.args.number c.behind-behind.result c.args.l c.args.n (omega (arith, c.ranges.n.fits))
            (behind ∙ sym (ap (λ (a : AccountState). a.end) c.self.view_is)) c.move_some.ensures.changes entries unsent there inside.has;
        end_is = inside.end_is;
      };
}
