use Rattle.std.proofs.Common.{◌≡◌, ◌+◌, subst, sym, ap, ◌∙◌, arith}
use Rattle.slave_channels.specs.Accounts.{AccountState, HasEntries}
use Rattle.slave_channels.proofs.AccountLemmas.{adds}
use Rattle.slave_channels.proofs.account.Account.add.Goals as goal

-- the lines of the part were added, in its measurement's row
pub returns : goal.returns
returns c = record {
  adds = λ entry number small is there entries unsent stands.
      let number_is : entry.number ≡ c.number-number.result = number ∙ sym c.number-number.ensures.number in
      let view = ap (λ (a : AccountState). a.end) c.self.view_is in
      let reaches = c.reach.ensures.reaches in
      let end_is : c.saturating_add.result ≡ c.number-number.result + 1 = omega (arith, c.saturating_add.ensures, number_is, small) in
      let behind = c.behind-behind.ensures.within (omega (arith, reaches, end_is)) in
      let has = subst (λ account. HasEntries account entries unsent) (sym c.self.view_is) (c.reach.ensures.keeps entries unsent stands.has) in
      record {
        has = adds _ c.behind-behind.result c.self.inside.end c.self.inside.lists c.add_lines.new.lists c.add_lines.ensures.adds entry (omega (arith, behind, number_is, view)) is there entries unsent has;
        end_is = omega (arith, view, reaches, stands.end_is, end_is, number_is);
      };
}
