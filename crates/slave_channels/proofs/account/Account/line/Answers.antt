use Rattle.std.proofs.Common.{subst, sym, ◌∙◌, arith}
use Rattle.std.proofs.lemmas.Option.{slice_get_within}
use Rattle.slave_channels.specs.Accounts.{AccountStandsAfter, AreTotals, end_of, sum_before}
use Rattle.slave_channels.specs.AccountInner.{all_of}
use Rattle.slave_channels.proofs.SumLemmas.{is-line, sums-at}
use Rattle.slave_channels.proofs.SumsLemmas.{all-are}
use Rattle.slave_channels.proofs.account.Account.line.Goals as goal

-- the five sums of the list are all
pub returns : goal.returns
returns c = record {
  line = λ entries unsent stands.
      let inside = subst (λ account. AccountStandsAfter account entries unsent) (sym c.self.view_is) stands in
      let sums = sums-at (record { lists = c.self.inside.lists; end = c.self.inside.end }) c.args.l c.get.result (omega (arith, slice_get_within c.self.inside.lists c.args.l c.get.result c.get.ensures, c.self.invariant)) c.get.ensures entries unsent inside.has in
      let are = all-are c.self.inside.end c.args.l entries unsent c.get.result sums inside.has.reach in
      is-line entries (sum_before (end_of entries) unsent c.args.l) c.args.l (all_of c.get.result) c.line_from.result inside.has.entries_are c.line_from.ensures.list (c.line_from.ensures.totals ∙ c.all.ensures)
      (subst (λ n. AreTotals entries (sum_before n unsent c.args.l) c.args.l (all_of c.get.result)) inside.end_is are);
}
