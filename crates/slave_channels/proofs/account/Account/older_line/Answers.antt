use Rattle.std.proofs.Common.{◌-◌, subst, sym, arith, nat_lt}
use Rattle.std.proofs.lemmas.Option.{slice_get_within}
use Rattle.slave_channels.specs.Accounts.{AccountStandsAfter, AreTotals, Entry, before, end_of, sum_before}
use Rattle.slave_channels.specs.declared.sums.TheConstants.{LAST}
use Rattle.slave_channels.proofs.SumLemmas.{is-line, of-are, sums-at}
use Rattle.slave_channels.proofs.account.Account.older_line.Goals as goal

-- the last of the five sums is that of the measurements before
pub returns : goal.returns
returns c = record {
  line = λ entries unsent stands.
      let inside = subst (λ account. AccountStandsAfter account entries unsent) (sym c.self.view_is) stands in
      let sums = sums-at (record { lists = c.self.inside.lists; end = c.self.inside.end }) c.args.l c.get.result (omega (arith, slice_get_within c.self.inside.lists c.args.l c.get.result c.get.ensures, c.self.invariant)) c.get.ensures entries unsent inside.has in
      let n = end_of entries - LAST in
      is-line (before n entries) (sum_before n unsent c.args.l) c.args.l c.get.result.older c.line_from.result (of-are (λ (e : Entry). nat_lt e.number n) entries inside.has.entries_are)
      c.line_from.ensures.list c.line_from.ensures.totals
      (subst (λ m. AreTotals (before (m - LAST) entries) (sum_before (m - LAST) unsent c.args.l) c.args.l c.get.result.older) inside.end_is sums.older);
}
