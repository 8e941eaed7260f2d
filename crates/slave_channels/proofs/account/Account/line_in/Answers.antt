use Rattle.std.proofs.Common.{subst, sym, ap, ◌∙◌, arith, nat_eq}
use Rattle.std.proofs.lemmas.Option.{slice_get_within}
use Rattle.slave_channels.specs.Accounts.{AccountStandsAfter, AccountState, Entry, of_measurement, row}
use Rattle.slave_channels.proofs.SumLemmas.{is-line, of-are, sums-at}
use Rattle.slave_channels.proofs.account.Account.line_in.Goals as goal

-- the sum with so many measurements behind it is that of the measurement
pub returns-clause-some : goal.returns-clause-some
returns-clause-some c entries unsent stands =
    let inside = subst (λ account. AccountStandsAfter account entries unsent) (sym c.self.view_is) stands in
    let sums = sums-at (record { lists = c.self.inside.lists; end = c.self.inside.end }) c.args.l c.get.result (omega (arith, slice_get_within c.self.inside.lists c.args.l c.get.result c.get.ensures, c.self.invariant)) c.get.ensures entries unsent inside.has in
    let same = ap (λ (a : AccountState). a.end) c.self.view_is in
    let behind = c.behind-behind.ensures.within (omega (arith, c.if-number-self.false, same)) ∙ sym same in
    is-line (of_measurement c.args.number entries) (unsent c.args.number c.args.l) c.args.l (row c.behind-behind.result c.get.result) c.line_from.result
    (of-are (λ (e : Entry). nat_eq e.number c.args.number) entries inside.has.entries_are) c.line_from.ensures.list (c.line_from.ensures.totals ∙ c.row.ensures.value)
    (sums.each c.args.number c.behind-behind.result behind (omega (arith, c.if-behind-ge-LAST.false)))
