-- Each due sample was dropped or accepted, so totals add up.
use Rattle.std.proofs.Common.{◌≡◌, ℕ, ◌+◌, ◌<◌, All, List, [], ◌∷◌, refl, sym, ◌∙◌, subst, arith}
use Rattle.std.specs.Prelude.{Bool, filter, slice_get, Some}
use Rattle.std.proofs.lemmas.List.Elements.{All-filter, All-head, All-tail}
use Rattle.std.proofs.lemmas.List.Sums.{sum_by-cons}
use Rattle.xcp_base.specs.declared.limits.TheConstants.{MAX_LISTS}
use Rattle.daq_engine.specs.Order.{items_of}
use Rattle.slave_outbox.proofs.AccountLemmas.{line-stands}
use Rattle.daq_engine.specs.declared.report.ListReport.{ListReport}
use Rattle.slave_channels.specs.Accounts.{AccountState, Agree, AreSums, AreTotals, Entry, HasEntries, IsEntry, IsTotalLine, accepted_in, accepted_of, due_in, due_of, dropped_in, dropped_of, totals_in}
use Rattle.slave_channels.specs.declared.sums.Sums.{Sums}
use Rattle.slave_channels.specs.AccountLaws.{TotalsAddUp}
use Rattle.slave_channels.specs.declared.totals.Totals.{Totals}
use Rattle.slave_channels.proofs.TotalsLemmas.{agree-plus, agree-same}

-- in one entry: by the line of it, had nothing been taken
entry-adds_up : (e : Entry) (l : ℕ) → IsEntry e → due_of e l ≡ dropped_of e l + accepted_of e l
entry-adds_up e l is =
    let stands = line-stands e.past [] l is.plans is.decided (items_of e.past, refl) in
    omega (arith, stands.due_is, stands.dropped, stands.left, stands.adds_up, stands.written)

entries-add_up : (entries : List Entry) (l : ℕ) → All IsEntry entries → due_in entries l ≡ dropped_in entries l + accepted_in entries l
entries-add_up [] l are = refl
entries-add_up (e ∷ entries) l are =
    omega (
      arith,
      entry-adds_up e l (All-head IsEntry e entries are),
      entries-add_up entries l (All-tail IsEntry e entries are),
      sum_by-cons (λ x. due_of x l) e entries,
      sum_by-cons (λ x. dropped_of x l) e entries,
      sum_by-cons (λ x. accepted_of x l) e entries,
    )

totals-add_up : (entries : List Entry) (l : ℕ) → All IsEntry entries → (unsent : ℕ) (t : Totals) → AreTotals entries unsent l t → Agree t.due (t.written + t.dropped + t.left)
totals-add_up entries l are unsent t totals =
    totals.all_due
    ∙ agree-same (due_in entries l) (dropped_in entries l + accepted_in entries l) (entries-add_up entries l are)
    ∙ sym (agree-plus t.dropped (dropped_in entries l) (t.left + t.written) (accepted_in entries l) totals.dropped totals.left)
    ∙ agree-same (t.dropped + (t.left + t.written)) (t.written + t.dropped + t.left) (omega arith)

pub add_up : TotalsAddUp
add_up entries l are = (entries-add_up entries l are, totals-add_up entries l are)

-- of entries that are of one measurement, or before one
pub of-are : (p : Entry → Bool) (entries : List Entry) → All IsEntry entries → All IsEntry (filter p entries)
of-are p entries are = All-filter p IsEntry entries are

-- a line with the totals of list l in these entries
pub is-line : (entries : List Entry) (unsent l : ℕ) (t : Totals) (line : ListReport) → All IsEntry entries → line.list ≡ l → totals_in line ≡ t → AreTotals entries unsent l t → IsTotalLine entries unsent l line
is-line entries unsent l t line entries_are list same are =
    let mine : AreTotals entries unsent l (totals_in line) = subst (AreTotals entries unsent l) (sym same) are in
    record { of_list = list; totals = mine; adds_up = totals-add_up entries l entries_are unsent (totals_in line) mine }

same_sums : (a b : Sums) → Some a ≡ Some b → a ≡ b
same_sums a b e = cc

-- the sums of list l are these
pub sums-at : (account : AccountState) (l : ℕ) (s : Sums) → l < MAX_LISTS → slice_get account.lists l ≡ Some s → (entries : List Entry) (unsent : ℕ → ℕ → ℕ) → HasEntries account entries unsent → AreSums account.end entries unsent l s
sums-at account l s below at entries unsent has =
    let (own, there, are) = has.lists l below in
    subst (AreSums account.end entries unsent l) (same_sums own s (sym there ∙ at)) are
