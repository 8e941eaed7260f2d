-- Totals with one part more, and with some samples that were not sent.
use Rattle.std.proofs.Common.{ℕ, ◌+◌, ◌^◌, ◌≤◌, List, ◌∷◌, sym, ap, ◌∙◌}
use Rattle.std.specs.List.{sum_by}
use Rattle.std.proofs.lemmas.List.Sums.{sum_by-cons}
use Rattle.daq_engine.specs.declared.report.ListReport.{ListReport}
use Rattle.slave_outbox.specs.Accounts.{IsLineOf}
use Rattle.slave_channels.specs.Accounts.{Agree, AreTotals, Entry, accepted_in, accepted_of, dropped_in, dropped_of, due_in, due_of, written_in, written_of}
use Rattle.slave_channels.specs.AccountInner.{moved, plus}
use Rattle.slave_channels.specs.declared.totals.Totals.{Totals}
use Rattle.slave_channels.proofs.TotalsLemmas.{agree-same, more, more-beside, more-both, moved-beside, moved-both}

-- sums over one entry more
one-more : (f : Entry → ℕ) (n : ℕ) (e : Entry) (entries : List Entry) → Agree n (f e + sum_by f entries) → Agree n (sum_by f (e ∷ entries))
one-more f n e entries same = same ∙ agree-same (f e + sum_by f entries) (sum_by f (e ∷ entries)) (sym (sum_by-cons f e entries))

-- totals with the line of one entry more
pub totals-plus : (e : Entry) (entries : List Entry) (unsent l : ℕ) (t : Totals) (line : ListReport) → IsLineOf e.past e.deeds l line → AreTotals entries unsent l t → AreTotals (e ∷ entries) unsent l (plus t line)
totals-plus e entries unsent l t line is are = record {
  all_due = one-more (λ x. due_of x l) _ e entries (more t.due (due_in entries l) line.due (due_of e l) are.all_due is.due_is);
  dropped = one-more (λ x. dropped_of x l) _ e entries (more t.dropped (dropped_in entries l) line.dropped (dropped_of e l) are.dropped is.dropped);
  written = one-more (λ x. written_of x l) _ e entries (more-beside t.written unsent (written_in entries l) line.written (written_of e l) are.written is.written);
  left = one-more (λ x. accepted_of x l) _ e entries
      (more-both t.left t.written (accepted_in entries l) line.left line.written (accepted_of e l) are.left (ap (λ w. line.left + w) is.written ∙ is.left));
}

-- with some that were not sent
pub totals-moved : (entries : List Entry) (unsent l n : ℕ) (t : Totals) → n ≤ 2 ^ 64 → AreTotals entries unsent l t → AreTotals entries (unsent + n) l (moved t n)
totals-moved entries unsent l n t few are = record {
  all_due = are.all_due;
  dropped = are.dropped;
  written = moved-beside t.written unsent (written_in entries l) n few are.written;
  left = moved-both t.left t.written (accepted_in entries l) n few are.left;
}
