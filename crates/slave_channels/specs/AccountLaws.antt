-- What follows from the definitions.
use Rattle.std.specs.Prelude.{◌≡◌, ℕ, ◌+◌, All, List}
use Rattle.std.specs.List.{sum_by}
use Rattle.slave_channels.specs.Accounts.{Agree, AreTotals, Entry, IsEntry}
use Rattle.slave_channels.specs.Accounts.{accepted_in, before, due_in, dropped_in, end_of}
use Rattle.slave_channels.specs.Accounts.{of_measurement}
use Rattle.slave_channels.specs.declared.totals.Totals.{Totals}

-- whatever parts came back, each due sample of a list was dropped or accepted; and totals of them
-- add up modulo 2^64, however many samples were unsent
abbrev pub TotalsAddUp : Type 0
TotalsAddUp =
    (entries : List Entry) (l : ℕ) → All IsEntry entries
    → (due_in entries l ≡ dropped_in entries l + accepted_in entries l)
    × ((unsent : ℕ) (totals : Totals) → AreTotals entries unsent l totals
    → Agree totals.due (totals.written + totals.dropped + totals.left))

-- each entry is of one measurement: what is summed over those before the end is summed over all,
-- and one measurement more adds the sum over its entries. So the sums of the last measurements, one
-- by one, and that of all before them are the sum of all
abbrev pub MeasurementsAddUp : Type 0
MeasurementsAddUp =
    (f : Entry → ℕ) (entries : List Entry)
    → (before (end_of entries) entries ≡ entries)
    × ((m : ℕ) → sum_by f (before (m + 1) entries)
    ≡ sum_by f (before m entries) + sum_by f (of_measurement m entries))
