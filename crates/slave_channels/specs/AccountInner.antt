-- What no public clause cites: how totals change.
use Rattle.std.specs.Prelude.{◌≡◌, ◌≢◌, ℕ, zero, suc, ◌+◌, ◌-◌, ◌%◌, ◌^◌, ◌<◌, ◌≤◌}
use Rattle.std.specs.Prelude.{List, slice_get, Some}
use Rattle.daq_engine.specs.declared.report.ListReport.{ListReport}
use Rattle.slave_channels.specs.Channels.{FinishedState, HasLine}
use Rattle.slave_channels.specs.Accounts.{row}
use Rattle.slave_channels.specs.declared.sums.Sums.{Sums}
use Rattle.slave_channels.specs.declared.totals.Totals.{Totals}
use Rattle.slave_channels.specs.declared.totals.TheConstants.{NONE}

-- with one line more
abbrev pub plus : Totals → ListReport → Totals
plus t line = record {
  due = (t.due + line.due) % 2 ^ 64;
  written = (t.written + line.written) % 2 ^ 64;
  dropped = (t.dropped + line.dropped) % 2 ^ 64;
  left = (t.left + line.left) % 2 ^ 64;
}

-- n of those written are left
abbrev pub moved : Totals → ℕ → Totals
moved t n = record {
  due = t.due;
  written = (t.written + (2 ^ 64 - n)) % 2 ^ 64;
  dropped = t.dropped;
  left = (t.left + n) % 2 ^ 64;
}

-- two together
abbrev pub joined : Totals → Totals → Totals
joined t u = record {
  due = (t.due + u.due) % 2 ^ 64;
  written = (t.written + u.written) % 2 ^ 64;
  dropped = (t.dropped + u.dropped) % 2 ^ 64;
  left = (t.left + u.left) % 2 ^ 64;
}

-- with these totals for the measurement with so many behind it, or for all before the last four
abbrev pub with_row : ℕ → Totals → Sums → Sums
with_row zero t sums = record sums { last = t }
with_row (suc zero) t sums = record sums { second = t }
with_row (suc (suc zero)) t sums = record sums { third = t }
with_row (suc (suc (suc zero))) t sums = record sums { fourth = t }
with_row (suc (suc (suc (suc k)))) t sums = record sums { older = t }

-- behind which one measurement more begins
abbrev pub advanced : Sums → Sums
advanced sums = record {
  last = NONE;
  second = sums.last;
  third = sums.second;
  fourth = sums.third;
  older = joined sums.older sums.fourth;
}

-- the five together
abbrev pub all_of : Sums → Totals
all_of sums =
    joined (joined (joined (joined sums.older sums.fourth) sums.third) sums.second) sums.last

-- of the measurement with k behind it the totals change so
abbrev pub changed : ℕ → (Totals → Totals) → Sums → Sums
changed k f sums = with_row k (f (row k sums)) sums

-- the sums of list l change so, and no others
pub record ChangesBy (old new : List Sums) (l : ℕ) (f : Sums → Sums) : Type 0 where
  pub here : (s : Sums) → slice_get old l ≡ Some s → slice_get new l ≡ Some (f s)
  pub others : (k : ℕ) → k ≢ l → slice_get new k ≡ slice_get old k

-- the sums of each list below n change so, and no others
pub record ChangesBelow (n : ℕ) (old new : List Sums) (f : Sums → Sums) : Type 0 where
  pub below :
      (l : ℕ) → l < n → (s : Sums) → slice_get old l ≡ Some s → slice_get new l ≡ Some (f s)
  pub others : (l : ℕ) → n ≤ l → slice_get new l ≡ slice_get old l

-- a line of list l of what came back was added, in the measurement with k behind it
abbrev pub HasAdded : FinishedState → ℕ → List Sums → List Sums → ℕ → Type 0
HasAdded f k old new l =
    (line : ListReport) × HasLine f l line
    × ((s : Sums) → slice_get old l ≡ Some s
    → slice_get new l ≡ Some (changed k (λ t. plus t line) s))

-- of each list below n, and the others are as they were
pub record AddsBelow (f : FinishedState) (k n : ℕ) (old new : List Sums) : Type 0 where
  pub below : (l : ℕ) → l < n → HasAdded f k old new l
  pub others : (l : ℕ) → n ≤ l → slice_get new l ≡ slice_get old l
