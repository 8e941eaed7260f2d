-- What is told of the last measurements alone, and of all before them.
use Rattle.std.specs.Prelude.{◌≡◌, ℕ, ◌+◌, ◌-◌, ◌<◌, ◌≤◌, min, Bool, List, slice_get, Some}
use Rattle.xcp_base.specs.declared.limits.TheConstants.{MAX_LISTS}
use Rattle.daq_engine.specs.declared.report.ListReport.{ListReport}
use Rattle.slave_channels.specs.Accounts.{AccountStandsAfter, AccountState, Entry, IsTotalLine}
use Rattle.slave_channels.specs.Accounts.{before, end_of, of_measurement, sum_before}
use Rattle.slave_channels.specs.declared.sums.TheConstants.{LAST}
use Rattle.slave.specs.declared.complete.Complete.{Complete}
use Rattle.c_slave.specs.declared.measurements_out.MeasurementOut.{MeasurementOut}
use Rattle.c_slave.specs.declared.measurements_out.MeasurementsOut.{MeasurementsOut}

-- this line of list l is that of measurement m in an account, if it is one of the last four; and
-- that of all measurements before these
abbrev pub IsLineOf : AccountState → ℕ → ℕ → ListReport → Type 0
IsLineOf account m l line =
    m < account.end → account.end ≤ m + LAST
    → (entries : List Entry) (unsent : ℕ → ℕ → ℕ) → AccountStandsAfter account entries unsent
    → IsTotalLine (of_measurement m entries) (unsent m l) l line

abbrev pub IsOlderLine : AccountState → ℕ → ListReport → Type 0
IsOlderLine account l line =
    (entries : List Entry) (unsent : ℕ → ℕ → ℕ) → AccountStandsAfter account entries unsent
    → IsTotalLine (before (end_of entries - LAST) entries)
    (sum_before (end_of entries - LAST) unsent l) l line

-- each list has such a line
abbrev pub AreLines : (ℕ → ListReport → Type 0) → List ListReport → Type 0
AreLines is lines =
    (l : ℕ) → l < MAX_LISTS → (line : ListReport) × (slice_get lines l ≡ Some line) × is l line

-- measurement m is told, and whether all parts of it are there
pub record IsOfMeasurement (account : AccountState) (m : ℕ) (whole : Bool) (out : MeasurementOut)
    : Type 0 where
  pub number : out.number ≡ m
  pub whole_is : out.whole ≡ whole
  pub lines : AreLines (IsLineOf account m) out.lines

-- all before the last are, and how many these are
pub record IsOfOlder (account : AccountState) (many : ℕ) (whole : Bool) (out : MeasurementOut)
    : Type 0 where
  pub number : out.number ≡ many
  pub whole_is : out.whole ≡ whole
  pub lines : AreLines (IsOlderLine account) out.lines

-- the last measurements, up to four, are told in the order of their numbers, and all before them
pub record TellsEach (account : AccountState) (complete : Complete) (out : MeasurementsOut)
    : Type 0 where
  pub count : out.count ≡ min account.end LAST
  pub last :
      (i : ℕ) → i < out.count
      → (whole : Bool) × ((one : MeasurementOut) × (slice_get complete.last i ≡ Some whole)
      × (slice_get out.last i ≡ Some one)
      × IsOfMeasurement account (account.end - LAST + i) whole one)
  pub older : IsOfOlder account (account.end - LAST) complete.older out.older
