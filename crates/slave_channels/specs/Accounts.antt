-- The account of many measurements: what became of the samples of each DAQ list number, over all
-- parts of measurements that came back; and of the last four of these measurements alone.
use Rattle.std.specs.Prelude.{◌≡◌, ℕ, zero, suc, ◌+◌, ◌-◌, ◌%◌, ◌^◌, ◌<◌, ◌≤◌, max, not, nat_eq}
use Rattle.std.specs.Prelude.{nat_lt, ◌&&◌, if◌then◌else◌}
use Rattle.std.specs.Prelude.{All, List, [], ◌∷◌, count_by, filter, length, slice_get, Some}
use Rattle.std.specs.List.{sum_by}
use mathlib.Core.List.{IsPrefix}
use Rattle.xcp_base.specs.declared.limits.TheConstants.{MAX_LISTS}
use Rattle.sampler.specs.Decisions.{Decided, pairs_of}
use Rattle.sampler.specs.History.{due}
use Rattle.sampler.specs.Past.{Past}
use Rattle.transmitter.specs.Items.{count_of, samples}
use Rattle.daq_engine.specs.Order.{items_of}
use Rattle.daq_engine.specs.Overload.{decided_of}
use Rattle.daq_engine.specs.declared.report.ListReport.{ListReport}
use Rattle.slave_outbox.specs.Accounts.{HasPlans}
use Rattle.slave_outbox.specs.Deeds.{Deed, taken, written_by}
use Rattle.slave_channels.specs.declared.sums.Sums.{Sums}
use Rattle.slave_channels.specs.declared.sums.TheConstants.{LAST}
use Rattle.slave_channels.specs.declared.totals.Totals.{Totals}
use Rattle.slave_channels.specs.declared.totals.TheConstants.{NONE}

-- a part of a measurement that came back: the measurement's number, the past that the part's
-- sampler came to, and what was done with its ring, the newest first
pub record Entry : Type 0 where
  pub number : ℕ
  pub past : Past
  pub deeds : List Deed

-- its plans are plans, of each due sample it was decided whether it is accepted, and what was taken
-- are the first of the items that were sent
pub record IsEntry (e : Entry) : Type 0 where
  pub plans : HasPlans e.past
  pub decided : length e.past.decisions ≡ length (due e.past.opening e.past.history)
  pub front : IsPrefix (taken e.deeds) (items_of e.past)

-- how many samples of list l were due in it, and of these how many dropped, how many were accepted
-- and how many written
abbrev pub due_of : Entry → ℕ → ℕ
due_of e l = count_by (λ (pair : ℕ × ℕ). nat_eq pair.1 l) (due e.past.opening e.past.history)

abbrev pub dropped_of : Entry → ℕ → ℕ
dropped_of e l = count_by (λ (pair : Decided). not pair.1) (pairs_of l (decided_of e.past))

abbrev pub accepted_of : Entry → ℕ → ℕ
accepted_of e l = count_of l (samples (items_of e.past))

abbrev pub written_of : Entry → ℕ → ℕ
written_of e l = written_by e.deeds l

-- the same in all of the entries
abbrev pub due_in : List Entry → ℕ → ℕ
due_in entries l = sum_by (λ e. due_of e l) entries

abbrev pub dropped_in : List Entry → ℕ → ℕ
dropped_in entries l = sum_by (λ e. dropped_of e l) entries

abbrev pub accepted_in : List Entry → ℕ → ℕ
accepted_in entries l = sum_by (λ e. accepted_of e l) entries

abbrev pub written_in : List Entry → ℕ → ℕ
written_in entries l = sum_by (λ e. written_of e l) entries

-- the entries of measurement m, and those of the measurements before it
abbrev pub of_measurement : ℕ → List Entry → List Entry
of_measurement m entries = filter (λ (e : Entry). nat_eq e.number m) entries

abbrev pub before : ℕ → List Entry → List Entry
before m entries = filter (λ (e : Entry). nat_lt e.number m) entries

-- the number behind that of the last measurement with an entry
abbrev pub end_of : List Entry → ℕ
end_of [] = 0
end_of (e ∷ entries) = max (end_of entries) (e.number + 1)

-- of the samples that each measurement has of a list, so many in the measurements before m
abbrev pub sum_before : ℕ → (ℕ → ℕ → ℕ) → ℕ → ℕ
sum_before zero f l = 0
sum_before (suc m) f l = sum_before m f l + f m l

-- two numbers are equal modulo 2^64
abbrev pub Agree : ℕ → ℕ → Type 0
Agree a b = a % 2 ^ 64 ≡ b % 2 ^ 64

-- the totals of list l, if so many of the samples that were written in the entries were thrown away
-- after all: of those that were accepted, the others are left
pub record AreTotals (entries : List Entry) (unsent l : ℕ) (totals : Totals) : Type 0 where
  pub all_due : Agree totals.due (due_in entries l)
  pub dropped : Agree totals.dropped (dropped_in entries l)
  pub written : Agree (totals.written + unsent) (written_in entries l)
  pub left : Agree (totals.left + totals.written) (accepted_in entries l)

-- of the sums of a list, those of the measurement with so many behind it, as far as it is one of
-- the last four; else those of all measurements before these
abbrev pub row : ℕ → Sums → Totals
row zero sums = sums.last
row (suc zero) sums = sums.second
row (suc (suc zero)) sums = sums.third
row (suc (suc (suc zero))) sums = sums.fourth
row (suc (suc (suc (suc k)))) sums = sums.older

-- the sums of list l, where measurements are numbered up to `end`: of each of the last four the
-- totals of its entries, and one sum of all before; of the samples of measurement m that were
-- written so many were thrown away after all
pub record AreSums (end : ℕ) (entries : List Entry) (unsent : ℕ → ℕ → ℕ) (l : ℕ) (sums : Sums)
    : Type 0 where
  pub each :
      (m k : ℕ) → m + (k + 1) ≡ end → k < LAST
      → AreTotals (of_measurement m entries) (unsent m l) l (row k sums)
  pub spare : (k : ℕ) → end ≤ k → k < LAST → row k sums ≡ NONE
  pub older :
      AreTotals (before (end - LAST) entries) (sum_before (end - LAST) unsent l) l sums.older

-- what contracts see of an account: the sums of each list, and the number behind that of the last
-- measurement
pub record AccountState : Type 0 where
  pub lists : List Sums
  pub «end» : ℕ

-- an account whose measurements are numbered up to its end has these entries, and so many samples
-- of each measurement and list were thrown away behind that
pub record HasEntries (account : AccountState) (entries : List Entry) (unsent : ℕ → ℕ → ℕ)
    : Type 0 where
  pub entries_are : All IsEntry entries
  pub reach : end_of entries ≤ account.end
  pub none_ahead : (m l : ℕ) → end_of entries ≤ m → l < MAX_LISTS → unsent m l ≡ 0
  pub lists :
      (l : ℕ) → l < MAX_LISTS
      → (sums : Sums) × (slice_get account.lists l ≡ Some sums)
      × AreSums account.end entries unsent l sums

-- an account stands after these entries: and its end is theirs
pub record AccountStandsAfter (account : AccountState) (entries : List Entry)
    (unsent : ℕ → ℕ → ℕ)
    : Type 0 where
  pub has : HasEntries account entries unsent
  pub end_is : account.end ≡ end_of entries

-- n samples more of list l in measurement m that were thrown away
abbrev pub more_unsent : ℕ → ℕ → ℕ → (ℕ → ℕ → ℕ) → ℕ → ℕ → ℕ
more_unsent m l n unsent i k =
    if nat_eq i m && nat_eq k l then unsent i k + n else unsent i k

-- the numbers of a line
abbrev pub totals_in : ListReport → Totals
totals_in line = record {
  due = line.due;
  written = line.written;
  dropped = line.dropped;
  left = line.left;
}

-- the line has the totals of list l in these entries, and they add up: due is written, dropped and
-- left together
pub record IsTotalLine (entries : List Entry) (unsent l : ℕ) (line : ListReport)
    : Type 0 where
  pub of_list : line.list ≡ l
  pub totals : AreTotals entries unsent l (totals_in line)
  pub adds_up : Agree line.due (line.written + line.dropped + line.left)
