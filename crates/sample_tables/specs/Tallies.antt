-- What there is of the samples of a DAQ list.
use Rattle.std.specs.Prelude.{◌≡◌, ℕ, ◌+◌, ◌-◌, ◌%◌, ◌<◌, ◌^◌, Bool, if◌then◌else◌, List, length}
use Rattle.std.specs.Prelude.{filter, filter_map, slice_get, Option, Some, None}
use Rattle.daq_reader.specs.Lists.{given}
use Rattle.daq_reader.specs.Recorded.{Recorded}
use Rattle.sample_tables.specs.declared.tally.Tally.{Tally}

-- those of the samples that have the overload indication
abbrev pub overloaded : List Recorded → List Recorded
overloaded rs = filter (λ (r : Recorded). r.overload) rs

-- the ticks of the samples, of those that have a timestamp
abbrev pub stamps : List Recorded → List ℕ
stamps rs = filter_map (λ (r : Recorded). r.stamp) rs

-- how many samples there are, how many have the overload indication, and the first and the last
-- ticks; the counts wrap at 2^64
abbrev pub tally_of : List Recorded → Tally
tally_of rs = record {
  samples = length rs % 2 ^ 64;
  overloads = length (overloaded rs) % 2 ^ 64;
  first = slice_get (stamps rs) 0;
  last = slice_get (stamps rs) (length (stamps rs) - 1);
}

-- the first that is there
abbrev pub first_of : Option ℕ → Option ℕ → Option ℕ
first_of (Some x) y = Some x
first_of None y = y

-- one sample more
abbrev pub tally_with : Tally → Bool → Option ℕ → Tally
tally_with t overload stamp = record {
  samples = (t.samples + 1) % 2 ^ 64;
  overloads = (t.overloads + (if overload then 1 else 0)) % 2 ^ 64;
  first = first_of t.first stamp;
  last = first_of stamp t.last;
}

-- how many lists are counted, and the samples that were handed, each with the place of its list
pub record SummaryState : Type 0 where
  pub lists : ℕ
  pub samples : List (ℕ × Recorded)

-- the tallies are those of the lists' samples
abbrev pub AreTallies : List Tally → List (ℕ × Recorded) → Type 0
AreTallies tallies samples =
    (i : ℕ) → i < length tallies → slice_get tallies i ≡ Some (tally_of (given i samples))
