-- The times of samples: by the slave's timestamps, whose wraps are unwound, and by the capture's
-- clock.
use Rattle.std.specs.Prelude.{◌≡◌, ℕ, ◌+◌, ◌-◌, ◌*◌, ◌/◌, ◌%◌, ◌^◌, ◌<◌, ◌≤◌, ◌==◌, nat_le}
use Rattle.std.specs.Prelude.{if◌then◌else◌, ℤ, pos, negsuc, ◌-ℤ◌, Option, None, Some}
use Rattle.captured_session.specs.declared.form.Form.{Form}
use Rattle.measured_values.specs.declared.tick.Tick.{Tick}
use Rattle.capture_tables.specs.declared.passed.Passed.{Passed}

-- a unit of timestamps is this power of ten of picoseconds: from 1 ns to 1 s, or from 1 ps to 100
-- ps (ASAM MCD-1 XCP, protocol layer, GET_DAQ_RESOLUTION_INFO, TIMESTAMP_MODE)
abbrev pub power_of_unit : ℕ → Option ℕ
power_of_unit unit =
    if nat_le unit 9 then Some (unit + 3)
    else (if nat_le unit 12 then Some (unit - 10) else None)

abbrev pub power_of : Form → Option ℕ
power_of form = power_of_unit (form.stamp / 16)

-- how long a tick of so many units is, in seconds; a slave that tells of 0 units tells nothing
abbrev pub tick_with : ℕ → Option ℕ → Option Tick
tick_with ticks None = None
tick_with ticks (Some power) =
    if ticks == 0 then None
    else Some (record { mantissa = ticks; exponent = pos power -ℤ pos 12 })

abbrev pub tick_of : Form → Option Tick
tick_of form = tick_with form.ticks (power_of form)

-- the same in picoseconds
abbrev pub picoseconds_with : ℕ → Option ℕ → Option ℕ
picoseconds_with ticks None = None
picoseconds_with ticks (Some power) = if ticks == 0 then None else Some (ticks * 10 ^ power)

abbrev pub picoseconds_of : Form → Option ℕ
picoseconds_of form = picoseconds_with form.ticks (power_of form)

-- how many picoseconds passed between two times of the capture in nanoseconds: none if its clock
-- was set back
abbrev pub if_positive : ℤ → ℕ
if_positive (pos n) = n
if_positive (negsuc n) = 0

abbrev pub passed_between : ℤ → ℤ → ℕ
passed_between last now = 1000 * if_positive (now -ℤ last)

-- a time stands for these ticks: it is the same modulo the wrap
abbrev pub HasTicks : ℕ → ℕ → ℕ → Type 0
HasTicks ticks wrap at = at % wrap ≡ ticks % wrap

-- the least time from the last one on that stands for these ticks
pub record IsLeast (last ticks wrap at : ℕ) : Type 0 where
  pub same : HasTicks ticks wrap at
  pub later : last ≤ at
  pub within : at < last + wrap

-- the time that stands for them and is nearest to what the capture's clock says: the last one, and
-- what passed since then. It is off by half a wrap at most
pub record IsNearest (last ticks wrap : ℕ) (passed : Passed) (at : ℕ) : Type 0 where
  pub same : HasTicks ticks wrap at
  pub not_late :
      2 * (at * passed.tick)
      ≤ 2 * (last * passed.tick + passed.picoseconds) + wrap * passed.tick
  pub not_early :
      2 * (last * passed.tick + passed.picoseconds)
      ≤ 2 * (at * passed.tick) + wrap * passed.tick

-- the time of these ticks behind the last one, by the capture's clock if it counts
abbrev pub IsUnwound : ℕ → ℕ → ℕ → Option Passed → ℕ → Type 0
IsUnwound last ticks wrap None at = IsLeast last ticks wrap at
IsUnwound last ticks wrap (Some passed) at = IsNearest last ticks wrap passed at
