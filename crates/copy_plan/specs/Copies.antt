-- How many copies the packet of an ODT needs.
use Rattle.std.specs.Prelude.{ℕ, ◌+◌, ◌==◌, Bool, not, List, drop, zip, count_by}
use Rattle.copy_plan.specs.Config.{OdtEntry}

-- of two entries, the second begins at the end of the first
abbrev pub continues : OdtEntry × OdtEntry → Bool
continues pair = pair.1.0 == pair.0.0 + pair.0.1

-- one copy, and one more for each entry after the first that does not begin at the end of the entry
-- before it
abbrev pub copies_needed : List OdtEntry → ℕ
copies_needed entries = 1 + count_by (λ pair. not (continues pair)) (zip entries (drop 1 entries))
