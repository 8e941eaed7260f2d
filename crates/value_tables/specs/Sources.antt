-- Which bytes of the samples of a DAQ list are those of a value: the first entry, in the order of
-- the ODTs and of their entries, that has all of them.
use Rattle.std.specs.Prelude.{ℕ, suc, ◌+◌, ◌-◌, ◌&&◌, nat_le, Bool, if◌then◌else◌, List, [], ◌∷◌}
use Rattle.std.specs.Prelude.{Option, None, Some}
use Rattle.copy_plan.specs.Config.{ListPlan, OdtEntry}
use Rattle.value_tables.specs.declared.source.Source.{Source}

-- an entry has all of so many bytes at an address
abbrev pub holds : ℕ → ℕ → OdtEntry → Bool
holds address size entry = nat_le entry.0 address && nat_le (address + size) (entry.0 + entry.1)

-- where they stand in entry e of ODT k, if it has them
abbrev pub source_at : ℕ → ℕ → ℕ → ℕ → OdtEntry → Option Source
source_at address size k e entry =
    if holds address size entry
    then Some (record { odt = k; entry = e; offset = address - entry.0 }) else None

-- the first that is there
abbrev pub or_else : Option Source → Option Source → Option Source
or_else (Some source) other = Some source
or_else None other = other

-- the first that elements give, each with its number, counted from here on
abbrev pub first_of : {X : Type 0} → (ℕ → X → Option Source) → ℕ → List X → Option Source
first_of f i [] = None
first_of f i (x ∷ xs) = or_else (f i x) (first_of f (suc i) xs)

-- the first of the entries of ODT k
abbrev pub source_in : ℕ → ℕ → ℕ → List OdtEntry → Option Source
source_in address size k entries = first_of (source_at address size k) 0 entries

-- the first of all entries, ODT by ODT
abbrev pub source_of : ListPlan → ℕ → ℕ → Option Source
source_of plan address size = first_of (source_in address size) 0 plan.odts
