-- The unit of a measurement's physical values.
use Rattle.std.specs.Prelude.{ℕ, List, [], Option, Some, None, slice_get}
use Rattle.a2l.specs.Resolved.{Value, Conversions}
use Rattle.a2l.specs.Described.{Described}

abbrev pub unit_in : Option Conversions → List ℕ
unit_in None = []
unit_in (Some method) = method.unit

-- the unit of the method at a place
abbrev pub unit_at : List Conversions → Option ℕ → List ℕ
unit_at methods None = []
unit_at methods (Some place) = unit_in (slice_get methods place)

abbrev pub unit_or : Option (List ℕ) → List ℕ → List ℕ
unit_or None other = other
unit_or (Some unit) other = unit

-- its own unit, else that of its method, else none
abbrev pub unit_of : Described → Value → List ℕ
unit_of d v = unit_or v.unit (unit_at d.methods v.method)
