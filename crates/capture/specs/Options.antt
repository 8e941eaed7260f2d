-- The options of a block of pcapng: each has a code, a length and a value, and fill up to the next
-- multiple of four bytes.
use Rattle.std.specs.Prelude.{◌≡◌, ◌≢◌, ◌⊎◌, ℕ, ◌+◌, ◌*◌, ◌/◌, ◌≤◌, Bool, true, false, nat_eq}
use Rattle.std.specs.Prelude.{List, [], ◌∷◌, drop, take, length, Option, Some, None}
use Rattle.measured_values.specs.declared.byte_order.ByteOrder.{ByteOrder}
use Rattle.capture.specs.Numbers.{field}

-- so many bytes with their fill
abbrev pub filled : ℕ → ℕ
filled n = (n + 3) / 4 * 4

-- an option stands in front of these bytes: its code, which isn't 0, and its value
pub record IsOption (order : ByteOrder) (bytes : List ℕ) (o : ℕ × List ℕ) : Type 0 where
  pub head : 4 ≤ length bytes
  pub code : o.0 ≡ field order 2 0 bytes
  pub more : o.0 ≢ 0
  pub whole : 4 + filled (field order 2 2 bytes) ≤ length bytes
  pub value : o.1 ≡ take (field order 2 2 bytes) (drop 4 bytes)

-- no option more: the bytes are at their end, or an end of options stands there, whose code is 0
abbrev pub AtEnd : ByteOrder → List ℕ → Type 0
AtEnd order bytes = (bytes ≡ []) ⊎ ((4 ≤ length bytes) × (field order 2 0 bytes ≡ 0))

-- these options stand in the bytes, one behind another
abbrev pub AreOptions : ByteOrder → List ℕ → List (ℕ × List ℕ) → Type 0
AreOptions order bytes [] = AtEnd order bytes
AreOptions order bytes (o ∷ os) =
    IsOption order bytes o × AreOptions order (drop (4 + filled (length o.1)) bytes) os

-- a value, if it is the one that is looked for, else one of a later option
abbrev pub value_or : Bool → List ℕ → Option (List ℕ) → Option (List ℕ)
value_or true value later = Some value
value_or false value later = later

-- the value of the first option of a code
abbrev pub value_of : ℕ → List (ℕ × List ℕ) → Option (List ℕ)
value_of code [] = None
value_of code (o ∷ os) = value_or (nat_eq o.0 code) o.1 (value_of code os)

-- a value that was found before, or else that of this option, if it has the code
abbrev pub first_value : Option (List ℕ) → ℕ → List ℕ → ℕ → Option (List ℕ)
first_value (Some before) code value wanted = Some before
first_value None code value wanted = value_or (nat_eq code wanted) value None
