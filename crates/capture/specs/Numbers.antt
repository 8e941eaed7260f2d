-- Numbers in the bytes of a capture.
use Rattle.std.specs.Prelude.{ℕ, List, drop, take}
use Rattle.measured_values.specs.Raws.{number_of_bytes}
use Rattle.measured_values.specs.declared.byte_order.ByteOrder.{ByteOrder}

-- the number that n bytes are which stand at a place
abbrev pub field : ByteOrder → ℕ → ℕ → List ℕ → ℕ
field order n at bytes = number_of_bytes order n (take n (drop at bytes))
