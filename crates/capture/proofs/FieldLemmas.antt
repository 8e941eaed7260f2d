-- Numbers in the front of longer bytes.
use Rattle.std.proofs.Common.{◌≡◌, ℕ, ◌+◌, ◌-◌, ◌≤◌, List, ◌++◌, length, take, drop, sym, ap, ◌∙◌, arith}
use Rattle.std.proofs.lemmas.List.{take-append-le, drop-append-le, take-append-drop, length-drop, length-take-le}
use Rattle.std.proofs.Math.Seq.{take-append_seam, take-length}
use Rattle.measured_values.specs.Raws.{number_of_bytes}
use Rattle.measured_values.specs.declared.byte_order.ByteOrder.{ByteOrder}
use Rattle.capture.specs.Numbers.{field}

-- it is the same, whatever stands behind
pub field-front : (order : ByteOrder) (n at : ℕ) (xs ys : List ℕ) → at + n ≤ length xs → field order n at (xs ++ ys) ≡ field order n at xs
field-front order n at xs ys fits =
    let below : at ≤ length xs = omega (arith, fits) in
    let room : n ≤ length (drop at xs) = omega (arith, length-drop at xs, fits) in
    ap (number_of_bytes order n) (ap (take n) (drop-append-le at xs ys below) ∙ take-append-le n (drop at xs) ys room)

-- and in the front of bytes
pub field-take : (order : ByteOrder) (n at m : ℕ) (xs : List ℕ) → at + n ≤ m → m ≤ length xs → field order n at (take m xs) ≡ field order n at xs
field-take order n at m xs fits within =
    sym (field-front order n at (take m xs) (drop m xs) (omega (arith, length-take-le m xs within, fits)))
    ∙ ap (field order n at) (take-append-drop m xs)

-- two that go on to the same have the same numbers in front
pub field-same : (order : ByteOrder) (n at : ℕ) (xs more unit behind : List ℕ) → xs ++ more ≡ unit ++ behind
    → at + n ≤ length xs → at + n ≤ length unit → field order n at xs ≡ field order n at unit
field-same order n at xs more unit behind same fits fits2 =
    sym (field-front order n at xs more fits) ∙ ap (field order n at) same ∙ field-front order n at unit behind fits2

-- the shorter is the front of the other
pub front-is : (xs more unit behind : List ℕ) → xs ++ more ≡ unit ++ behind → length unit ≤ length xs → unit ≡ take (length unit) xs
front-is xs more unit behind same short =
    sym (take-append_seam unit behind) ∙ ap (take (length unit)) (sym same) ∙ take-append-le (length unit) xs more short

-- what is behind a place is all that is there
pub rest-is : (at : ℕ) (xs : List ℕ) → take (length xs - at) (drop at xs) ≡ drop at xs
rest-is at xs = ap (λ n. take n (drop at xs)) (sym (length-drop at xs)) ∙ take-length (drop at xs)
