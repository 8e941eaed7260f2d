-- How long the next block is.
use Rattle.std.proofs.Common.{◌≡◌, ℕ, ◌-◌, ◌%◌, ◌≤◌, List, ◌++◌, length, take, sym, ap, ◌∙◌, arith}
use Rattle.std.proofs.lemmas.List.{length-take-le}
use Rattle.measured_values.specs.declared.byte_order.ByteOrder.{ByteOrder}
use Rattle.capture.specs.Blocks.{IsBlock}
use Rattle.capture.specs.Numbers.{field}
use Rattle.capture.proofs.FieldLemmas.{field-same, field-take, front-is}

-- its length stands in the first bytes
pub block-len : (order : ByteOrder) (bytes more unit behind : List ℕ) → bytes ++ more ≡ unit ++ behind → 12 ≤ length bytes → IsBlock order unit
    → field order 4 4 bytes ≡ length unit
block-len order bytes more unit behind same head b =
    field-same order 4 4 bytes more unit behind same (omega (arith, head)) (omega (arith, b.long)) ∙ b.front

-- so many bytes are the block, if there are as many
pub block-is : (order : ByteOrder) (bytes more unit behind : List ℕ) (len : ℕ) → bytes ++ more ≡ unit ++ behind → 12 ≤ length bytes → IsBlock order unit
    → len ≡ field order 4 4 bytes → len ≤ length bytes → unit ≡ take len bytes
block-is order bytes more unit behind len same head b is within =
    let long : length unit ≡ len = sym (is ∙ block-len order bytes more unit behind same head b) in
    front-is bytes more unit behind same (omega (arith, long, within)) ∙ ap (λ n. take n bytes) long

-- they are one if their last number is their length
pub is-block : (order : ByteOrder) (bytes : List ℕ) (len : ℕ) → len ≡ field order 4 4 bytes → len ≤ length bytes → 12 ≤ len → len % 4 ≡ 0
    → field order 4 (len - 4) bytes ≡ len → IsBlock order (take len bytes)
is-block order bytes len is within long fours back =
    let many = length-take-le len bytes within in
    record {
      long = omega (arith, many, long);
      fours = ap (λ n. n % 4) many ∙ fours;
      front = field-take order 4 4 len bytes (omega (arith, long)) within ∙ sym is ∙ sym many;
      back =
          ap (λ n. field order 4 (n - 4) (take len bytes)) many
          ∙ field-take order 4 (len - 4) len bytes (omega (arith, long)) within ∙ back ∙ sym many;
    }

-- what is a block ends with its length
pub block-ends : (order : ByteOrder) (bytes more unit behind : List ℕ) (len : ℕ) → bytes ++ more ≡ unit ++ behind → 12 ≤ length bytes → IsBlock order unit
    → len ≡ field order 4 4 bytes → len ≤ length bytes → 12 ≤ len → field order 4 (len - 4) bytes ≡ len
block-ends order bytes more unit behind len same head b is within long =
    let one = block-is order bytes more unit behind len same head b is within in
    let many : length unit ≡ len = ap length one ∙ length-take-le len bytes within in
    sym (field-take order 4 (len - 4) len bytes (omega (arith, long)) within)
    ∙ ap (field order 4 (len - 4)) (sym one) ∙ ap (λ n. field order 4 (n - 4) unit) (sym many) ∙ b.back ∙ many
