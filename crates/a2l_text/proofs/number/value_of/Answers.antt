use Rattle.std.proofs.Common.{◌≡◌, ◌*◌, ◌^◌, length, take, sym, ap, ◌∙◌, subst, arith, take_all}
use Rattle.std.proofs.lemmas.Bool.{eqb-false}
use Rattle.std.specs.Str.Parse.{AllDigits, digits_value}
use Rattle.a2l_text.proofs.NumberLemmas.{digits_more, value_more, digit_at, too_large}
use Rattle.a2l_text.proofs.number.value_of.Goals as goal

-- a byte is no digit
pub returns-in_err-digit : goal.returns-in_err-digit
returns-in_err-digit c =
    rw c.from_residual.ensures (λ h. c.in_err-digit.ensures.value (digit_at c.args.radix c.args.digits.now c.loop-byte.byte-index c.from.result (omega arith) c.from.ensures h.0.1))

-- the value so far is too large
pub returns-in_err-checked_mul : goal.returns-in_err-checked_mul
returns-in_err-checked_mul c =
    let value = c.loop-byte.invariant.value in
    rw c.from_residual-in_err-checked_mul.ensures (λ h. too_large c.args.radix c.args.digits.now c.loop-byte.byte-index c.from.result (2 ^ 64) (omega arith) (omega arith) c.from.ensures
    (λ fits. c.in_err-checked_mul.ensures (omega (arith, fits, ap (λ v. v * c.args.radix) value))) h.1)

-- the value with the digit is too large
pub returns-in_err-value : goal.returns-in_err-value
returns-in_err-value c =
    let value = c.loop-byte.invariant.value in
    let product = c.in_ok-checked_mul.ensures.1 in
    let digit = c.in_ok-digit.ensures.value.1 in
    rw c.from_residual-in_err-value.ensures (λ h. too_large c.args.radix c.args.digits.now c.loop-byte.byte-index c.from.result (2 ^ 64) (omega arith) (omega arith) c.from.ensures
    (λ fits. c.in_err-value.ensures (omega (arith, fits, product, digit, ap (λ v. v * c.args.radix) value))) h.1)

-- one digit more
pub loop-byte-preserved : goal.loop-byte-preserved
loop-byte-preserved c =
    let value = c.loop-byte.invariant.value in
    let product = c.in_ok-checked_mul.ensures.1 in
    let digit = c.in_ok-digit.ensures.value in
    let sum = c.in_ok-value.ensures.1 in
    record {
      fits = omega (arith, c.in_ok-value.ensures.0, sum);
      digits = digits_more c.args.radix c.args.digits.now c.loop-byte.byte-index c.from.result (omega arith) c.from.ensures c.loop-byte.invariant.digits digit.0;
      value = omega (arith, sum, product, digit.1, ap (λ v. v * c.args.radix) value, value_more c.args.radix c.args.digits.now c.loop-byte.byte-index c.from.result (omega arith) c.from.ensures);
    }

-- all are digits
pub returns : goal.returns
returns c =
    let whole : take c.loop-byte.byte-index c.args.digits.now ≡ c.args.digits.now = take_all c.loop-byte.byte-index c.args.digits.now (omega arith) in
    let digits = subst (AllDigits c.args.radix) whole c.loop-byte.invariant.digits in
    let value : c.loop-byte.value ≡ digits_value c.args.radix c.args.digits.now = c.loop-byte.invariant.value ∙ ap (digits_value c.args.radix) whole in
    let some = eqb-false (length c.args.digits.now) 0 (sym c.is_empty.ensures ∙ c.if-is_empty.false) in
    (((omega (arith, some), digits), omega (arith, value, c.loop-byte.invariant.fits)), value)
