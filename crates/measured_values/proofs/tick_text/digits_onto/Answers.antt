use Rattle.std.proofs.Common.{◌+◌, ◌*◌, ◌-◌, get_or, arith, sym, ap, ◌∙◌}
use Rattle.std.proofs.lemmas.Str.Parse.{digit_at}
use Rattle.measured_values.proofs.DigitLemmas.{digits_value_after-more}
use Rattle.measured_values.proofs.PowerLemmas.{room_for_digit}
use Rattle.measured_values.proofs.tick_text.digits_onto.Goals as goal

-- a digit more fits, since all digits do
pub overflow_mul-sum : goal.overflow_mul-sum
overflow_mul-sum c = omega (
  arith,
  room_for_digit _ _ _ _
      c.loop-digit.invariant.1 c.loop-digit-test.true c.requires.short,
)

pub overflow_sub-sum : goal.overflow_sub-sum
overflow_sub-sum c = (digit_at _ _ c.requires.digits c.loop-digit-test.true).0

pub overflow_add-sum : goal.overflow_add-sum
overflow_add-sum c =
    let digit = digit_at _ _ c.requires.digits c.loop-digit-test.true in
    omega (
      arith,
      digit,
      room_for_digit _ _ _ _
          c.loop-digit.invariant.1 c.loop-digit-test.true c.requires.short,
    )

-- one digit more
pub loop-digit-preserved : goal.loop-digit-preserved
loop-digit-preserved c =
    let digit = digit_at _ _ c.requires.digits c.loop-digit-test.true in
    let room = room_for_digit _ _ _ _
    c.loop-digit.invariant.1 c.loop-digit-test.true c.requires.short in
    let more = digits_value_after-more c.args.number c.args.digits.now c.loop-digit.digit-index
    c.loop-digit-test.true c.requires.digits in (
      ap (λ n. 10 * n + (get_or c.args.digits.now c.loop-digit.digit-index 0 - 48))
          c.loop-digit.invariant.0 ∙ sym more,
      omega (arith, digit, room),
    )
