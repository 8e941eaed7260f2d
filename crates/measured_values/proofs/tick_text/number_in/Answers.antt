use Rattle.std.proofs.Common.{◌+◌, ◌≤◌, arith, ap, length}
use Rattle.measured_values.proofs.DigitLemmas.{digits_value-joined}
use Rattle.measured_values.proofs.PowerLemmas.{room_alone, room_behind}
use Rattle.measured_values.proofs.tick_text.number_in.Goals as goal

-- all digits have room
pub digits_onto-whole-requires-clause-short : goal.digits_onto-whole-requires-clause-short
digits_onto-whole-requires-clause-short c =
    room_alone (length c.whole.result.now) (length c.args.numeral.now.fraction)
    (omega (arith, c.requires, ap length c.whole.ensures.value))

pub digits_onto-requires-clause-short : goal.digits_onto-requires-clause-short
digits_onto-requires-clause-short c =
    room_behind _ _ _ c.digits_onto-whole.ensures.limit
    (omega (
      arith,
      c.requires,
      ap length c.whole.ensures.value,
      ap length c.fraction.ensures.value,
    ))

-- they are read one part after the other
pub returns-clause-value : goal.returns-clause-value
returns-clause-value c =
    digits_value-joined _ _ _ _ _ _ c.digits_onto-whole.ensures.value c.digits_onto.ensures.value
    c.whole.ensures.value c.fraction.ensures.value

pub returns-clause-limit : goal.returns-clause-limit
returns-clause-limit c =
    let total : length c.whole.result.now + length c.fraction.result.now ≤ 30 =
    omega (
      arith,
      c.requires,
      ap length c.whole.ensures.value,
      ap length c.fraction.ensures.value,
    ) in
    omega (
      arith,
      c.digits_onto.ensures.limit,
      room_behind _ _ _ c.digits_onto-whole.ensures.limit total,
    )
