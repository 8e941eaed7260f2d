use Rattle.std.proofs.Common.{◌+◌, ◌<◌, ap, arith, sym, ◌∙◌, subst, rules, SFits, w8, ℤ}
use Rattle.std.proofs.lemmas.Int.{to_z-of_z}
use Rattle.measured_values.specs.declared.tick.Tick.{Tick}
use Rattle.measured_values.specs.Ticks.{IsTickOf}
use Rattle.measured_values.proofs.PowerLemmas.{rest_some}
use Rattle.measured_values.proofs.TickLemmas.{IsReducedTo-digits, IsTickOf-reduced, no_far_tick}
use Rattle.measured_values.proofs.TickLemmas.{no_long_tick, no_tick}
use Rattle.measured_values.proofs.tick_text.tick_in.Goals as goal

-- no digit but zeros
pub returns-then-digits-eq0-clause-none : goal.returns-then-digits-eq0-clause-none
returns-then-digits-eq0-clause-none c = λ tick is_tick.
    no_tick c.args.numeral.now tick
    (sym c.number_in-digits.ensures.value ∙ c.if-digits-eq0.true) is_tick

-- too many digits
pub returns-then-mantissa-gt-MAX_MANTISSA-clause-none :
    goal.returns-then-mantissa-gt-MAX_MANTISSA-clause-none
returns-then-mantissa-gt-MAX_MANTISSA-clause-none c = λ tick is_tick.
    let zeros = c.without_zeros-mantissa.ensures in
    no_long_tick c.args.numeral.now tick _ _
    (IsReducedTo-digits c.args.numeral.now _ _ _ c.number_in-digits.ensures.value
    c.number_in-digits.ensures.limit c.if-digits-eq0.false zeros.worth zeros.most zeros.done)
    c.if-mantissa-gt-MAX_MANTISSA.true is_tick

-- an exponent out of the limits
pub returns-in_default-clause-none : goal.returns-in_default-clause-none
returns-in_default-clause-none c = λ tick is_tick.
    let zeros = c.without_zeros-mantissa.ensures in
    no_far_tick c.args.numeral.now tick _ _ _ _
    (IsReducedTo-digits c.args.numeral.now _ _ _ c.number_in-digits.ensures.value
    c.number_in-digits.ensures.limit c.if-digits-eq0.false zeros.worth zeros.most zeros.done)
    (ap (λ k. c.without_zeros-mantissa.result.1 + k) c.tens_up.ensures.value)
    c.tens_down.ensures.value c.in_default.ensures.none is_tick

-- what is left of the digits, and the exponent that it takes
pub returns-clause-value : goal.returns-clause-value
returns-clause-value c =
    let zeros = c.without_zeros-mantissa.ensures in
    let fits : SFits w8 c.in-Some.exponent = search rules in
    let tick : ℤ → Tick = λ z. record {
      mantissa = c.without_zeros-mantissa.result.0;
      exponent = z;
    } in
    let some : 0 < c.number_in-digits.result = omega (arith, c.if-digits-eq0.false) in
    subst (λ z. IsTickOf c.args.numeral.now (tick z)) (sym (to_z-of_z w8 c.in-Some.exponent fits))
    (IsTickOf-reduced c.args.numeral.now (tick c.in-Some.exponent) c.without_zeros-mantissa.result.1
    (IsReducedTo-digits c.args.numeral.now _ _ _ c.number_in-digits.ensures.value
    c.number_in-digits.ensures.limit c.if-digits-eq0.false zeros.worth zeros.most zeros.done)
    (rest_some _ _ _ zeros.worth some) c.if-mantissa-gt-MAX_MANTISSA.false
    (omega (arith, c.in-Some.ensures.value, c.tens_up.ensures.value, c.tens_down.ensures.value))
    c.in-Some.ensures.limits)
