use Rattle.std.proofs.Common.{◌≡◌, ◌+◌, ◌*◌, ◌^◌, ◌<◌, take}
use Rattle.std.specs.Str.Parse.{digits_value_after}
use Rattle.measured_values.proofs.tick_text.digits_onto.Given as goal

abbrev pub invariant-loop-digit : goal.invariant-loop-digit
invariant-loop-digit l =
    (l.sum ≡ digits_value_after 10 l.number (take l.digit-index l.digits))
    × (l.sum < (l.number + 1) * 10 ^ l.digit-index)
