use Rattle.std.proofs.Common.{◌≡◌, ◌<◌, ◌^◌, take}
use Rattle.std.specs.Str.Parse.{AllDigits, digits_value}
use Rattle.a2l_text.proofs.number.value_of.Given as goal

-- the digits so far, and their value
abbrev pub invariant-loop-byte : goal.invariant-loop-byte
invariant-loop-byte l = record {
  fits : l.value < 2 ^ 64;
  digits : AllDigits l.radix (take l.byte-index l.digits);
  value : l.value ≡ digits_value l.radix (take l.byte-index l.digits);
}
