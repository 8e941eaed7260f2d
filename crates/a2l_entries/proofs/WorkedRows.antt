-- Rows worked by hand, which the definitions have to give.
use Rattle.std.proofs.Common.{◌≡◌, ℕ, List, ◌∷◌, [], codes, refl, Some, None, pos, negsuc}
use Rattle.std.specs.Float.{binary64, float_is_finite}
use Rattle.std.specs.Float.Ieee.{lt, of_int}
use Rattle.std.specs.Str.{chars, is_utf8}
use lib.Utf8.{encode}
use Rattle.fast_float.proofs.OnLiterals.{fast_float_on_literals}
use Rattle.measured_values.specs.declared.data_type.DataType.TheVariants.{SWord}
use Rattle.a2l_text.specs.Texts.{unescaped}
use Rattle.a2l_text.specs.Tokens.{Token, plain, quoted}
use Rattle.a2l_entries.specs.Keywords.{data_type_said}
use Rattle.a2l_entries.specs.MeasurementSaid.{limits_first, measurement_said, method_first}
use Rattle.a2l_entries.specs.MeasurementSaid.{no_options, options_said}
use Rattle.a2l_entries.specs.Said.{identifier_first, identifier_said, integer_in, kept, name_first}
use Rattle.a2l_entries.specs.Said.{name_said, number_first, number_in, number_said}
use Rattle.a2l_entries.specs.Scans.{scanned}

-- a resolution of 1, an accuracy of 0, and limits
abbrev numbers : List ℕ → List ℕ → List Token
numbers lower upper = plain (codes "1") ∷ plain (codes "0") ∷ plain lower ∷ plain upper ∷ []

-- a temperature of -40 to 215 °C: T_WATER "coolant" SWORD NO_COMPU_METHOD 1 0 -40 215
coolant :
    measurement_said (plain (codes "T_WATER") ∷ quoted (codes "coolant") ∷ plain (codes "SWORD")
    ∷ plain (codes "NO_COMPU_METHOD") ∷ numbers (codes "-40") (codes "215"))
    ≡ Some (record {
      name = codes "T_WATER";
      identifier = codes "coolant";
      data_type = SWord;
      method = None;
      limits = Some (record {
        least = of_int binary64 (negsuc 39);
        greatest = of_int binary64 (pos 215);
      });
      options = no_options;
    })
unfolding measurement_said name_first name_said identifier_first identifier_said kept
    data_type_said method_first limits_first number_first number_said number_in options_said
    scanned unescaped chars encode is_utf8 float_is_finite lt of_int fast_float_on_literals
coolant = refl

-- the limits of a byte in hexadecimal, 0x0 and 0xFF
byte :
    limits_first (numbers (codes "0x0") (codes "0xFF"))
    ≡ Some (
      Some (record {
        least = of_int binary64 (pos 0);
        greatest = of_int binary64 (pos 255);
      }),
      [],
    )
unfolding limits_first number_first number_said number_in integer_in float_is_finite lt of_int
    fast_float_on_literals
byte = refl

-- 0 0 says nothing
no_limits : limits_first (numbers (codes "0") (codes "0")) ≡ Some (None, [])
unfolding limits_first number_first number_said number_in float_is_finite lt
    fast_float_on_literals
no_limits = refl
