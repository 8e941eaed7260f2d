-- How a physical value is written.
use Rattle.std.specs.Prelude.{◌≡◌, List, ℕ, ◌++◌, IsFalse, IsTrue, Some}
use Rattle.std.specs.Fmt.{decimal, signed_decimal}
use Rattle.std.specs.Float.{Float, Format, binary32, binary64, float_is_finite}
use Rattle.fast_float.specs.Parse.{parse_float}
use Rattle.ryu.specs.Plain.{IsLaidOutNumber, word_of}
use Rattle.measured_values.specs.Physicals.{Shown, Value, Words}
use Rattle.measured_values.specs.declared.raw.Raw.{Raw}
use Rattle.measured_values.specs.declared.raw.Raw.TheVariants.{Double, Signed, Single, Unsigned}

-- a text grew by one of a kind
abbrev pub GrowsBy : (List ℕ → Type 0) → List ℕ → List ℕ → Type 0
GrowsBy Is before after = (text : List ℕ) × (after ≡ before ++ text) × Is text

-- the text of a float: it reads back as the same float; a finite one is a plain numeral, with an
-- exponent exactly if more whole digits or more zeros behind the point would stand than these
pub record IsFloatText (f : Format) (whole_digits zeros : ℕ) (x : Float) (text : List ℕ) :
    Type 0 where
  pub parses : parse_float f text ≡ Some x
  pub layout : IsTrue (float_is_finite x) → IsLaidOutNumber whole_digits zeros text
  pub word : IsFalse (float_is_finite x) → text ≡ word_of x

-- the text of a number
abbrev pub IsNumberText : Raw → List ℕ → Type 0
IsNumberText (Unsigned n) text = text ≡ decimal n
IsNumberText (Signed z) text = text ≡ signed_decimal z
IsNumberText (Single x) text = IsFloatText binary32 13 5 x text
IsNumberText (Double x) text = IsFloatText binary64 16 4 x text

-- the text of a value that is shown
abbrev pub IsTextOf : Shown → List ℕ → Type 0
IsTextOf (Value value) text = IsNumberText value text
IsTextOf (Words words) text = text ≡ words

-- a text begins with what stood there before
abbrev pub Keeps : List ℕ → List ℕ → Type 0
Keeps before after = (text : List ℕ) × (after ≡ before ++ text)
