-- Why a text has no next word.
use Rattle.std.specs.Prelude.{◌≡◌, ◌≢◌, ℕ, List, [], ◌∷◌, ◌⊎◌}
use Rattle.a2l_text.specs.Fronts.{NeverEnds, ends_block}
use Rattle.a2l_text.specs.Gaps.{Skips}
use Rattle.a2l_text.specs.Tokens.{IsOwn, IsPair}
use Rattle.a2l_text.specs.declared.fault.WordFault.{WordFault}
use Rattle.a2l_text.specs.declared.fault.WordFault.TheVariants.{OpenText, OpenComment}

-- what stands between quotes goes on to the end: a backslash may be the last byte
abbrev pub IsOpenText : List ℕ → Type 0
IsOpenText [] = Unit {0}
IsOpenText (byte ∷ []) = byte ≢ 34
IsOpenText (first ∷ second ∷ bytes) =
    (IsOwn first × IsOpenText (second ∷ bytes)) ⊎ (IsPair first second × IsOpenText bytes)

-- from here on a text or a comment isn't closed
abbrev pub IsFault : WordFault → List ℕ → Type 0
IsFault OpenText from = (bytes : List ℕ) × (from ≡ 34 ∷ bytes) × IsOpenText bytes
IsFault OpenComment from = (bytes : List ℕ) × (from ≡ 47 ∷ 42 ∷ bytes) × NeverEnds ends_block bytes

-- the text is a gap, and then something that isn't closed
pub record Stalls (text : List ℕ) (fault : WordFault) (from : List ℕ) : Type 0 where
  pub gap : Skips text from
  pub fault_is : IsFault fault from
