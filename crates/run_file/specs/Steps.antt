-- The grammar of a step: which text is which step.
use Rattle.std.specs.Prelude.{◌≡◌, ◌≢◌, ◌<◌, ◌^◌, ℕ, List, [], ◌∷◌, length, slice_index, codes, Ok}
use Rattle.std.specs.List.{join_with_byte}
use Rattle.std.specs.Str.Parse.{IsNumeral, digits_value}
use Rattle.hex.specs.Hex.{decode_of}

-- what a step does. An image is the bytes of it
pub data StepData : Type 0 where
  trigger : ℕ → ℕ → List ℕ → StepData
  start : ℕ → ℕ → StepData
  stop : ℕ → ℕ → StepData
  pump : StepData

-- the words with exactly one space between two of them, none before or after
abbrev pub spaced : List (List ℕ) → List ℕ
spaced words = join_with_byte 32 words

-- the word is the number in decimal digits, with no sign, and no zero in front of other digits
pub record IsDecimal (word : List ℕ) (n : ℕ) : Type 0 where
  pub digits : IsNumeral 10 word
  pub shortest : 1 < length word → slice_index word 0 ≢ 48
  pub value : digits_value 10 word ≡ n

-- the word is the image in hexadecimal digits of either case, and the image has a byte
pub record IsImage (word image : List ℕ) : Type 0 where
  pub digits : decode_of word ≡ Ok image
  pub some : 0 < length image

-- trigger C STAMP IMAGE
pub record IsTrigger (channels : ℕ) (text : List ℕ) (channel stamp : ℕ) (image : List ℕ)
    : Type 0 where
  pub c : List ℕ
  pub s : List ℕ
  pub i : List ℕ
  pub words : text ≡ spaced (codes "trigger" ∷ c ∷ s ∷ i ∷ [])
  pub channel_word : IsDecimal c channel
  pub below : channel < channels
  pub stamp_word : IsDecimal s stamp
  pub fits : stamp < 2 ^ 32
  pub image_word : IsImage i image

-- VERB C L, where VERB is `start` or `stop`
pub record IsSwitch (verb : List ℕ) (channels : ℕ) (text : List ℕ) (channel list : ℕ) : Type 0 where
  pub c : List ℕ
  pub l : List ℕ
  pub words : text ≡ spaced (verb ∷ c ∷ l ∷ [])
  pub channel_word : IsDecimal c channel
  pub below : channel < channels
  pub list_word : IsDecimal l list
  pub fits : list < 256

-- with so many event channels the text is this step
abbrev pub IsStepText : ℕ → List ℕ → StepData → Type 0
IsStepText channels text (trigger channel stamp image) = IsTrigger channels text channel stamp image
IsStepText channels text (start channel list) = IsSwitch (codes "start") channels text channel list
IsStepText channels text (stop channel list) = IsSwitch (codes "stop") channels text channel list
IsStepText channels text pump = text ≡ codes "pump"
