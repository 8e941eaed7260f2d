-- The grammar of a script: which text is which line.
use Rattle.std.specs.Prelude.{◌≡◌, ◌<◌, ◌≤◌, ◌^◌, ℕ, List, [], ◌∷◌, codes}
use Rattle.run_file.specs.Reading.{AreTextsOf}
use Rattle.run_file.specs.RunFile.{IsPacketText}
use Rattle.run_file.specs.Steps.{IsDecimal, IsImage, spaced}
use Rattle.session_file.specs.declared.limits.TheConstants.{ROOM}

-- what a line does. A packet is the bytes of it, and memory a slice for each word, in their order:
-- the bytes of a segment, or no byte if it isn't there
pub data LineData : Type 0 where
  master : List ℕ → LineData
  trigger : ℕ → ℕ → List (List ℕ) → LineData
  memory : List (List ℕ) → LineData
  send : LineData
  send_in : ℕ → LineData
  lose : LineData
  hang_up : LineData

-- master HEX; of a packet of no bytes the first word alone
abbrev pub IsMaster : List ℕ → List ℕ → Type 0
IsMaster text [] = text ≡ codes "master"
IsMaster text (b ∷ packet) =
    (word : List ℕ) × (text ≡ spaced (codes "master" ∷ word ∷ [])) × IsPacketText word (b ∷ packet)

-- the word is a slice: its bytes in hexadecimal, or `-` if it has none
abbrev pub IsSlice : List ℕ → List ℕ → Type 0
IsSlice word [] = word ≡ codes "-"
IsSlice word (b ∷ bytes) = IsImage word (b ∷ bytes)

-- memory SLICE SLICE ..: the next packets read this memory
pub record IsMemory (text : List ℕ) (slices : List (List ℕ)) : Type 0 where
  pub first : List ℕ
  pub more : List (List ℕ)
  pub words : text ≡ spaced (codes "memory" ∷ first ∷ more)
  pub slices_are : AreTextsOf IsSlice (first ∷ more) slices

-- trigger C STAMP SLICE SLICE ..
pub record IsTrigger (text : List ℕ) (channel stamp : ℕ) (slices : List (List ℕ)) : Type 0 where
  pub c : List ℕ
  pub s : List ℕ
  pub first : List ℕ
  pub more : List (List ℕ)
  pub words : text ≡ spaced (codes "trigger" ∷ c ∷ s ∷ first ∷ more)
  pub channel_word : IsDecimal c channel
  pub below : channel < 256
  pub stamp_word : IsDecimal s stamp
  pub fits : stamp < 2 ^ 32
  pub slices_are : AreTextsOf IsSlice (first ∷ more) slices

-- send N: frames of N bytes at most, which find room in one datagram
pub record IsSendIn (text : List ℕ) (room : ℕ) : Type 0 where
  pub word : List ℕ
  pub words : text ≡ spaced (codes "send" ∷ word ∷ [])
  pub number : IsDecimal word room
  pub fits : room ≤ ROOM

-- the text is this line. An event channel has 8 bits: whether there is one of this number is seen
-- when the line is done
abbrev pub IsLineText : List ℕ → LineData → Type 0
IsLineText text (master packet) = IsMaster text packet
IsLineText text (trigger channel stamp slices) = IsTrigger text channel stamp slices
IsLineText text (memory slices) = IsMemory text slices
IsLineText text send = text ≡ codes "send"
IsLineText text (send_in room) = IsSendIn text room
IsLineText text lose = text ≡ codes "lose"
IsLineText text hang_up = text ≡ codes "hang_up"
