-- Frames that were laid out, or find no place.
use Rattle.std.specs.Prelude.{ℕ, ◌+◌, ◌≤◌, ◌≡◌, ◌⊎◌, List, ◌++◌, drop, length, take}
use Rattle.frame_writer.specs.declared.layout.TheConstants.{MAX_SAMPLE_BYTES}
use Rattle.frame_writer.specs.Shown.{OutState}
use Rattle.frame_writer.specs.Writing.{WriterState}
use Rattle.transmitter.specs.Written.{BreaksWithin}

-- some text was written, and stands in the buffer from `at` to `end`; behind it nothing changed
pub record Lays (a b : OutState) (old new : List ℕ) (at end : ℕ) : Type 0 where
  -- fixed by `wrote`
  pub text : List ℕ
  pub wrote : b.contents ≡ a.contents ++ text
  pub front : take end new ≡ take at old ++ text
  pub end_is : end ≡ at + length text
  pub few : end ≤ at + MAX_SAMPLE_BYTES
  pub behind : drop end new ≡ drop end old
  pub len : length new ≡ length old

-- the writer, which may fail, failed within the frames; or nothing was written, since there is no
-- room
abbrev pub FindsNone : Type 0 → Type 0 → WriterState → WriterState → List (List ℕ) → Type 0
FindsNone may_fail no_room a b qs = (may_fail × BreaksWithin a b qs) ⊎ (no_room × (b ≡ a))
