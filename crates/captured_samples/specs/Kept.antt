-- What is kept of samples in memory, by what was told of them.
use Rattle.std.specs.Prelude.{◌≡◌, ℕ, ◌++◌, ◌∷◌, [], List}
use Rattle.captured_samples.specs.Standing.{Told, began, handed}
use Rattle.captured_samples.specs.declared.kept_samples.KeptSample.{KeptSample}

-- of each sample the number of its list's set-up, the number of the list, its mark, its timestamp
abbrev pub kept_of : List Told → List KeptSample
kept_of [] = []
kept_of (began n l ∷ ts) = kept_of ts
kept_of (handed n s m ∷ ts) =
    record { number = n; list = s.list.list; mark = m; ticks = s.ticks } ∷ kept_of ts

-- and the bytes of all of them, one behind another
abbrev pub bytes_of : List Told → List ℕ
bytes_of [] = []
bytes_of (began n l ∷ ts) = bytes_of ts
bytes_of (handed n s m ∷ ts) = s.bytes ++ bytes_of ts

pub record AreKept (samples : List KeptSample) (bytes : List ℕ) (ts : List Told) : Type 0 where
  pub each : samples ≡ kept_of ts
  pub joined : bytes ≡ bytes_of ts
