-- What a writer shows of the bytes that it was handed.
use Rattle.std.specs.Prelude.{◌≡◌, ◌≢◌, ℕ, ◌<◌, ◌⊎◌, List, ◌++◌, length, take}
use Rattle.frame_writer.specs.declared.out.Out.{Ghosts}
use Rattle.frame_writer.specs.Counts.{OneRose}

-- the bytes that a writer took, and how often it failed and stalled
pub record OutState : Type 0 where
  pub contents : List ℕ
  pub failures : ℕ
  pub stalls : ℕ

abbrev pub shown : {O : Type 0} → Ghosts O → O → OutState
shown O out = record { contents = O.contents out; failures = O.failures out; stalls = O.stalls out }

-- it took these bytes, and nothing went wrong
abbrev pub after_bytes : OutState → List ℕ → OutState
after_bytes a bytes = record a { contents = a.contents ++ bytes }

-- failures or stalls rose
abbrev pub Rose : OutState → OutState → Type 0
Rose a b = (b.failures ≢ a.failures) ⊎ (b.stalls ≢ a.stalls)

-- it failed or stalled, once, within these bytes: it took a proper prefix of them
pub record BreaksOff (a b : OutState) (bytes : List ℕ) : Type 0 where
  -- fixed by `contents`
  pub kept : ℕ
  pub proper : kept < length bytes
  pub contents : b.contents ≡ a.contents ++ take kept bytes
  pub rose : Rose a b
  pub once : OneRose a.failures a.stalls b.failures b.stalls
