-- What the writers of this crate show.
use Rattle.std.specs.Prelude.{ℕ, ◌-◌, List, [], length, min}

-- a writer into memory: the bytes that it took, how many it has room for, and how often it failed
pub record VecOutState : Type 0 where
  pub contents : List ℕ
  pub capacity : ℕ
  pub failures : ℕ

-- a writer that takes `chunk` bytes a call and `good` in all: what it took, how many bytes it has
-- room for, and how often it failed and stalled
pub record FuseOutState : Type 0 where
  pub contents : List ℕ
  pub capacity : ℕ
  pub failures : ℕ
  pub stalls : ℕ
  pub chunk : ℕ
  pub good : ℕ

abbrev pub empty_vec_out : VecOutState
empty_vec_out = record { contents = []; capacity = 0; failures = 0 }

abbrev pub unburnt : ℕ → ℕ → FuseOutState
unburnt chunk good = record {
  contents = [];
  capacity = 0;
  failures = 0;
  stalls = 0;
  chunk = chunk;
  good = good;
}

-- how many bytes a fuse takes of some: their number, `chunk`, or what remains of `good`, whichever
-- is least
abbrev pub fuse_takes : FuseOutState → List ℕ → ℕ
fuse_takes a bytes = min (length bytes) (min a.chunk (a.good - length a.contents))
