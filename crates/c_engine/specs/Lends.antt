-- How an engine hands its samplers out.
use Rattle.std.specs.Prelude.{◌≡◌, [], ◌∷◌, ◌++◌, Option, Some, None}
use Rattle.sampler.specs.State.{SamplerState}
use Rattle.c_engine.specs.Lendings.{LendingState}

module _ {S E : Type 0} where
  -- the first sampler that there is goes out
  pub record Lends (old new : LendingState S E) (sampler : SamplerState S) : Type 0 where
    pub first : old.samplers ≡ sampler ∷ new.samplers
    pub out : new.out ≡ old.out ++ sampler ∷ []
    pub began : new.began ≡ old.began
    pub ends : new.ends ≡ old.ends

  -- the first one goes out, where there is one
  abbrev pub LendsNext
      : LendingState S E → LendingState S E → Option (SamplerState S) → Type 0
  LendsNext old new (Some sampler) = Lends old new sampler
  LendsNext old new None = (old.samplers ≡ []) × (new ≡ old)
