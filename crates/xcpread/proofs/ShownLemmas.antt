-- The writer that is given back.
use Rattle.std.proofs.Common.{Option, None, Some}
use Rattle.std.specs.Prelude.{IfSome, IsSome}

-- what is said of it is so
pub given_back : {W : Type 0} (shown : Option W) (P : W → Type 0) → IsSome shown → IfSome shown P → (after : W) × P after
given_back (Some after) P some h = (after, h)
given_back None P some h = absurd (cc (some))
