-- What a text that was written is.
use Rattle.std.proofs.Common.{ℕ, List, Option, Result, Ok, Err}
use Rattle.std.specs.Prelude.{OnOk}
use Rattle.std.specs.Io.KnownBytes.{Appends}
use Rattle.sample_picture.specs.Shown.{IsClosed}

-- a text that has its end, and was written
pub printed : {T E : Type 0} (writing : Result T E) (text : List ℕ) (before after : Option (List ℕ))
    → IsClosed text → OnOk writing (Appends before after text)
    → OnOk writing ((written : List ℕ) × IsClosed written × Appends before after written)
printed (Ok x) text before after closed appends = (text, closed, appends)
printed (Err e) text before after closed appends = tt
