-- What is seen of samples that stand close together.
use Rattle.std.specs.Prelude.{ℕ, Bool, List, [], ◌∷◌, if◌then◌else◌}
use Rattle.sample_picture.specs.declared.mark.Mark.{Mark}
use Rattle.sample_picture.specs.declared.mark.Mark.TheVariants.{Empty, Sample, Overload}

-- a sample of a row: its place on the axis, and whether it has the overload indication
pub record Seen : Type 0 where
  pub at : ℕ
  pub overload : Bool

-- what is seen of one sample
abbrev pub mark_of : Bool → Mark
mark_of overload = if overload then Overload else Sample

-- what is seen of two together: an overload indication before a sample, a sample before nothing
abbrev pub with_mark : Mark → Mark → Mark
with_mark Overload other = Overload
with_mark Sample Overload = Overload
with_mark Sample other = Sample
with_mark Empty other = other

-- what is seen of the samples whose place is chosen
abbrev pub mark_at : (ℕ → Bool) → List Seen → Mark
mark_at chosen [] = Empty
mark_at chosen (s ∷ seen) =
    if chosen s.at then with_mark (mark_of s.overload) (mark_at chosen seen)
    else mark_at chosen seen
