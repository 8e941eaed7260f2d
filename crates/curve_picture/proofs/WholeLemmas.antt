-- What all bins of a row keep together.
use Rattle.std.proofs.Common.{◌≡◌, ℕ, ◌+◌, ◌/◌, ◌%◌, ◌<◌, ◌≤◌, Bool, cond, ◌&&◌, ◌||◌, nat_eq, nat_lt, List, [], ◌∷◌, get_or, Option, refl, ap, subst, ◌∙◌, arith}
use Rattle.std.specs.Float.{float_is_finite}
use Rattle.std.proofs.lemmas.Bool.Decides.{nat_tests}
use Rattle.sample_picture.specs.Gathered.{has_slot}
use Rattle.sample_picture.proofs.MergeLemmas.{less, not_less}
use Rattle.curve_picture.specs.declared.row.Row.{Row}
use Rattle.curve_picture.specs.declared.stretch.Stretch.{Stretch}
use Rattle.curve_picture.specs.Curves.{IsKept, IsRowOf, drawn, finite}
use Rattle.curve_picture.specs.Inner.{empty_bin, joined_curve}
use Rattle.curve_picture.specs.Values.{Seen, last_place}
use Rattle.curve_picture.proofs.DrawnLemmas.{Between, mixed, none_drawn}
use Rattle.curve_picture.proofs.StretchLemmas.{joined_kept}

-- a place whose bin has one of the slots so far
abbrev pub has_one_of : ℕ → ℕ → ℕ → Bool
has_one_of width count at = nat_lt (at / width % 1024) count

-- each value lies between 0 and the last place
longer : (high more : ℕ) (seen : List Seen) → high ≤ more → Between 0 high seen → Between 0 more seen
longer high more [] l h = tt
longer high more (s ∷ seen) l h = (omega arith, omega (arith, h.1, l), longer high more seen l h.2)

bounded : (seen : List Seen) → Between 0 (last_place seen) seen
bounded [] = tt
bounded (s ∷ seen) = (omega arith, omega arith, longer (last_place seen) (last_place (s ∷ seen)) seen (omega arith) (bounded seen))

-- no slot, one slot more, and all of them
pub no_slot : (width : ℕ) (seen : List Seen) → drawn (has_one_of width 0) seen ≡ []
no_slot width seen =
    none_drawn (has_one_of width 0) 0 (last_place seen) seen (bounded seen) (λ at l h. not_less (at / width % 1024) 0 (omega arith))

next_slot : (a i : ℕ) → nat_lt a (i + 1) ≡ nat_eq a i || nat_lt a i
next_slot a i = grind (arith, nat_tests)

pub one_slot_more : (row : Row) (width i : ℕ) (whole : Option Stretch) (seen : List Seen) → i < 1024 → IsRowOf width row seen
    → IsKept whole (drawn (has_one_of width i) seen)
    → IsKept (joined_curve (get_or row.bins i empty_bin).curve whole) (drawn (has_one_of width (i + 1)) seen)
one_slot_more row width i whole seen small is kept =
    joined_kept (get_or row.bins i empty_bin).curve whole (drawn (has_slot width i) seen) (drawn (has_one_of width i) seen) (drawn (has_one_of width (i + 1)) seen)
    (mixed (has_slot width i) (has_one_of width i) (has_one_of width (i + 1)) 0 (last_place seen) seen (bounded seen) (λ at l h. next_slot (at / width % 1024) i))
    (is.bins i small).curve kept

all_slots : (width : ℕ) (seen : List Seen) → drawn (has_one_of width 1024) seen ≡ finite seen
all_slots width [] = refl
all_slots width (s ∷ seen) =
    ap (λ (t : Bool). cond (t && float_is_finite s.value) (s ∷ drawn (has_one_of width 1024) seen) (drawn (has_one_of width 1024) seen))
    (less (s.at / width % 1024) 1024 (omega arith))
    ∙ ap (λ (x : List Seen). cond (float_is_finite s.value) (s ∷ x) x) (all_slots width seen)

pub whole_kept : (width count : ℕ) (whole : Option Stretch) (seen : List Seen) → count ≡ 1024
    → IsKept whole (drawn (has_one_of width count) seen) → IsKept whole (finite seen)
whole_kept width count whole seen is h =
    subst (λ (x : List Seen). IsKept whole x) (ap (λ n. drawn (has_one_of width n) seen) is ∙ all_slots width seen) h
