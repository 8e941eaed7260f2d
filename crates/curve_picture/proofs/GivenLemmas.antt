-- The values of one row among all that were given, and the bounds of all of them.
use Rattle.std.proofs.Common.{◌≡◌, ℕ, ◌<◌, ◌≤◌, Bool, true, false, nat_eq, if◌then◌else◌, List, [], ◌∷◌, refl, arith}
use Rattle.std.proofs.lemmas.Bool.Decides.{nat_tests}
use Rattle.curve_picture.specs.Values.{AreReal, AreWithin, Given, Seen, all_seen, first_place, last_place, seen_of}
use Rattle.curve_picture.proofs.DrawnLemmas.{Between}

-- a row's values are among all
between_if : (low high : ℕ) (s : Seen) (seen : List Seen) (own : Bool) → low ≤ s.at → s.at ≤ high → Between low high seen → Between low high (if own then s ∷ seen else seen)
between_if low high s seen true l h rest = (l, h, rest)
between_if low high s seen false l h rest = rest

pub between_of : (low high k : ℕ) (given : List Given) → AreWithin low high given → Between low high (seen_of k given)
between_of low high k [] h = tt
between_of low high k (g ∷ given) h = between_if low high g.seen (seen_of k given) (nat_eq g.row k) h.0 h.1 (between_of low high k given h.2)

-- all values lie between the first and the last place
wider : (low high wide_low wide_high : ℕ) (given : List Given) → wide_low ≤ low → high ≤ wide_high → AreWithin low high given → AreWithin wide_low wide_high given
wider low high wide_low wide_high [] l h r = tt
wider low high wide_low wide_high (g ∷ given) l h r = (omega (arith, r.0, l), omega (arith, r.1, h), wider low high wide_low wide_high given l h r.2)

pub within_all : (given : List Given) → AreWithin (first_place (all_seen given)) (last_place (all_seen given)) given
within_all [] = tt
within_all (g ∷ given) =
    (omega arith, omega arith, wider (first_place (all_seen given)) (last_place (all_seen given)) _ _ given (omega arith) (omega arith) (within_all given))

-- values of a row that isn't there
pub none_of : (count k : ℕ) (given : List Given) → count ≤ k → AreReal count given → seen_of k given ≡ []
none_of count k [] h real = refl
none_of count k (g ∷ given) h real =
    let other : nat_eq g.row k ≡ false = (let lt : g.row < count = real.0 in grind (arith, nat_tests)) in
    rw other (none_of count k given h real.1)

pub real_more : (count more : ℕ) (given : List Given) → count ≤ more → AreReal count given → AreReal more given
real_more count more [] h real = tt
real_more count more (g ∷ given) h real = (omega (arith, real.0), real_more count more given h real.1)
