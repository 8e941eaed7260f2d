-- Timestamps without their wraps.
use Rattle.std.proofs.Common.{◌≡◌, ℕ, ◌+◌, ◌*◌, ◌/◌, ◌%◌, ◌^◌, ◌<◌, ◌≤◌, ◌∙◌, ap, arith, sym}
use Rattle.std.proofs.Common.{◌⊎◌, inl, inr}
use Rattle.std.proofs.Math.Nat.{add-mod_right, add-mul-mod_self_right, div-add-mod}
use Rattle.std.proofs.Math.Nat.{mul-add-mod_self_left, mul-le-mul, one-le-mul, one-le-pow}
use Rattle.std.proofs.Math.Nat.{pow-le-pow_right}
use Rattle.capture_tables.specs.Clocks.{HasTicks, IsNearest}
use Rattle.capture_tables.specs.declared.passed.Passed.{Passed}

-- the ticks of a time are those of what is left of it beyond whole wraps
pub rest_of : (last d wrap : ℕ) → (last + d) % wrap ≡ (last % wrap + d) % wrap
rest_of last d wrap =
    let is : last + d ≡ wrap * (last / wrap) + (last % wrap + d) =
    omega (arith, div-add-mod last wrap) in
    ap (λ n. n % wrap) is ∙ mul-add-mod_self_left wrap (last / wrap) (last % wrap + d)

-- nothing is left twice
pub mod-mod : (a wrap : ℕ) → a % wrap % wrap ≡ a % wrap
mod-mod a wrap =
    sym (mul-add-mod_self_left wrap (a / wrap) (a % wrap))
    ∙ ap (λ n. n % wrap) (div-add-mod a wrap)

-- so far ahead of a time the next one has these ticks
pub ahead_has : (last ticks wrap d : ℕ)
    → (last % wrap + d ≡ ticks % wrap) ⊎ (last % wrap + d ≡ ticks % wrap + wrap)
    → HasTicks ticks wrap (last + d)
ahead_has last ticks wrap d (inl is) =
    rest_of last d wrap ∙ ap (λ n. n % wrap) is ∙ mod-mod ticks wrap
ahead_has last ticks wrap d (inr is) =
    rest_of last d wrap ∙ ap (λ n. n % wrap) is ∙ add-mod_right (ticks % wrap) wrap
    ∙ mod-mod ticks wrap

-- whole wraps from a time so far ahead, by what passed rounded to the nearest
pub is_nearest : (last ahead back wrap wraps at : ℕ) (passed : Passed)
    → back + ahead ≡ wrap → at + wrap ≡ last + ahead + wraps * wrap
    → wraps * (wrap * passed.tick)
    ≤ passed.picoseconds + back * passed.tick + wrap * passed.tick / 2
    → passed.picoseconds + back * passed.tick + wrap * passed.tick / 2
    < wraps * (wrap * passed.tick) + wrap * passed.tick
    → IsNearest last (last + ahead) wrap passed at
is_nearest last ahead back wrap wraps at passed both is least most =
    let tick = passed.tick in
    let sum : (at + wrap) * tick ≡ (last + ahead + wraps * wrap) * tick = ap (λ n. n * tick) is in
    let parts : (back + ahead) * tick ≡ wrap * tick = ap (λ n. n * tick) both in record {
      same =
          sym (add-mod_right at wrap) ∙ ap (λ n. n % wrap) is
          ∙ add-mul-mod_self_right (last + ahead) wraps wrap;
      not_late = omega (arith, sum, parts, least, most);
      not_early = omega (arith, sum, parts, least, most);
    }

-- a tick of so many units fits
pub units_fit : (ticks power : ℕ) → ticks < 65536 → power ≤ 12 → ticks * 10 ^ power < 2 ^ 64
units_fit ticks power few small =
    let ten : 0 < 10 = omega arith in
    let unit : 10 ^ power ≤ 10 ^ 12 = pow-le-pow_right ten small in
    let most : ticks ≤ 65535 = omega arith in
    let product : ticks * 10 ^ power ≤ 65535 * 10 ^ 12 = mul-le-mul most unit in
    omega (arith, product)

pub units_some : (ticks power : ℕ) → 0 < ticks → 0 < ticks * 10 ^ power
units_some ticks power some = one-le-mul some (one-le-pow power 10 (omega arith))
