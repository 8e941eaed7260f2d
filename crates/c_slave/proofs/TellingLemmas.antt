-- The last measurements, one by one.
use Rattle.std.proofs.Common.{◌≡◌, ℕ, zero, suc, ◌+◌, ◌-◌, ◌<◌, Bool, List, [], ◌∷◌, Some, refl, subst, arith}
use Rattle.std.specs.Prelude.{slice_get}
use Rattle.slave_channels.specs.Accounts.{AccountState}
use Rattle.c_slave.specs.Measurements.{IsOfMeasurement}
use Rattle.c_slave.specs.declared.measurements_out.MeasurementOut.{MeasurementOut}

-- each of four is that of its number
pub each-of-four : (account : AccountState) (whole : List Bool) (a b c d : MeasurementOut) (w x y z : Bool)
    → slice_get whole 0 ≡ Some w → slice_get whole 1 ≡ Some x → slice_get whole 2 ≡ Some y → slice_get whole 3 ≡ Some z
    → IsOfMeasurement account (account.end - 4) w a → IsOfMeasurement account (account.end - 4 + 1) x b
    → IsOfMeasurement account (account.end - 4 + 2) y c → IsOfMeasurement account (account.end - 4 + 3) z d
    → (i : ℕ) → i < 4
    → (v : Bool) × ((one : MeasurementOut) × (slice_get whole i ≡ Some v) × (slice_get (a ∷ b ∷ c ∷ d ∷ []) i ≡ Some one) × IsOfMeasurement account (account.end - 4 + i) v one)
each-of-four account whole a b c d w x y z at_w at_x at_y at_z is_a is_b is_c is_d zero less =
    let same : account.end - 4 ≡ account.end - 4 + 0 = omega arith in
    (w, (a, at_w, refl, subst (λ n. IsOfMeasurement account n w a) same is_a))
each-of-four account whole a b c d w x y z at_w at_x at_y at_z is_a is_b is_c is_d (suc zero) less = (x, (b, at_x, refl, is_b))
each-of-four account whole a b c d w x y z at_w at_x at_y at_z is_a is_b is_c is_d (suc (suc zero)) less = (y, (c, at_y, refl, is_c))
each-of-four account whole a b c d w x y z at_w at_x at_y at_z is_a is_b is_c is_d (suc (suc (suc zero))) less = (z, (d, at_z, refl, is_d))
each-of-four account whole a b c d w x y z at_w at_x at_y at_z is_a is_b is_c is_d (suc (suc (suc (suc i)))) less = absurd (omega (arith, less))
