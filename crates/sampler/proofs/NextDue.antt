-- When a list is due next.
use Rattle.std.proofs.Common.{◌≡◌, ℕ, zero, suc, ◌+◌, ◌-◌, ◌%◌, ◌*◌, ◌/◌, ◌<◌, ◌≤◌, Bool, true, false, ◌&&◌, List, [], ◌∷◌, length, get_or, set, take, refl, ap, ◌∙◌, arith, nat_eq, mod-lt, inl, inr}
use Rattle.std.specs.Prelude.{if◌then◌else◌}
use Rattle.std.proofs.Math.Nat.{zero-mod, mod_self, mod-eq_of_lt, mod-add-div, add-mul-mod_self_left}
use Rattle.std.proofs.lemmas.Bool.Decides.{nat_tests, eqb_tells}
use Rattle.sampler.specs.declared.track.TheConstants.{NEVER}
use Rattle.sampler.specs.declared.track.Track.{Track}
use Rattle.sampler.specs.Tracks.{until_due}
use Rattle.sampler.specs.Inner.AtTrigger.{due_now}
use Rattle.sampler.specs.Inner.Fits.{NoneDueBefore}

-- a list that was started now is due now
pub until_due-zero : (p : ℕ) → until_due p 0 ≡ 0
until_due-zero p = ap (λ n. if nat_eq n 0 then 0 else p - n) (zero-mod p)

-- what stands in for the triggers since the start: their rest
abbrev rest_due : ℕ → ℕ → ℕ
rest_due p r = if nat_eq r 0 then 0 else p - r

-- the list is due now exactly where no trigger passes until it is
pub due-until : (t p n : ℕ) → 0 < p → nat_eq (t + until_due p n) t ≡ nat_eq (n % p) 0
due-until t p n some = by_rest (n % p) (mod-lt n some)
  where
    by_rest : (r : ℕ) → r < p → nat_eq (t + rest_due p r) t ≡ nat_eq r 0
    by_rest zero below = grind (arith, nat_tests)
    by_rest (suc r) below = grind (arith, nat_tests)

step-mod : (n p : ℕ) → (1 + n) % p ≡ (n % p + 1) % p
step-mod n p =
    let e : 1 + n ≡ (n % p + 1) + p * (n / p) = omega (arith, mod-add-div n p) in
    ap (λ k. k % p) e ∙ add-mul-mod_self_left (n % p + 1) p (n / p)

rest_due-none : (p r : ℕ) → r ≡ 0 → rest_due p r ≡ 0
rest_due-none p r e = ap (rest_due p) e

rest_due-some : (p r : ℕ) → 0 < r → rest_due p r ≡ p - r
rest_due-some p r some =
    let other : nat_eq r 0 ≡ false = grind (arith, nat_tests, some) in
    ap (λ b. if b then 0 else p - r) other

one_on : (p r : ℕ) → r < p → rest_due p ((r + 1) % p) ≡ p - 1 - r
one_on p r below =
    elim (eqb_tells (r + 1) p) [
      | inl w ↦ rest_due-none p ((r + 1) % p) (ap (λ k. k % p) w.1 ∙ mod_self p) ∙ omega (arith, w.1)
      | inr w ↦
          let less : r + 1 < p = omega (arith, below, w.1) in
          ap (rest_due p) (mod-eq_of_lt less) ∙ rest_due-some p (r + 1) (omega arith) ∙ omega (arith, less)
    ]

-- one trigger more: where the list was due it is next due a prescaler later, else when it was to be
pub next-one : (runs : Bool) (t p n : ℕ) → 0 < p →
    (if runs then t + 1 + until_due p (1 + n) else NEVER)
    ≡ (if runs && nat_eq (n % p) 0 then (if runs then t + until_due p n else NEVER) + p else (if runs then t + until_due p n else NEVER))
next-one false t p n some = refl
next-one true t p n some =
    ap (λ r. t + 1 + rest_due p r) (step-mod n p) ∙ by_rest (n % p) (mod-lt n some)
  where
    by_rest : (r : ℕ) → r < p → t + 1 + rest_due p ((r + 1) % p) ≡ (if nat_eq r 0 then t + rest_due p r + p else t + rest_due p r)
    by_rest r below =
        let next : rest_due p ((r + 1) % p) ≡ p - 1 - r = one_on p r below in
        elim (eqb_tells r 0) [
          | inl z ↦ rw z.0 (omega (arith, next, z.1, some))
          | inr z ↦ rw z.0 (omega (arith, next, z.1, below))
        ]

and_false : (b : Bool) → (b && false) ≡ false
and_false true = refl
and_false false = refl

-- a list isn't due before the trigger at which it is due next
pub none-due : (soonest trigger : ℕ) (t : Track) → soonest ≤ t.next → trigger < soonest → due_now trigger t ≡ false
none-due soonest trigger t later before =
    let other : nat_eq t.next trigger ≡ false = grind (arith, nat_tests, later, before) in
    ap (λ b. t.running && b) other ∙ and_false t.running

pub NoneDueBefore-sooner : (a b : ℕ) (tracks : List Track) → a ≤ b → NoneDueBefore b tracks → NoneDueBefore a tracks
NoneDueBefore-sooner a b [] le h = tt
NoneDueBefore-sooner a b (t ∷ tracks) le h = (omega (arith, le, h.0), NoneDueBefore-sooner a b tracks le h.1)

-- one track more
pub NoneDueBefore-more : (a b i : ℕ) (tracks : List Track) (d : Track) → a ≤ b → NoneDueBefore b (take i tracks) → i < length tracks → a ≤ (get_or tracks i d).next → NoneDueBefore a (take (suc i) tracks)
NoneDueBefore-more a b i [] d le h below here = absurd (omega (arith, below))
NoneDueBefore-more a b zero (t ∷ tracks) d le h below here = (here, tt)
NoneDueBefore-more a b (suc i) (t ∷ tracks) d le h below here = (omega (arith, le, h.0), NoneDueBefore-more a b i tracks d le h.1 (omega (arith, below)) here)

-- a list that is due at a trigger is next due no later than it
pub due-below : (trigger limit : ℕ) (t : Track) → due_now trigger t ≡ true → trigger ≤ limit → t.next ≤ limit
due-below trigger limit t due below =
    let is : nat_eq t.next trigger ≡ true = and_right t.running (nat_eq t.next trigger) due in
    let same : t.next ≡ trigger = grind (arith, nat_tests, is) in
    omega (arith, same, below)
  where
    and_right : (a b : Bool) → (a && b) ≡ true → b ≡ true
    and_right true b e = e
    and_right false b e = absurd cc

-- another track in the place of one
pub NoneDueBefore-set : (a i : ℕ) (tracks : List Track) (t : Track) → NoneDueBefore a tracks → a ≤ t.next → NoneDueBefore a (set tracks i t)
NoneDueBefore-set a i [] t h here = tt
NoneDueBefore-set a zero (x ∷ tracks) t h here = (here, h.1)
NoneDueBefore-set a (suc i) (x ∷ tracks) t h here = (h.0, NoneDueBefore-set a i tracks t h.1 here)
