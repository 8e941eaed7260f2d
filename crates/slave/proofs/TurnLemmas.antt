-- Over many calls each ring has its turns.
use Rattle.std.proofs.Common.{◌≡◌, ◌⊎◌, ℕ, ◌+◌, ◌<◌, ◌≤◌, false, if◌then◌else◌, List, [], ◌∷◌, length, length-append, sym, ap, ◌∙◌, subst, arith, inl, inr}
use Rattle.std.specs.Prelude.{nat_le}
use Rattle.std.proofs.lemmas.Bool.{false≢true}
use Rattle.std.proofs.lemmas.Bool.Decides.{leb_tells}
use Rattle.slave.specs.Hearing.{is_spent}
use Rattle.slave.specs.Standing.{SlaveState}
use Rattle.slave.specs.Taking.{LooksAt, TakesFairly, known_of, newest_at, received_of}
use Rattle.slave.specs.Turns.{Call, FairShares, LeaveSome, TakeByTurns, taken_by, taken_by_all}

-- 1 from event channel x on, and 0 below it
from : ℕ → ℕ → ℕ
from x c = if nat_le x c then 1 else 0

abbrev Tells : ℕ → ℕ → Type 0
Tells x c = ((x ≤ c) × (from x c ≡ 1)) ⊎ ((c < x) × (from x c ≡ 0))

from_tells : (x c : ℕ) → Tells x c
unfolding from
from_tells x c = elim (leb_tells x c) [
  | inl w ↦ inl (w.1, ap (λ b. if b then 1 else 0) w.0)
  | inr w ↦ inr (w.1, ap (λ b. if b then 1 else 0) w.0)
]

-- so many looks at ring c, from `next` on up to `end`
abbrev HasTurns : ℕ → ℕ → ℕ → ℕ → ℕ → Type 0
HasTurns looks turns next end c = looks + from end c ≡ turns + from next c

-- two rings whose looks are so many differ by one at most
within-one : (taken other turns next end c k : ℕ) → taken + from end c ≤ turns + from next c → turns + from next k ≤ other + from end k → Tells next c → Tells end c → Tells next k → Tells end k → taken ≤ other + 1
within-one taken other turns next end c k most least (inl a) (inl b) ck dk = omega (arith, most, least, a.1, b.1)
within-one taken other turns next end c k most least (inr a) e ck dk = omega (arith, most, least, a.1)
within-one taken other turns next end c k most least (inl a) (inr b) (inl p) dk = omega (arith, most, least, a.1, b.1, p.1)
within-one taken other turns next end c k most least (inl a) (inr b) (inr p) (inr q) = omega (arith, most, least, a.1, b.1, p.1, q.1)
within-one taken other turns next end c k most least (inl a) (inr b) (inr p) (inl q) =
    let low = a.0 in
    let high = b.0 in
    let below = p.0 in
    let above = q.0 in
    absurd (omega (arith, low, high, below, above))

-- so many looks, so many items, but where all are taken that were known
record Counts (looks taken known : ℕ) : Type 0 where
  most : taken ≤ looks
  least : taken < known → looks ≤ taken

-- the turns of ring c
record Turns (turns next end : ℕ) (c taken : ℕ) (Some : Type 0) : Type 0 where
  most : taken + from end c ≤ turns + from next c
  least : Some → turns + from next c ≤ taken + from end c

by-looks : (looks turns next end c taken known : ℕ) → Counts looks taken known → HasTurns looks turns next end c → Turns turns next end c taken (taken < known)
by-looks looks turns next end c taken known counted has =
    let few = counted.most in
    record { most = omega (arith, few, has); least = λ some. let many = counted.least some in omega (arith, many, has) }

-- the looks of a call
counts : (n : ℕ) (a b : SlaveState) (c : ℕ) → LooksAt n a b c → Counts n (taken_by c (a, b)) (length (known_of (newest_at a c)))
counts n a b c looks =
    let all : length (received_of (newest_at b c)) ≡ length (received_of (newest_at a c)) + length looks.taken = ap length looks.gains ∙ length-append (received_of (newest_at a c)) looks.taken in
    let few = looks.most in
    record {
      most = omega (arith, all, few);
      least = λ some.
          elim (leb_tells n (length looks.taken)) [
            | inl w ↦ omega (arith, all, w.1)
            | inr w ↦ let none = looks.fewer w.1 in absurd (omega (arith, all, none, some))
          ];
    }

-- one call
call-turns : (a b : SlaveState) → TakesFairly a b → is_spent b ≡ false → (turns : ℕ) × ((c : ℕ) → Turns turns a.next b.next c (taken_by c (a, b)) (taken_by c (a, b) < length (known_of (newest_at a c))))
call-turns a b fair fresh =
    let end : b.next ≡ fair.end = elim fair.next [
      | inl e ↦ e
      | inr spent ↦ absurd (false≢true (sym fresh ∙ spent))
    ] in
    subst (λ e. (turns : ℕ) × ((c : ℕ) → Turns turns a.next e c (taken_by c (a, b)) (taken_by c (a, b) < length (known_of (newest_at a c))))) (sym end)
    (elim (leb_tells a.next fair.end) [
      | inl far ↦ (fair.rounds, λ c. up c far.1 (from_tells a.next c) (from_tells fair.end c))
      | inr near ↦ (fair.rounds + 1, λ c. round c near.1 (from_tells a.next c) (from_tells fair.end c))
    ]) where
      known : ℕ → ℕ
      known c = length (known_of (newest_at a c))

      by : (c looks turns : ℕ) → LooksAt looks a b c → HasTurns looks turns a.next fair.end c → Turns turns a.next fair.end c (taken_by c (a, b)) (taken_by c (a, b) < known c)
      by c looks turns at has = by-looks looks turns a.next fair.end c (taken_by c (a, b)) (known c) (counts looks a b c at) has

      up : (c : ℕ) → a.next ≤ fair.end → Tells a.next c → Tells fair.end c → Turns fair.rounds a.next fair.end c (taken_by c (a, b)) (taken_by c (a, b) < known c)
      up c far (inl p) (inl q) = let high = q.0 in by c fair.rounds fair.rounds (fair.others c (λ w. elim w [
        | inl v ↦ let low = v.1 in omega (arith, low, high)
        | inr v ↦ let low = v.0 in omega (arith, low, far)
      ])) (omega (arith, p.1, q.1))
      up c far (inl p) (inr q) = by c (fair.rounds + 1) fair.rounds (fair.once_more c (inl (p.0, q.0))) (omega (arith, p.1, q.1))
      up c far (inr p) (inl q) = let high = q.0 in let low = p.0 in absurd (omega (arith, high, low, far))
      up c far (inr p) (inr q) = let below = p.0 in by c fair.rounds fair.rounds (fair.others c (λ w. elim w [
        | inl v ↦ let low = v.0 in omega (arith, low, below)
        | inr v ↦ let low = v.0 in omega (arith, low, far)
      ])) (omega (arith, p.1, q.1))

      round : (c : ℕ) → fair.end < a.next → Tells a.next c → Tells fair.end c → Turns (fair.rounds + 1) a.next fair.end c (taken_by c (a, b)) (taken_by c (a, b) < known c)
      round c near (inl p) (inl q) = by c (fair.rounds + 1) (fair.rounds + 1) (fair.once_more c (inr (near, inl p.0))) (omega (arith, p.1, q.1))
      round c near (inl p) (inr q) = let low = p.0 in let high = q.0 in absurd (omega (arith, low, high, near))
      round c near (inr p) (inr q) = by c (fair.rounds + 1) (fair.rounds + 1) (fair.once_more c (inr (near, inr q.0))) (omega (arith, p.1, q.1))
      round c near (inr p) (inl q) = let below = p.0 in let above = q.0 in by c fair.rounds (fair.rounds + 1) (fair.others c (λ w. elim w [
        | inl v ↦ let low = v.0 in omega (arith, low, below)
        | inr v ↦ elim v.1 [
          | inl low ↦ omega (arith, low, below)
          | inr high ↦ omega (arith, high, above)
        ]
      ])) (omega (arith, p.1, q.1))

-- and many
record Has (next : ℕ) (calls : List Call) : Type 0 where
  turns : ℕ
  end : ℕ
  each : (c : ℕ) → Turns turns next end c (taken_by_all c calls) (LeaveSome c calls)

has : (next : ℕ) (calls : List Call) → TakeByTurns next calls → Has next calls
has next [] by = record { turns = 0; end = next; each = λ c. record { most = omega arith; least = λ some. omega arith } }
has next ((a, b) ∷ calls) (begins, fair, fresh, rest) =
    let (turns, one) = call-turns a b fair fresh in
    let more = has b.next calls rest in
    subst (λ n. Has n ((a, b) ∷ calls)) begins
    (record {
      turns = turns + more.turns;
      end = more.end;
      each = λ c.
          let t = one c in
          let u = more.each c in
          let few = t.most in
          let few_more = u.most in
          record {
            most = omega (arith, few, few_more);
            least = λ some. let many = t.least some.0 in let many_more = u.least some.1 in omega (arith, many, many_more);
          };
    })

pub fair-shares : FairShares
fair-shares next calls c k by some =
    let all = has next calls by in
    let one = all.each c in
    let two = all.each k in
    within-one (taken_by_all c calls) (taken_by_all k calls) all.turns next all.end c k one.most (two.least some)
    (from_tells next c) (from_tells all.end c) (from_tells next k) (from_tells all.end k)
