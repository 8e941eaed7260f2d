-- Of what a slot may hold there is one, and it is of the slot's line.
use Rattle.std.proofs.Common.{◌≡◌, ℕ, zero, suc, ◌<◌, Bool, true, false, List, [], ◌∷◌, ◌++◌, length, map, set, get_or, Option, Some, None, inr, refl, sym, ap, ◌∙◌, subst, arith}
use Rattle.std.specs.Prelude.{IfSome, slice_get}
use Rattle.std.specs.Option.{is_some}
use Rattle.std.proofs.lemmas.Bool.{false≢true}
use Rattle.channel_ring.specs.Ends.{RingName}
use Rattle.frame_ring.specs.declared.frame_send.FrameSend.{FrameSend}
use Rattle.tasks.specs.Tasks.{TaskEndState, TaskState}
use Rattle.slave_lending.specs.Lends.{NoneAwayOf}
use Rattle.slave_lending.specs.Slots.{AreEndsOf, IsEndOf, IsOneOf, MayComeBack, SlotState, is_away}

-- where the task is, nothing is back
pub none-back : {A B : Type 0} (here : Option A) (coming : Bool) (back : Option B) (task : A) → ◌≡◌ {A = Option A} (Some task) here
    → IsOneOf (is_some here) coming (is_some back) → back ≡ None
none-back None coming back task is one = absurd cc
none-back (Some x) true (Some y) task is one = elim one [ ]
none-back (Some x) false (Some y) task is one = elim one [ ]
none-back (Some x) coming None task is one = refl

-- where it is to come back, it isn't here, and nothing is back
pub coming-alone : {A B : Type 0} (here : Option A) (coming : Bool) (back : Option B) → coming ≡ true → IsOneOf (is_some here) coming (is_some back)
    → (here ≡ None) × (back ≡ None)
coming-alone None false back on one = absurd (false≢true on)
coming-alone (Some x) false back on one = absurd (false≢true on)
coming-alone None true None on one = (refl, refl)
coming-alone None true (Some y) on one = elim one [ ]
coming-alone (Some x) true None on one = elim one [ ]
coming-alone (Some x) true (Some y) on one = elim one [ ]

-- what is left of it comes back
pub comes-back : (ring : RingName) (here : Option (TaskState FrameSend)) (back : Option (TaskEndState FrameSend)) (now : SlotState) (end : TaskEndState FrameSend)
    → record { ring = ring; here = here; back = back } ≡ now → here ≡ None → back ≡ None → end.ring ≡ ring → MayComeBack now (record { ring = ring; here = here; back = Some end })
comes-back ring here back now end is none no_end line =
    subst (λ (s : SlotState). MayComeBack s (record { ring = ring; here = here; back = Some end })) is
    (inr ((λ i. record { ring = ring; here = none i; back = no_end i }), (end, line, (λ i. record { ring = sym line i; here = none i; back = Some end }))))

pub is-alone : {A : Type 0} (here : Option A) → here ≡ None → IsOneOf (is_some here) false true
is-alone None is = tt
is-alone (Some x) is = absurd cc

pub no-line : (here : Option (TaskState FrameSend)) (ring : RingName) → here ≡ None → IfSome here (λ t. t.ring ≡ ring)
no-line None ring is = tt
no-line (Some x) ring is = absurd cc

-- and it is of the slot's line
pub here-line : (here : Option (TaskState FrameSend)) (task : TaskState FrameSend) (ring : RingName) → Some task ≡ here
    → IfSome here (λ t. t.ring ≡ ring) → task.ring ≡ ring
here-line here task ring is lines = subst (λ o. IfSome o (λ t. t.ring ≡ ring)) (sym is) lines

-- a slot that is written is of the line of the one before
pub lines-set : (xs : List SlotState) (c : ℕ) (x y : SlotState) → x ≡ get_or xs c x → c < length xs → y.ring ≡ x.ring
    → map (λ (s : SlotState). s.ring) (set xs c y) ≡ map (λ (s : SlotState). s.ring) xs
lines-set [] c x y is below same = absurd (omega (arith, below))
lines-set (s ∷ xs) zero x y is below same =
    ap (λ r. r ∷ map (λ (s : SlotState). s.ring) xs) (same ∙ ap (λ (z : SlotState). z.ring) is)
lines-set (s ∷ xs) (suc c) x y is below same = ap (λ rs. s.ring ∷ rs) (lines-set xs c x y is (omega (arith, below)) same)

-- what is left of one task more
pub ends-more : (xs : List SlotState) (es : List (TaskEndState FrameSend)) (s : SlotState) (e : TaskEndState FrameSend) → AreEndsOf xs es → IsEndOf s e
    → AreEndsOf (xs ++ s ∷ []) (es ++ e ∷ [])
ends-more [] [] s e are is = (is, tt)
ends-more [] (y ∷ es) s e are is = elim are [ ]
ends-more (x ∷ xs) [] s e are is = elim are [ ]
ends-more (x ∷ xs) (y ∷ es) s e are is = (are.0, ends-more xs es s e are.1 is)

-- they are of the slots' lines
pub ends-lines : (xs : List SlotState) (es : List (TaskEndState FrameSend)) → AreEndsOf xs es → map (λ (e : TaskEndState FrameSend). e.ring) es ≡ map (λ (s : SlotState). s.ring) xs
ends-lines [] [] are = refl
ends-lines [] (y ∷ es) are = elim are [ ]
ends-lines (x ∷ xs) [] are = elim are [ ]
ends-lines (x ∷ xs) (y ∷ es) are = λ i. are.0.line i ∷ ends-lines xs es are.1 i

-- none is away of those behind
pub next-here : (all xs rest : List SlotState) (s : SlotState) → xs ++ s ∷ rest ≡ all → NoneAwayOf all → is_away s ≡ false
next-here all xs rest s is none = none (length xs) s (ap (λ ys. slice_get ys (length xs)) (sym is) ∙ at xs) where
  at : (ys : List SlotState) → slice_get (ys ++ s ∷ rest) (length ys) ≡ Some s
  at [] = refl
  at (y ∷ ys) = at ys
