-- Tasks that are told, and finished, are on their lines.
use Rattle.std.proofs.Common.{◌≡◌, ◌<◌, ℕ, zero, suc, List, [], ◌∷◌, ◌++◌, length, map, set, get_or, refl, sym, ap, ◌∙◌, arith}
use Rattle.std.proofs.lemmas.List.{map-append}
use Rattle.channel_ring.specs.Ends.{RingName}
use Rattle.frame_ring.specs.declared.frame_send.FrameSend.{FrameSend}
use Rattle.tasks.specs.Tasks.{TaskEndState, TaskState, just_begun}
use Rattle.session_file.specs.Playing.{lines_of}

pub nothing-left : {X : Type 0} (l : List X) → length l ≡ 0 → l ≡ []
nothing-left [] h = refl
nothing-left (x ∷ xs) h = absurd (omega arith)

-- a task that is written is on the line of the one before
pub lines-set : (xs : List (TaskState FrameSend)) (c : ℕ) (x y : TaskState FrameSend) → x ≡ get_or xs c x → c < length xs → y.ring ≡ x.ring → lines_of (set xs c y) ≡ lines_of xs
lines-set [] c x y is below same = absurd (omega (arith, below))
lines-set (t ∷ xs) zero x y is below same =
    ap (λ r. r ∷ lines_of xs) (same ∙ ap (λ (z : TaskState FrameSend). z.ring) is)
lines-set (t ∷ xs) (suc c) x y is below same = ap (λ rs. t.ring ∷ rs) (lines-set xs c x y is (omega (arith, below)) same)

-- what is left of one task more is on its line
pub lines-more : (es fs : List (TaskEndState FrameSend)) (ts : List (TaskState FrameSend)) (t : TaskState FrameSend) (e : TaskEndState FrameSend) → fs ≡ es ++ e ∷ [] → e.ring ≡ t.ring
    → map (λ (end : TaskEndState FrameSend). end.ring) es ≡ lines_of ts → map (λ (end : TaskEndState FrameSend). end.ring) fs ≡ lines_of (ts ++ t ∷ [])
lines-more es fs ts t e is line same =
    let of = λ (end : TaskEndState FrameSend). end.ring in
    ap (map of) is ∙ map-append of es (e ∷ []) ∙ ap (λ rs. rs ++ e.ring ∷ []) same
    ∙ ap (λ r. lines_of ts ++ r ∷ []) line ∙ sym (map-append (λ (task : TaskState FrameSend). task.ring) ts (t ∷ []))

pub begun-lines : (rings : List RingName) → lines_of (map (just_begun {S = FrameSend}) rings) ≡ rings
begun-lines [] = refl
begun-lines (r ∷ rings) = ap (λ rs. r ∷ rs) (begun-lines rings)
