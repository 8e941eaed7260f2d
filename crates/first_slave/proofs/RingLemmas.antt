-- A task that was just begun is on the line of its event channel.
use Rattle.std.proofs.Common.{◌≡◌, ◌∙◌, ◌-◌, ◌++◌, ℕ, List, [], ◌∷◌, map, take, refl, sym, ap}
use Rattle.channel_ring.specs.Ends.{RingName}
use Rattle.tasks.specs.Tasks.{TaskState, just_begun}

-- the lines of tasks
abbrev pub lines : {S : Type 0} → List (TaskState S) → List RingName
lines tasks = map (λ (task : TaskState _). task.ring) tasks

begun : (S : Type 0) (rings : List RingName) → lines (map (just_begun {S = S}) rings) ≡ rings
begun S [] = refl
begun S (r ∷ rings) = ap (λ rs. r ∷ rs) (begun S rings)

-- the last task that was begun is on the one line that there is, if none is before it
pub one_ring : {S : Type 0} (rings : List RingName) (tasks before : List (TaskState S)) (task : TaskState S) (n : ℕ) → tasks ≡ map just_begun rings → tasks ≡ before ++ task ∷ []
    → before ≡ take (n - 1) tasks → n ≡ 1 → rings ≡ task.ring ∷ []
one_ring {S} rings tasks before task n are last first one =
    let none : before ≡ [] = first ∙ ap (λ k. take (k - 1) tasks) one in
    sym (begun S rings) ∙ ap lines (sym are) ∙ ap lines (last ∙ ap (λ ts. ts ++ task ∷ []) none)
