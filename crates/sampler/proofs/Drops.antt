-- Drops of a longer history.
use Rattle.std.proofs.Common.{◌≡◌, ℕ, zero, suc, ◌+◌, ◌<◌, Bool, false, List, [], ◌∷◌, ◌++◌, length, take, refl, sym, ◌∙◌, arith, subst, inl, inr, ◌⊎◌}
use Rattle.std.specs.Prelude.{slice_get, Some}
use Rattle.std.proofs.lemmas.List.{take-append-le}
use Rattle.copy_plan.specs.Config.{ListPlan}
use Rattle.xcp_base.specs.declared.item.Item.{Item}
use Rattle.sampler.specs.History.{Event, Trigger, Start, Stop, Opening, due, due_at}
use Rattle.sampler.specs.Past.{Past, one_more}
use Rattle.sampler.specs.Items.{items, sample}
use Rattle.sampler.specs.Standing.{DropsOnlyWhenFull, ExceedsCapacity}
use Rattle.sampler.proofs.Histories.{due_below, sample-more, slice_get-append_lt}

-- an element of a list with one more at its end is that one, or stands before it
pub split_last : {X : Type 0} (h past rest : List X) (e x : X) → h ++ e ∷ [] ≡ past ++ x ∷ rest → ((rest ≡ []) × (h ≡ past) × (e ≡ x)) ⊎ ((r : List X) × ((rest ≡ r ++ e ∷ []) × (h ≡ past ++ x ∷ r)))
split_last [] [] rest e x is = inl (cc, refl, cc)
split_last (y ∷ h) [] rest e x is = inr (h, (cc, cc))
split_last [] (p ∷ []) rest e x is = absurd cc
split_last [] (p ∷ (q ∷ past)) rest e x is = absurd cc
split_last (y ∷ h) (p ∷ past) rest e x is =
    let same : y ≡ p = cc in
    let tails : h ++ e ∷ [] ≡ past ++ x ∷ rest = cc in
    elim (split_last h past rest e x tails) [
      | inl w ↦ inl (w.0, cc, w.2)
      | inr w ↦ inr (w.0, (w.1.0, cc))
    ]

slice_get-below : {X : Type 0} (xs : List X) (k : ℕ) (y : X) → slice_get xs k ≡ Some y → k < length xs
slice_get-below [] k y h = absurd cc
slice_get-below (x ∷ xs) zero y h = omega arith
slice_get-below (x ∷ xs) (suc k) y h = omega (arith, slice_get-below xs k y h)

-- the new drops, of the last event
abbrev pub NewDrops : ℕ → (Item → ℕ) → Past → List Bool → Event → Type 0
NewDrops capacity cost past ds (Trigger image stamp) =
    (k : ℕ) (plan : ListPlan) →
    slice_get (due_at past.opening past.history (Trigger image stamp)) k ≡ Some plan →
    slice_get (past.decisions ++ ds) (length (due past.opening past.history) + k) ≡ Some false →
    ExceedsCapacity capacity cost (items past.opening (past.history ++ Trigger image stamp ∷ []) (take (length (due past.opening past.history) + k) (past.decisions ++ ds))) (sample past.opening (past.history ++ Trigger image stamp ∷ []) (past.decisions ++ ds) (length (due past.opening past.history) + k) plan image stamp)
NewDrops capacity cost past ds (Start l) = Unit {0}
NewDrops capacity cost past ds (Stop l) = Unit {0}

pub drops-more : (capacity : ℕ) (cost : Item → ℕ) (past : Past) (e : Event) (ds : List Bool) → length past.decisions ≡ length (due past.opening past.history) → DropsOnlyWhenFull capacity cost past → NewDrops capacity cost past ds e → DropsOnlyWhenFull capacity cost (one_more past e ds)
unfolding DropsOnlyWhenFull
drops-more capacity cost past e ds whole old new = λ before rest image stamp k plan is at false_at.
    let o : Opening = past.opening in
    let h : List Event = past.history in
    let d : List Bool = past.decisions in
    elim (split_last h before rest e (Trigger image stamp) is) [
      | inl w ↦
          let P : List Event → Type 0 = λ p.
          slice_get (due_at o p (Trigger image stamp)) k ≡ Some plan →
          slice_get (d ++ ds) (length (due o p) + k) ≡ Some false →
          ExceedsCapacity capacity cost (items o (p ++ Trigger image stamp ∷ []) (take (length (due o p) + k) (d ++ ds))) (sample o (h ++ e ∷ []) (d ++ ds) (length (due o p) + k) plan image stamp) in
          let Q : Event → Type 0 = λ x. ExceedsCapacity capacity cost (items o (h ++ Trigger image stamp ∷ []) (take (length (due o h) + k) (d ++ ds))) (sample o (h ++ x ∷ []) (d ++ ds) (length (due o h) + k) plan image stamp) in
          subst P w.1 (λ a f. subst Q (sym w.2) (subst (NewDrops capacity cost past ds) w.2 new k plan a f)) at false_at
      | inr w ↦
          let j : ℕ = length (due o before) + k in
          let below : j < length d = omega (arith, slice_get-below (due_at o before (Trigger image stamp)) k plan at, due_below o h e d ds whole before w.0 (Trigger image stamp) w.1.1) in
          rw (take-append-le j d ds (omega arith), sample-more o h e d ds whole j plan image stamp (omega arith))
          (old before w.0 image stamp k plan w.1.1 at (sym (slice_get-append_lt d ds j below) ∙ false_at))
    ]
