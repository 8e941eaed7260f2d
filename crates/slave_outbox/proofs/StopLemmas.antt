-- Behind a stop.
use Rattle.std.proofs.Common.{◌≡◌, ℕ, Bool, true, false, cond, eqb, inl, inr, List, [], ◌∷◌, ◌++◌, refl, sym, ap, ◌∙◌, subst, append-nil, ◌||◌}
use Rattle.std.specs.Prelude.{if◌then◌else◌, Some, find}
use Rattle.std.specs.List.{list_any}
use Rattle.std.proofs.lemmas.Bool.Decides.{eqb_tells}
use Rattle.std.proofs.lemmas.List.Elements.{filter-append}
use Rattle.xcp_base.specs.Samples.{SampleParts}
use Rattle.xcp_base.specs.declared.item.Item.TheVariants.{Marker, Sample}
use Rattle.slave_outbox.specs.Deeds.{Deed, Started, Stopped, Took, Unsent, is_order_of, is_start, passed, passes, runs}
use Rattle.slave_outbox.specs.Laws.{NothingBehindAStop, is_start_of, samples_of}
use Rattle.slave_outbox.proofs.DeedLemmas.{same_list}

-- behind a stop a list runs only if it was started since
runs_not : (before since : List Deed) (l : ℕ) → list_any (is_start_of l) since ≡ false → runs (since ++ Stopped l ∷ before) l ≡ false
runs_not before [] l none = rw (same_list l) refl
runs_not before (Started k ∷ since) l none =
    elim (eqb k l) as (λ b. (b || list_any (is_start_of l) since) ≡ false → is_start (cond b (Some (Started k)) (find (is_order_of l) (since ++ Stopped l ∷ before))) ≡ false) [
      | true ↦ λ h. h
      | false ↦ λ h. runs_not before since l h
    ] none
runs_not before (Stopped k ∷ since) l none =
    elim (eqb k l) as (λ b. is_start (cond b (Some (Stopped k)) (find (is_order_of l) (since ++ Stopped l ∷ before))) ≡ false) [
      | true ↦ refl
      | false ↦ runs_not before since l none
    ]
runs_not before (Took x ∷ since) l none = runs_not before since l none
runs_not before (Unsent k ∷ since) l none = runs_not before since l none

-- of the list no sample is written then
one_behind : (deeds : List Deed) (l : ℕ) (s : SampleParts) → runs deeds l ≡ false → samples_of l (if passes deeds s.list then passed deeds ++ s ∷ [] else passed deeds) ≡ samples_of l (passed deeds)
one_behind deeds l s rests =
    elim (eqb_tells s.list l) [
      | inl w ↦
          let held : passes deeds s.list ≡ false = subst (λ k. passes deeds k ≡ false) (sym w.1) (rw rests refl) in
          ap (λ b. samples_of l (if b then passed deeds ++ s ∷ [] else passed deeds)) held
      | inr w ↦
          let not_of : samples_of l (s ∷ []) ≡ [] = ap (λ b. cond b (s ∷ []) []) w.0 in
          elim (passes deeds s.list) as (λ b. samples_of l (if b then passed deeds ++ s ∷ [] else passed deeds) ≡ samples_of l (passed deeds)) [
            | true ↦ filter-append (λ (r : SampleParts). eqb r.list l) (passed deeds) (s ∷ []) ∙ ap (λ xs. samples_of l (passed deeds) ++ xs) not_of ∙ append-nil (samples_of l (passed deeds))
            | false ↦ refl
          ]
    ]

or_false : (a b : Bool) → (a || b) ≡ false → b ≡ false
or_false true b h = absurd (cc)
or_false false b h = h

pub nothing_behind : NothingBehindAStop
nothing_behind before [] l none = refl
nothing_behind before (Started k ∷ since) l none = nothing_behind before since l (or_false (eqb k l) (list_any (is_start_of l) since) none)
nothing_behind before (Stopped k ∷ since) l none = nothing_behind before since l none
nothing_behind before (Took (Marker m) ∷ since) l none = nothing_behind before since l none
nothing_behind before (Took (Sample s) ∷ since) l none =
    one_behind (since ++ Stopped l ∷ before) l s (runs_not before since l none) ∙ nothing_behind before since l none
nothing_behind before (Unsent k ∷ since) l none = nothing_behind before since l none
