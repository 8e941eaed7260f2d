use Rattle.std.proofs.Common.{◌≡◌, ◌≢◌, ◌<◌, ℕ, zero, suc, List, [], ◌∷◌, Some, length, set, slice_get, refl, ap, ◌∙◌, arith}
use Rattle.std.proofs.lemmas.List.{length-set}
use Rattle.xcp_base.proofs.per_list.PerList.set.Goals as goal

-- where an item was written it stands
set_here : {X : Type 0} (xs : List X) (i : ℕ) (x : X) → i < length xs → slice_get (set xs i x) i ≡ Some x
set_here [] i x h = absurd (omega (arith, h))
set_here (y ∷ ys) zero x h = refl
set_here (y ∷ ys) (suc i) x h = set_here ys i x (omega (arith, h))

-- and elsewhere stands what stood there
set_elsewhere : {X : Type 0} (xs : List X) (i k : ℕ) (x : X) → k ≢ i → slice_get (set xs i x) k ≡ slice_get xs k
set_elsewhere [] i k x other = refl
set_elsewhere (y ∷ ys) zero zero x other = absurd (other refl)
set_elsewhere (y ∷ ys) zero (suc k) x other = refl
set_elsewhere (y ∷ ys) (suc i) zero x other = refl
set_elsewhere (y ∷ ys) (suc i) (suc k) x other = set_elsewhere ys i k x (λ e. other (ap suc e))

-- the table stays as long
pub invariant_of-self : goal.invariant_of-self
invariant_of-self g c = length-set c.self.inside.items c.index.result c.args.item ∙ c.self.invariant

-- the list's place is its number
pub returns-clause-here : goal.returns-clause-here
returns-clause-here g c =
    let here = set_here c.self.inside.items c.index.result c.args.item (omega (arith, c.self.invariant)) in
    rw (← c.index.ensures.value) here

pub returns-clause-others : goal.returns-clause-others
returns-clause-others g c =
    λ k other.
    let stays = set_elsewhere c.self.inside.items c.index.result k c.args.item (λ e. other (e ∙ c.index.ensures.value)) in
    stays ∙ ap (λ items. slice_get items k) c.self.view_is
