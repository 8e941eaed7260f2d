-- One sampler more that was finished.
use Rattle.std.proofs.Common.{◌≡◌, ℕ, zero, suc, ◌⊎◌, inl, inr, ◌++◌, List, [], ◌∷◌, length, map, All, IfSome, Option, Some, refl, sym, ap, subst, ◌∙◌}
use Rattle.std.specs.Prelude.{slice_get}
use Rattle.std.proofs.lemmas.List.{length-map, map-append}
use Rattle.std.proofs.lemmas.List.Elements.{All-nil, All-cons}
use Rattle.channel_ring.specs.declared.ends.SendEnd.{Ghosts as SendGhosts}
use Rattle.channel_ring.specs.declared.ends.RingEnd.{Ghosts as EndGhosts}
use Rattle.sampler.specs.State.{JoinedEnd, SamplerEndState, SamplerState, joined}
use Rattle.sampler.specs.Standing.{EndStandsAfter, StandsAfter}
use Rattle.sampler.specs.Past.{Past}
use Rattle.daq_engine.specs.Samplers.{AreFinished}
use Rattle.daq_engine.specs.Standings.{EndsStandInOrder, StandInOrder}

-- where two lists show the same, they still do after an element more in each that shows the same
pub shown_more : {A B R : Type 0} (f : A → R) (g : B → R) (xs zs : List A) (ys : List B) (r : Option A) (x : A) (y : B)
    → zs ≡ xs ++ x ∷ [] → map f xs ≡ map g ys → r ≡ Some x → IfSome r (λ z. f z ≡ g y) → map f zs ≡ map g (ys ++ y ∷ [])
shown_more f g xs zs ys r x y e same is h =
    let here : f x ≡ g y = subst (λ o. IfSome o (λ z. f z ≡ g y)) is h in
    ap (map f) e ∙ (map-append f xs (x ∷ []) ∙ (ap (λ t. t ++ f x ∷ []) same ∙ (ap (λ t. map g ys ++ t ∷ []) here ∙ sym (map-append g ys (y ∷ [])))))

module _ {X : Type 0} where
  still_at : (xs zs : List X) (c : ℕ) (x : X) → slice_get xs c ≡ Some x → slice_get (xs ++ zs) c ≡ Some x
  still_at [] zs c x at = absurd cc
  still_at (y ∷ xs) zs zero x at = at
  still_at (y ∷ xs) zs (suc c) x at = still_at xs zs c x at

  last_at : (xs : List X) (x : X) → slice_get (xs ++ x ∷ []) (length xs) ≡ Some x
  last_at [] x = refl
  last_at (y ∷ xs) x = last_at xs x

  before_or_last : (xs : List X) (x : X) (c : ℕ) (e : X) → slice_get (xs ++ x ∷ []) c ≡ Some e → (slice_get xs c ≡ Some e) ⊎ ((c ≡ length xs) × (x ≡ e))
  before_or_last [] x zero e at = inr (refl, cc)
  before_or_last [] x (suc c) e at = absurd cc
  before_or_last (y ∷ xs) x zero e at = inl at
  before_or_last (y ∷ xs) x (suc c) e at = elim (before_or_last xs x c e at) [ inl h ↦ inl h | inr h ↦ inr (ap (λ n. suc n) h.0, h.1) ]

module _ {S E : Type 0} (send : SendGhosts S E) (ring : EndGhosts E) (past : ℕ → Past) where
  -- the ends stand in order, where the samplers did
  pub ends-more : (ys : List (SamplerState S)) (s : SamplerState S) (xs zs : List (SamplerEndState E)) (end : SamplerEndState E) (r : Option (SamplerEndState E))
      → zs ≡ xs ++ end ∷ [] → length xs ≡ length ys → r ≡ Some end
      → IfSome r (λ left. (past : Past) → StandsAfter send ring s past → EndStandsAfter (joined ring left) past)
      → (StandInOrder send ring ys past → EndsStandInOrder (map (joined ring) xs) past)
      → StandInOrder send ring (ys ++ s ∷ []) past → EndsStandInOrder (map (joined ring) zs) past
  ends-more ys s xs zs end r is as_many found finishes before stand c e at =
      let whole : map (joined ring) zs ≡ map (joined ring) xs ++ joined ring end ∷ [] = ap (map (joined ring)) is ∙ map-append (joined ring) xs (end ∷ []) in
      let many : length (map (joined ring) xs) ≡ length ys = length-map xs (joined ring) ∙ as_many in
      let here = subst (λ es. slice_get es c ≡ Some e) whole at in
      elim (before_or_last (map (joined ring) xs) (joined ring end) c e here) [
        | inl earlier ↦ before (λ k x there. stand k x (still_at ys (s ∷ []) k x there)) c e earlier
        | inr last ↦
            let stood = stand (length ys) s (last_at ys s) in
            let left = subst (λ o. IfSome o (λ left. (past : Past) → StandsAfter send ring s past → EndStandsAfter (joined ring left) past)) found finishes in
            let now = left (past (length ys)) stood in
            subst (λ k. EndStandsAfter e (past k)) (sym (last.0 ∙ many))
            (subst (λ j. EndStandsAfter j (past (length ys))) last.1 now)
      ]

-- of no samplers nothing is left
pub none_finished : {S E : Type 0} (send : SendGhosts S E) (ring : EndGhosts E) → AreFinished send ring [] []
none_finished send ring = record {
  stand = λ past stand c e at. absurd cc;
  channels = refl;
  rings = refl;
  capacities = refl;
  sent = refl;
}

-- a joined end has the capacity of the end
pub capacities-joined : {E : Type 0} (ring : EndGhosts E) (es : List (SamplerEndState E)) → map (λ (e : JoinedEnd). e.capacity) (map (joined ring) es) ≡ map (λ (e : SamplerEndState E). e.capacity) es
capacities-joined ring [] = refl
capacities-joined ring (e ∷ es) = ap (λ ns. e.capacity ∷ ns) (capacities-joined ring es)

-- and the costs of its kind of ring
pub costs-joined : {E : Type 0} (ring : EndGhosts E) (es : List (SamplerEndState E)) → All (λ (e : JoinedEnd). e.cost ≡ ring.cost) (map (joined ring) es)
costs-joined ring [] = All-nil (λ (e : JoinedEnd). e.cost ≡ ring.cost)
costs-joined ring (e ∷ es) = All-cons (λ (e : JoinedEnd). e.cost ≡ ring.cost) (joined ring e) (map (joined ring) es) refl (costs-joined ring es)
