-- What holds of each ring that is there holds of every number of a ring.
use Rattle.std.proofs.Common.{◌≡◌, ℕ, zero, suc, ◌<◌, ◌≤◌, ◌++◌, List, [], ◌∷◌, length, map, refl, sym, ap, ◌∙◌, arith, ◌⊎◌, inl, inr}
use Rattle.std.proofs.lemmas.List.{length-map}
use Rattle.xcp_base.specs.declared.item.Item.{Item}
use Rattle.channel_ring.specs.declared.ends.RingEnd.{Ghosts as EndGhosts}
use Rattle.sampler.specs.State.{SamplerEndState, joined, sent_by}
use Rattle.channel_ring.specs.declared.ends.TakeEnd.{Ghosts as TakeGhosts}
use Rattle.transmitter.specs.Looks.{EndsStay}
use Rattle.transmitter.specs.Merge.{of_ring}
use Rattle.transmitter.specs.Inner.Turns.{AllStay}

pub empty_of : (xs : List Item) → length xs ≡ 0 → xs ≡ []
empty_of [] e = refl
empty_of (x ∷ xs) e = absurd (omega (arith, e))

-- beyond the last ring there is nothing
pub beyond_all : (lists : List (List Item)) (c : ℕ) → length lists ≤ c → of_ring lists c ≡ []
beyond_all [] c h = refl
beyond_all (xs ∷ lists) zero h = absurd (omega (arith, h))
beyond_all (xs ∷ lists) (suc c) h = beyond_all lists c (omega (arith, h))

below_or_not : (c n : ℕ) → (c < n) ⊎ (n ≤ c)
below_or_not c zero = inr (omega arith)
below_or_not zero (suc n) = inl (omega arith)
below_or_not (suc c) (suc n) = elim (below_or_not c n) [ inl h ↦ inl (omega (arith, h)) | inr h ↦ inr (omega (arith, h)) ]

-- where each ring that is there has received and left what was sent to it, so it is for every number
pub each_left : (received known sent : List (List Item)) (n : ℕ) → length received ≡ n → length known ≡ n → length sent ≡ n
    → ((c : ℕ) → c < n → of_ring received c ++ of_ring known c ≡ of_ring sent c) → (c : ℕ) → of_ring received c ++ of_ring known c ≡ of_ring sent c
each_left received known sent n r k s h c = elim (below_or_not c n) [
  | inl b ↦ h c b
  | inr b ↦ rw (beyond_all received c (omega (arith, r, b)), beyond_all known c (omega (arith, k, b)), beyond_all sent c (omega (arith, s, b))) refl
]

-- where nothing is known of each ring that is there, nothing is known of any
pub each_none : (known : List (List Item)) (n : ℕ) → length known ≡ n → ((c : ℕ) → c < n → length (of_ring known c) ≡ 0) → (c : ℕ) → of_ring known c ≡ []
each_none known n k h c = elim (below_or_not c n) [
  | inl b ↦ empty_of (of_ring known c) (h c b)
  | inr b ↦ beyond_all known c (omega (arith, k, b))
]

-- as many are shown as there are
pub as_many : {A B Q R : Type 0} (f : A → R) (g : B → R) (h : A → Q) (xs : List A) (ys : List B) → map f xs ≡ map g ys → length (map h xs) ≡ length ys
as_many f g h xs ys e = length-map xs h ∙ (sym (length-map xs f) ∙ (ap length e ∙ length-map ys g))

-- where as many rings are shown, as much is shown of them
pub same_count : {A Q R : Type 0} (f : A → R) (h : A → Q) (xs ys : List A) → map f xs ≡ map f ys → length (map h xs) ≡ length (map h ys)
same_count f h xs ys e = as_many f f h xs ys e ∙ sym (length-map ys h)

-- what was sent to each ring, read off its end and off the joined end
pub sent_joined : {E : Type 0} (ring : EndGhosts E) (ends : List (SamplerEndState E)) → map (λ (e : SamplerEndState E). ring.all_sent e.end) ends ≡ sent_by (map (joined ring) ends)
sent_joined ring [] = refl
sent_joined ring (e ∷ ends) = ap (λ rest. ring.all_sent e.end ∷ rest) (sent_joined ring ends)

-- what stays twice stays
pub ends_stay-more : {E : Type 0} {ring : EndGhosts E} {xs ys zs : List (SamplerEndState E)} → EndsStay ring xs ys → EndsStay ring ys zs → EndsStay ring xs zs
ends_stay-more s t = record { rings = t.rings ∙ s.rings; ends = t.ends ∙ s.ends }

pub all_stay-more : {T F E : Type 0} {take : TakeGhosts T F} {ring : EndGhosts E} {a b c : List T} {xs ys zs : List (SamplerEndState E)} → AllStay take ring a b xs ys → AllStay take ring b c ys zs → AllStay take ring a c xs zs
all_stay-more s t = record { rings = t.rings ∙ s.rings; received = t.received ∙ s.received; ends = ends_stay-more s.ends t.ends }
