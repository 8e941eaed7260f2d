-- Units, one behind another, and what stands in their blocks.
use Rattle.std.proofs.Common.{◌≡◌, ℕ, zero, suc, ◌≤◌, List, [], ◌∷◌, ◌++◌, length, take, drop, refl, sym, ap, ◌∙◌, subst, arith, take-append-drop}
use Rattle.std.specs.Prelude.{Some, slice_get}
use Rattle.std.proofs.lemmas.List.{length-drop, length-take, take_all}
use Rattle.frame_ring.specs.Reading.{flat, packets_in}
use Rattle.frame_ring.specs.Sending.{AreFrames}
use Rattle.frame_writer.specs.Frame.{unnumbered}
use Rattle.frame_ring.proofs.FrameLemmas.{packets-read}
use Rattle.frame_page.specs.Inner.{AreUnits, IsUnit}
use Rattle.frame_page.specs.Laid.{Laid}
use Rattle.frame_page.specs.Pages.{laid_in, waits_in}
use Rattle.frame_page.specs.declared.unit.Unit.{Unit}

module _ {X : Type 0} where
  pub take_front : (n : ℕ) (xs ys : List X) → n ≤ length xs → take n (xs ++ ys) ≡ take n xs
  take_front zero xs ys h = refl
  take_front (suc n) [] ys h = absurd (omega (arith, h))
  take_front (suc n) (x ∷ xs) ys h = ap (λ zs. x ∷ zs) (take_front n xs ys (omega (arith, h)))

  pub drop_front : (n : ℕ) (xs ys : List X) → n ≤ length xs → drop n (xs ++ ys) ≡ drop n xs ++ ys
  drop_front zero xs ys h = refl
  drop_front (suc n) [] ys h = absurd (omega (arith, h))
  drop_front (suc n) (x ∷ xs) ys h = drop_front n xs ys (omega (arith, h))

  nothing : (xs : List X) → length xs ≡ 0 → xs ≡ []
  nothing [] h = refl
  nothing (x ∷ xs) h = absurd (omega (arith, h))

  pub whole_front : (n : ℕ) (xs : List X) → length xs ≡ n → take n xs ≡ xs
  whole_front n xs h = ap (λ k. take k xs) (sym h) ∙ take_all (length xs) xs (omega arith)

  pub whole_rest : (n : ℕ) (xs : List X) → length xs ≡ n → drop n xs ≡ []
  whole_rest n xs h = nothing (drop n xs) (omega (arith, length-drop n xs, h))

module _ {O : Type 0} where
  pub unit_within : (blocks : List (List ℕ)) (u : Unit O) → IsUnit (take u.blocks blocks) u → u.blocks ≤ length blocks
  unit_within blocks u is = omega (arith, is.long, length-take u.blocks blocks)

  -- one more behind the others
  pub units_more : (blocks region : List (List ℕ)) (us : List (Unit O)) (u : Unit O) → AreUnits blocks us → IsUnit region u → AreUnits (blocks ++ region) (us ++ u ∷ [])
  units_more blocks region [] u none is =
      let all : blocks ++ region ≡ region = ap (λ b. b ++ region) none in
      (subst (λ b. IsUnit b u) (sym (ap (take u.blocks) all ∙ whole_front u.blocks region is.long)) is, ap (drop u.blocks) all ∙ whole_rest u.blocks region is.long)
  units_more blocks region (v ∷ vs) u are is =
      let within = unit_within blocks v are.0 in (
        subst (λ b. IsUnit b v) (sym (take_front v.blocks blocks region within)) are.0,
        subst (λ b. AreUnits b (vs ++ u ∷ [])) (sym (drop_front v.blocks blocks region within)) (units_more (drop v.blocks blocks) region vs u are.1 is),
      )

  pub waits_more : (blocks region : List (List ℕ)) (us : List (Unit O)) (u : Unit O) → AreUnits blocks us → IsUnit region u → waits_in (blocks ++ region) (us ++ u ∷ []) ≡ waits_in blocks us ++ laid_in region u ∷ []
  waits_more blocks region [] u none is = ap (λ b. laid_in (b ++ region) u ∷ []) none
  waits_more blocks region (v ∷ vs) u are is =
      let within = unit_within blocks v are.0 in
      ap (λ b. record { origin = v.origin; packets = packets_in v.count (drop v.at (flat b)); blocks = v.blocks } ∷ waits_in (drop v.blocks (blocks ++ region)) (vs ++ u ∷ [])) (take_front v.blocks blocks region within)
      ∙ ap (λ b. laid_in blocks v ∷ waits_in b (vs ++ u ∷ [])) (drop_front v.blocks blocks region within)
      ∙ ap (λ xs. laid_in blocks v ∷ xs) (waits_more (drop v.blocks blocks) region vs u are.1 is)

  pub how_many : (blocks : List (List ℕ)) (us : List (Unit O)) → length (waits_in blocks us) ≡ length us
  how_many blocks [] = refl
  how_many blocks (u ∷ us) = ap suc (how_many (drop u.blocks blocks) us)

-- frames are read off the bytes that they begin
pub read_front : (bytes : List ℕ) (count len : ℕ) (frames : AreFrames (take len bytes) count) → packets_in count bytes ≡ frames.packets
read_front bytes count len frames =
    let is : bytes ≡ unnumbered frames.packets ++ drop len bytes = sym (take-append-drop len bytes) ∙ ap (λ b. b ++ drop len bytes) frames.of.are in
    ap (packets_in count) is ∙ ap (λ n. packets_in n (unnumbered frames.packets ++ drop len bytes)) frames.of.many ∙ packets-read frames.packets (drop len bytes) frames.of.each

-- the one at a place is from where its unit is
pub origin_at : {O : Type 0} (blocks : List (List ℕ)) (us : List (Unit O)) (i : ℕ) (u : Unit O) (x : Laid O) → slice_get us i ≡ Some u → slice_get (waits_in blocks us) i ≡ Some x → u.origin ≡ x.origin
origin_at blocks [] i u x there at = absurd (none i there) where
  none : {A : Type 0} {a : A} (i : ℕ) → slice_get [] i ≡ Some a → ⊥
  none zero e = cc
  none (suc i) e = cc
origin_at blocks (v ∷ vs) zero u x there at = sym (ap (λ (w : Unit _). w.origin) (same v u there)) ∙ ap (λ (w : Laid _). w.origin) (same (laid_in blocks v) x at) where
  same : {A : Type 0} (a b : A) → Some a ≡ Some b → a ≡ b
  same a b e = cc
origin_at blocks (v ∷ vs) (suc i) u x there at = origin_at (drop v.blocks blocks) vs i u x there at
