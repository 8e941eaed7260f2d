-- Blocks one behind another.
use Rattle.std.proofs.Common.{◌≡◌, ◌⊎◌, ℕ, zero, suc, ◌%◌, ◌<◌, List, [], ◌∷◌, ◌++◌, All}
use Rattle.std.proofs.Common.{Some, length, take, inl, inr, refl, sym, ap, subst, arith}
use Rattle.std.proofs.Common.{append-nil}
use Rattle.std.proofs.Common.{append_assoc, length-append}
use Rattle.std.proofs.lemmas.List.Elements.{All-head, All-tail, All-weaker}
use Rattle.std.specs.Prelude.{slice_get}
use Rattle.mdf_blocks.specs.Blocks.{IsBlockAt, block, fill_len, filled}
use Rattle.mdf_blocks.specs.Laid.{BlockOf, IsLegal, LaidAreRead, LinksAreRead, laid}
use Rattle.mdf_blocks.specs.Laid.{place_of}
use Rattle.mdf_blocks.specs.Numbers.{zeros}
use Rattle.mdf_blocks.proofs.ReadLemmas.{fill_aligns, written_is_read}

-- a block and its fill, and what stands in front and behind
first_laid : (front block fill later behind : List ℕ)
    → front ++ block ++ (fill ++ later ++ behind) ≡ front ++ (block ++ fill ++ later) ++ behind
first_laid front block fill later behind = simp append_assoc

later_laid : (front one later behind : List ℕ)
    → (front ++ one) ++ later ++ behind ≡ front ++ (one ++ later) ++ behind
later_laid front one later behind = simp append_assoc

pub laid_are_read : LaidAreRead
laid_are_read front behind [] i b aligned legal is = cc
laid_are_read front behind (c ∷ bs) zero b aligned legal is =
    let same : c ≡ b = cc in
    let whole : List ℕ = block c.id c.links c.body in
    let fill : List ℕ = zeros (fill_len (length whole)) in
    let read = written_is_read front (fill ++ laid bs ++ behind) c.id c.links c.body
    (All-head IsLegal c bs legal) aligned in
    let place : length front ≡ place_of front (c ∷ bs) 0 = ap length (sym (append-nil front)) in
    subst (λ (d : BlockOf). IsBlockAt (front ++ laid (c ∷ bs) ++ behind)
    (place_of front (c ∷ bs) 0) d.id d.links d.body) same
    (subst (λ (at : ℕ). IsBlockAt (front ++ laid (c ∷ bs) ++ behind) at c.id c.links c.body) place
    (subst (λ (bytes : List ℕ). IsBlockAt bytes (length front) c.id c.links c.body)
    (first_laid front whole fill (laid bs) behind) read))
laid_are_read front behind (c ∷ bs) (suc i) b aligned legal is =
    let one : List ℕ = filled (block c.id c.links c.body) in
    let on : length (front ++ one) % 8 ≡ 0 =
    omega (arith, length-append front one, aligned, fill_aligns (block c.id c.links c.body)) in
    let read = laid_are_read (front ++ one) behind bs i b on (All-tail IsLegal c bs legal) is in
    let place : place_of (front ++ one) bs i ≡ place_of front (c ∷ bs) (suc i) =
    ap length (append_assoc front one (laid (take i bs))) in
    subst (λ (at : ℕ). IsBlockAt (front ++ laid (c ∷ bs) ++ behind) at b.id b.links b.body) place
    (subst (λ (bytes : List ℕ). IsBlockAt bytes (place_of (front ++ one) bs i) b.id b.links b.body)
    (later_laid front one (laid bs) behind) read)

-- a place in a list has an element
element_at : (bs : List BlockOf) (i : ℕ) → i < length bs → (b : BlockOf) × (slice_get bs i ≡ Some b)
element_at [] i within = absurd (omega (arith, within))
element_at (b ∷ bs) zero within = (b, refl)
element_at (b ∷ bs) (suc i) within = element_at bs i (omega (arith, within))

one_link : (front : List ℕ) (bs : List BlockOf) → length front % 8 ≡ 0 → All IsLegal bs
    → (link : ℕ) → (link ≡ 0) ⊎ ((i : ℕ) × (i < length bs) × (link ≡ place_of front bs i))
    → (link ≡ 0) ⊎ ((to : BlockOf) × IsBlockAt (front ++ laid bs) link to.id to.links to.body)
one_link front bs aligned legal link (inl none) = inl none
one_link front bs aligned legal link (inr some) =
    let there = element_at bs some.0 some.1 in
    let to = there.0 in
    let read = laid_are_read front [] bs some.0 to aligned legal there.1 in
    inr (
      to,
      subst (λ (at : ℕ). IsBlockAt (front ++ laid bs) at to.id to.links to.body) (sym some.2)
          (subst (λ (bytes : List ℕ). IsBlockAt bytes (place_of front bs some.0) to.id to.links
          to.body)
          (append-nil (front ++ laid bs)) read),
    )

pub links_are_read : LinksAreRead
links_are_read front bs aligned legal lead =
    let Leads : ℕ → Type 0 = λ link.
    (link ≡ 0) ⊎ ((i : ℕ) × (i < length bs) × (link ≡ place_of front bs i)) in
    let IsRead : ℕ → Type 0 = λ link.
    (link ≡ 0)
    ⊎ ((to : BlockOf) × IsBlockAt (front ++ laid bs) link to.id to.links to.body) in
    All-weaker (λ b. All Leads b.links) (λ b. All IsRead b.links)
    (λ b all. All-weaker Leads IsRead (one_link front bs aligned legal) b.links all)
    bs lead
