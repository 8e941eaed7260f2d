-- A frame carries one IP packet at most.
use Rattle.std.proofs.Common.{◌≡◌, ◌⊎◌, inl, inr, ⊎_elim, ℕ, zero, suc, ◌+◌, ◌*◌, ◌<◌, List, drop, refl, sym, ap, ◌∙◌, arith}
use Rattle.datagrams.specs.Links.{CarriesIp, IsEthernet, IsIpType, IsTagType}
use Rattle.datagrams.specs.declared.link.Link.{Link}
use Rattle.datagrams.specs.declared.link.Link.TheVariants.{Cooked1, Cooked2, Ethernet, Loop, Null, Other, Raw}

not-both : (t : ℕ) → IsIpType t → IsTagType t → ⊥
not-both t (inl a) (inl b) = omega (arith, a, b)
not-both t (inl a) (inr b) = omega (arith, a, b)
not-both t (inr a) (inl b) = omega (arith, a, b)
not-both t (inr a) (inr b) = omega (arith, a, b)

by-size : (i j : ℕ) → (i < j) ⊎ ((i ≡ j) ⊎ (j < i))
by-size zero zero = inr (inl refl)
by-size zero (suc j) = inl (omega arith)
by-size (suc i) zero = inr (inr (omega arith))
by-size (suc i) (suc j) =
    ⊎_elim (λ (lt : i < j). inl (omega (arith, lt)))
    (λ (more : (i ≡ j) ⊎ (j < i)).
    ⊎_elim (λ (e : i ≡ j). inr (inl (ap suc e))) (λ (gt : j < i). inr (inr (omega (arith, gt)))) more)
    (by-size i j)

same-tags : (frame p q : List ℕ) (a : IsEthernet frame p) (b : IsEthernet frame q) → a.tags ≡ b.tags
same-tags frame p q a b =
    ⊎_elim (λ (lt : a.tags < b.tags). absurd (not-both _ a.ip (b.tagged a.tags lt)))
    (λ (more : (a.tags ≡ b.tags) ⊎ (b.tags < a.tags)).
    ⊎_elim (λ (e : a.tags ≡ b.tags). e) (λ (gt : b.tags < a.tags). absurd (not-both _ b.ip (a.tagged b.tags gt))) more)
    (by-size a.tags b.tags)

pub carries-one : (link : Link) (frame p q : List ℕ) → CarriesIp link frame p → CarriesIp link frame q → p ≡ q
carries-one Ethernet frame p q a b =
    a.behind ∙ ap (λ (n : ℕ). drop (14 + 4 * n) frame) (same-tags frame p q a b) ∙ sym b.behind
carries-one Cooked1 frame p q a b = a.behind ∙ sym b.behind
carries-one Cooked2 frame p q a b = a.behind ∙ sym b.behind
carries-one Raw frame p q a b = a ∙ sym b
carries-one Null frame p q a b = a.behind ∙ sym b.behind
carries-one Loop frame p q a b = a.behind ∙ sym b.behind
carries-one Other frame p q a b = absurd a
