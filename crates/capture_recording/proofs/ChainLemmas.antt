-- What is carried behind the headers of version 6 that extend others is fixed by the bytes.
use Rattle.std.proofs.Common.{◌≡◌, inl, inr, ℕ, ◌∷◌, [], Bool, true, false, List, drop, nat_eq, eqb-true, slice_index, refl, sym, ap, subst, ◌∙◌, arith}
use Rattle.std.specs.Prelude.{None}
use Rattle.datagrams.specs.Ipv6.{CarriedOf, EndsBy, IsChain, IsExtension}
use Rattle.datagrams.specs.Waiting.{WholeOf}
use Rattle.capture_recording.specs.Said.{IsExtended}

ends-one : (t : Bool) (next : ℕ) (b : List ℕ) (c d : CarriedOf) → EndsBy t next b c → EndsBy t next b d → c ≡ d
ends-one true next b c d one two = one.1 ∙ sym two.1
ends-one false next b c d one two = one.1 ∙ sym two.1

is-not-44 : (next : ℕ) → IsExtension next → next ≡ 44 → ⊥
is-not-44 next (inl e) f = omega (arith, e, f)
is-not-44 next (inr (inl e)) f = omega (arith, e, f)
is-not-44 next (inr (inr e)) f = omega (arith, e, f)

ends-not : (t : Bool) (next : ℕ) (b : List ℕ) (c : CarriedOf) → nat_eq next 44 ≡ t → EndsBy t next b c → IsExtension next → ⊥
ends-not true next b c e ends is = is-not-44 next is (eqb-true next 44 e)
ends-not false next b c e ends is = ends.0 is

chain-one : (next : ℕ) (b : List ℕ) (ls ms : List ℕ) (c d : CarriedOf) → IsChain next b ls c → IsChain next b ms d → c ≡ d
chain-one next b [] [] c d one two = ends-one (nat_eq next 44) next b c d one two
chain-one next b [] (m ∷ ms) c d one two = absurd (ends-not (nat_eq next 44) next b c refl one two.0.is)
chain-one next b (l ∷ ls) [] c d one two = absurd (ends-not (nat_eq next 44) next b d refl two one.0.is)
chain-one next b (l ∷ ls) (m ∷ ms) c d one two =
    chain-one (slice_index b 0) (drop l b) ls ms c d one.1
    (subst (λ (k : ℕ). IsChain (slice_index b 0) (drop k b) ms d) (two.0.told ∙ sym one.0.told) two.1)

-- a part of a datagram is no whole one
pub not-extended : (d x : WholeOf) (ls : List ℕ) (c : CarriedOf) → IsChain d.protocol d.payload ls c → (c.part ≡ None → ⊥)
    → IsExtended d x → ⊥
not-extended d x ls c chain part is =
    part (ap (λ (e : CarriedOf). e.part) (chain-one d.protocol d.payload ls is.lens c is.carried chain is.chain) ∙ is.whole)

abbrev pub whole : List ℕ → List ℕ → ℕ → List ℕ → WholeOf
whole from to protocol payload = record { from = from; to = to; protocol = protocol; payload = payload }

pub same-whole : (a b : List ℕ) (n : ℕ) (p f t q : List ℕ) → a ≡ f → b ≡ t → p ≡ q → whole a b n p ≡ whole f t n q
same-whole a b n p f t q one two three =
    ap (λ (x : List ℕ). whole x b n p) one ∙ ap (λ (x : List ℕ). whole f x n p) two ∙ ap (λ (x : List ℕ). whole f t n x) three
