-- The headers that stand in front of what a packet of version 6 carries.
use Rattle.std.proofs.Common.{◌≡◌, ℕ, ◌+◌, ◌-◌, false, nat_eq, IfSome, Option, Some, None, List, [], ◌∷◌, length, drop, take, slice_index, sym, ap, subst, ◌∙◌, inl, inr, arith}
use Rattle.std.proofs.lemmas.List.{drop-drop, length-drop}
use Rattle.capture.proofs.FieldLemmas.{rest-is}
use Rattle.datagrams.specs.Inner.{HasWalked}
use Rattle.datagrams.specs.Ipv6.{CarriedOf, EndsBy, HasExtension, IsChain, IsExtension, carried_of}
use Rattle.datagrams.specs.declared.ipv6.Carried.{Carried}

-- no header was read
pub walked-none : (first : ℕ) (bytes : List ℕ) → HasWalked first bytes first 0
walked-none first bytes = record {
  within = omega arith;
  whole = λ lens c chain. (lens, chain);
  rest = λ all c chain. (all, chain);
}

-- one that extends another is no header of a part
not-last : (next : ℕ) → IsExtension next → nat_eq next 44 ≡ false
not-last next is =
    elim is as (λ _. nat_eq next 44 ≡ false) [
      | inl e ↦ ap (λ n. nat_eq n 44) e
      | inr h ↦ elim h as (λ _. nat_eq next 44 ≡ false) [ inl e ↦ ap (λ n. nat_eq n 44) e | inr e ↦ ap (λ n. nat_eq n 44) e ]
    ]

-- so the chain doesn't end there
goes-on : (next : ℕ) (b : List ℕ) (c : CarriedOf) → IsExtension next → IsChain next b [] c → ⊥
goes-on next b c is ends = (subst (λ x. EndsBy x next b c) (not-last next is) ends).0 is

-- where one stands, the chain has it
behind-one : (next : ℕ) (b : List ℕ) (len : ℕ) (lens : List ℕ) (c : CarriedOf) → HasExtension next b len → IsChain next b lens c
    → (rest : List ℕ) × IsChain (slice_index b 0) (drop len b) rest c
behind-one next b len [] c e chain = absurd (goes-on next b c e.is chain)
behind-one next b len (other ∷ lens) c e chain =
    (lens, subst (λ n. IsChain (slice_index b 0) (drop n b) lens c) (chain.0.told ∙ sym e.told) chain.1)

-- one more was read
pub walked-more : (first : ℕ) (bytes : List ℕ) (next at len : ℕ) → HasWalked first bytes next at → HasExtension next (drop at bytes) len
    → HasWalked first bytes (slice_index (drop at bytes) 0) (at + len)
walked-more first bytes next at len w e =
    let behind : drop len (drop at bytes) ≡ drop (at + len) bytes = drop-drop len at bytes in
    record {
      within = omega (arith, length-drop at bytes, e.within, w.within);
      whole = λ lens c chain.
          w.whole (len ∷ lens) c (e, subst (λ b. IsChain (slice_index (drop at bytes) 0) b lens c) (sym behind) chain);
      rest = λ all c chain.
          let here = w.rest all c chain in
          let others = behind-one next (drop at bytes) len here.0 c e here.1 in
          (others.0, subst (λ b. IsChain (slice_index (drop at bytes) 0) b others.0 c) behind others.1);
    }

-- where none stands whole, there is no chain
pub none-whole : (next : ℕ) (b : List ℕ) (lens : List ℕ) (c : CarriedOf) → IsExtension next → ((len : ℕ) → HasExtension next b len → ⊥)
    → IsChain next b lens c → ⊥
none-whole next b [] c is none chain = goes-on next b c is chain
none-whole next b (len ∷ lens) c is none chain = none len chain.0

-- nor where nothing stands that ends it
pub none-last : (next : ℕ) (b : List ℕ) (lens : List ℕ) (c : CarriedOf) → (IsExtension next → ⊥) → (IsChain next b [] c → ⊥) → IsChain next b lens c → ⊥
none-last next b [] c not none chain = none chain
none-last next b (len ∷ lens) c not none chain = not chain.0.is

-- what is carried behind the place stands behind the whole
pub carried-there : (first : ℕ) (bytes : List ℕ) (next at : ℕ) (result : Option Carried) → HasWalked first bytes next at
    → IfSome result (λ it. IsChain next (take (length bytes - at) (drop at bytes)) [] (carried_of it))
    → IfSome result (λ it. (lens : List ℕ) × IsChain first bytes lens (carried_of it))
carried-there first bytes next at None w ends = tt
carried-there first bytes next at (Some it) w ends = w.whole [] (carried_of it) (subst (λ b. IsChain next b [] (carried_of it)) (rest-is at bytes) ends)
