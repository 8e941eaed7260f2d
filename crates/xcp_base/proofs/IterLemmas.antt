-- Packets that are read off a body from its front.
use Rattle.std.proofs.Common.{◌≡◌, ℕ, zero, suc, ◌≤◌, List, [], ◌∷◌, ◌++◌, length, take, drop, refl, sym, ap, ◌∙◌, arith, length-append}
use Rattle.std.proofs.lemmas.Grind.{common_steps}
use Rattle.xcp_base.specs.Bodies.{body_of, packets_of_body}
use Rattle.xcp_base.specs.Inner.{IsWholeBody, packets_in}

-- a body of n packets or fewer
packets_of_body-most : (n : ℕ) (qs : List (List ℕ)) → length qs ≤ n → packets_of_body n (body_of qs) ≡ qs
unfolding body_of packets_of_body
packets_of_body-most zero [] few = refl
packets_of_body-most zero (q ∷ qs) few = absurd (omega arith)
packets_of_body-most (suc n) [] few = refl
packets_of_body-most (suc n) (q ∷ qs) few =
    let rest : packets_of_body n (body_of qs) ≡ qs = packets_of_body-most n qs (omega arith) in
    grind (arith, common_steps, rest)

length-qs : (qs : List (List ℕ)) → length qs ≤ length (body_of qs)
unfolding body_of
length-qs [] = omega arith
length-qs (q ∷ qs) = omega (arith, length-qs qs, length-append q (body_of qs))

-- the packets of a body are those that it was made of
pub packets_in-body_of : (qs : List (List ℕ)) → packets_in (body_of qs) ≡ qs
packets_in-body_of qs = packets_of_body-most (length (body_of qs)) qs (length-qs qs)

pub packets_in-nil : (bytes : List ℕ) → length bytes ≡ 0 → packets_in bytes ≡ []
unfolding packets_of_body
packets_in-nil [] none = refl
packets_in-nil (b ∷ bytes) none = absurd (omega (arith, none))

pub is_whole_body : (bytes : List ℕ) (qs : List (List ℕ)) → bytes ≡ body_of qs → IsWholeBody bytes
is_whole_body bytes qs is = record { whole = is ∙ ap body_of (sym (ap packets_in is ∙ packets_in-body_of qs)) }

-- a body that begins with the length `len` has these packets
pub record BeginsWith (bytes behind : List ℕ) (len : ℕ) : Type 0 where
  pub within : len ≤ length behind
  pub rest : IsWholeBody (drop len behind)
  pub packets : packets_in bytes ≡ take len behind ∷ packets_in (drop len behind)

first_of : (qs : List (List ℕ)) (bytes behind : List ℕ) (len : ℕ) → packets_in bytes ≡ qs → body_of qs ≡ len ∷ behind → BeginsWith bytes behind len
unfolding body_of
first_of [] bytes behind len are is = cc
first_of (q ∷ qs) bytes behind len are is =
    let size : length q ≡ len = cc in
    let whole : q ++ body_of qs ≡ behind = cc in
    let front : take len behind ≡ q = rw (← size, ← whole) (grind (arith, common_steps)) in
    let back : drop len behind ≡ body_of qs = rw (← size, ← whole) (grind (arith, common_steps)) in
    record {
      within = omega (arith, size, ap length whole, length-append q (body_of qs));
      rest = is_whole_body (drop len behind) qs back;
      packets = are ∙ ap (λ p. p ∷ qs) (sym front) ∙ ap (λ ps. take len behind ∷ ps) (sym (ap packets_in back ∙ packets_in-body_of qs));
    }

pub begins_with : (bytes behind : List ℕ) (len : ℕ) → IsWholeBody bytes → bytes ≡ len ∷ behind → BeginsWith bytes behind len
begins_with bytes behind len body is = first_of (packets_in bytes) bytes behind len refl (sym body.whole ∙ is)
