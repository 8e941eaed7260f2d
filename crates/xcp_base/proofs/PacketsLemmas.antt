-- What is read from a body of packets is what was written into it.
use Rattle.std.proofs.Common.{◌≡◌, ℕ, zero, suc, ◌+◌, ◌*◌, ◌<◌, ◌≤◌, List, [], ◌∷◌, ◌++◌, length, take, drop, get_or, refl, sym, ap, ◌∙◌, add-one, arith, length-append}
use Rattle.std.proofs.lemmas.Grind.{common_steps}
use Rattle.std.proofs.lemmas.List.Elements.{All-head, All-tail}
use Rattle.std.specs.Prelude.{Some, slice_get}
use Rattle.xcp_base.specs.Packets.{ArePackets, IsPacket}
use Rattle.xcp_base.specs.Bodies.{body_of, packets_of_body}

-- the packets of a body are those that it was made of
pub packets_of_body-body_of : (qs : List (List ℕ)) → packets_of_body (length qs) (body_of qs) ≡ qs
unfolding body_of packets_of_body
packets_of_body-body_of [] = refl
packets_of_body-body_of (q ∷ qs) = grind (arith, common_steps, packets_of_body-body_of qs)

pub body_of-append : (qs rs : List (List ℕ)) → body_of (qs ++ rs) ≡ body_of qs ++ body_of rs
unfolding body_of
body_of-append [] rs = refl
body_of-append (q ∷ qs) rs = grind (arith, common_steps, body_of-append qs rs)

-- one packet more stands behind the body
pub body_of-push : (qs : List (List ℕ)) (q : List ℕ) → body_of (qs ++ q ∷ []) ≡ body_of qs ++ length q ∷ q
unfolding body_of
body_of-push qs q = body_of-append qs (q ∷ []) ∙ grind (arith, common_steps)

-- a packet takes 65 bytes at most
pub length-body_of : (qs : List (List ℕ)) → ArePackets qs → length (body_of qs) ≤ 65 * length qs
unfolding body_of
length-body_of [] each = omega arith
length-body_of (q ∷ qs) each =
    let fits : length q ≤ 64 = (All-head IsPacket q qs each).fits in
    grind (arith, common_steps, length-body_of qs (All-tail IsPacket q qs each), fits)

-- a packet written behind a body is read back as its last one
pub packets_of_body-push : (body new : List ℕ) (n : ℕ) (q : List ℕ) → body ≡ body_of (packets_of_body n body) → length (packets_of_body n body) ≡ n → new ≡ body ++ length q ∷ q → packets_of_body (n + 1) new ≡ packets_of_body n body ++ q ∷ []
packets_of_body-push body new n q whole count is =
    let qs : List (List ℕ) = packets_of_body n body in
    let e : new ≡ body_of (qs ++ q ∷ []) = is ∙ ap (λ b. b ++ length q ∷ q) whole ∙ sym (body_of-push qs q) in
    let m : n + 1 ≡ length (qs ++ q ∷ []) = omega (arith, length-append qs (q ∷ []), count) in
    ap (λ k. packets_of_body k new) m ∙ ap (packets_of_body (length (qs ++ q ∷ []))) e ∙ packets_of_body-body_of (qs ++ q ∷ [])

-- from packet i on a body begins with that packet
pub body_of-drop : (qs : List (List ℕ)) (i : ℕ) → i < length qs → body_of (drop i qs) ≡ length (get_or qs i []) ∷ (get_or qs i [] ++ body_of (drop (i + 1) qs))
unfolding body_of
body_of-drop [] i h = absurd (omega arith)
body_of-drop (q ∷ qs) zero h = refl
body_of-drop (q ∷ qs) (suc i) h = rw add-one (rw add-one at (body_of-drop qs i (omega arith)))

drop-first : (q rest : List ℕ) (n : ℕ) → drop (1 + length q) (n ∷ (q ++ rest)) ≡ rest
drop-first q rest n = grind (arith, common_steps)

take-first : (q rest : List ℕ) (n : ℕ) → take (length q) (drop 1 (n ∷ (q ++ rest))) ≡ q
take-first q rest n = grind (arith, common_steps)

-- some bytes are the body of qs from packet i on
pub record StandsAt (rest : List ℕ) (qs : List (List ℕ)) (i : ℕ) : Type 0 where
  pub len : get_or rest 0 0 ≡ length (get_or qs i [])
  pub whole : 1 + length (get_or qs i []) ≤ length rest
  pub next : drop (1 + length (get_or qs i [])) rest ≡ body_of (drop (i + 1) qs)
  pub packet : take (length (get_or qs i [])) (drop 1 rest) ≡ get_or qs i []

pub stands_at : (rest : List ℕ) (qs : List (List ℕ)) (i : ℕ) → i < length qs → rest ≡ body_of (drop i qs) → StandsAt rest qs i
stands_at rest qs i h e =
    let q : List ℕ = get_or qs i [] in
    let behind : List ℕ = body_of (drop (i + 1) qs) in
    let is : rest ≡ length q ∷ (q ++ behind) = e ∙ body_of-drop qs i h in
    record {
      len = rw is refl;
      whole = grind (arith, common_steps, ap length is);
      next = rw is (drop-first q behind (length q));
      packet = rw is (take-first q behind (length q));
    }

pub slice_get-get_or : (qs : List (List ℕ)) (i : ℕ) → i < length qs → slice_get qs i ≡ Some (get_or qs i [])
slice_get-get_or [] i h = absurd (omega arith)
slice_get-get_or (q ∷ qs) zero h = refl
slice_get-get_or (q ∷ qs) (suc i) h = slice_get-get_or qs i (omega arith)
