-- Bodies of packets, read from the front.
use Rattle.std.proofs.Common.{◌≡◌, ℕ, suc, ◌+◌, ◌-◌, ◌*◌, ◌<◌, ◌≤◌, List, [], ◌∷◌, ◌++◌, length, take, drop, get_or, refl, sym, ap, ◌∙◌, subst, append_assoc, append-nil, arith, drop_of_length-le, length-append, length-drop}
use Rattle.std.proofs.Math.Seq.{take-append_seam}
use Rattle.std.proofs.lemmas.List.{append_cancel_left, drop-drop, drop_more, length-take-le, get_or-drop, get_or_append_left, take_at}
use Rattle.std.proofs.lemmas.List.{take-append-drop}
use Rattle.std.proofs.lemmas.List.Elements.{All-from_get_or, All-head, All-nil, All-push, All-tail}
use Rattle.std.specs.Prelude.{All}
use Rattle.xcp_base.specs.Packets.{ArePackets, IsPacket}
use Rattle.xcp_base.specs.Bodies.{IsBodyOf, body_of, packets_of_body}
use Rattle.xcp_base.specs.Inner.{BeginsWithPacket, EndsAt, HasFront, HasPackets}
use Rattle.xcp_base.proofs.PacketsLemmas.{body_of-push, length-body_of, packets_of_body-body_of}

-- two lists of one length are equal where they begin the same bytes
same_front : (a b x y : List ℕ) → length a ≡ length b → a ++ x ≡ b ++ y → (a ≡ b) × (x ≡ y)
same_front a b x y l e =
    let front : a ≡ b = sym (take-append_seam a x) ∙ ap (take (length a)) e ∙ take_at b y (length a) (sym l) in
    (front, append_cancel_left a x y (rw (← front) at e))

-- behind some packets of a body stands the next one, while there is one
begins_with_packet : (ps qs : List (List ℕ)) (rest : List ℕ) → ArePackets qs → length ps < length qs → body_of qs ≡ body_of ps ++ rest → BeginsWithPacket rest
unfolding body_of
begins_with_packet ps [] rest each few e = absurd (omega (arith, few))
begins_with_packet [] (q ∷ qs) rest each few e =
    record { packet = q; rest = body_of qs; is_packet = All-head IsPacket q qs each; is = sym e }
begins_with_packet (p ∷ ps) (q ∷ qs) rest each few e =
    let len : length q ≡ length p = cc in
    let bodies : q ++ body_of qs ≡ (p ++ body_of ps) ++ rest = cc in
    let both = same_front q p (body_of qs) (body_of ps ++ rest) len (bodies ∙ append_assoc p (body_of ps) rest) in
    begins_with_packet ps qs rest (All-tail IsPacket q qs each) (omega (arith, few)) both.1

-- behind all of them stands nothing
nothing_behind : (ps qs : List (List ℕ)) (rest : List ℕ) → length ps ≡ length qs → body_of qs ≡ body_of ps ++ rest → rest ≡ []
unfolding body_of
nothing_behind [] [] rest count e = sym e
nothing_behind [] (q ∷ qs) rest count e = absurd (omega (arith, count))
nothing_behind (p ∷ ps) [] rest count e = absurd (omega (arith, count))
nothing_behind (p ∷ ps) (q ∷ qs) rest count e =
    let len : length q ≡ length p = cc in
    let bodies : q ++ body_of qs ≡ (p ++ body_of ps) ++ rest = cc in
    let both = same_front q p (body_of qs) (body_of ps ++ rest) len (bodies ∙ append_assoc p (body_of ps) rest) in
    nothing_behind ps qs rest (omega (arith, count)) both.1

-- no packet at the front of any bytes
pub no_front : (bytes : List ℕ) → HasFront 0 0 bytes
unfolding body_of
no_front bytes =
    record { packets = []; body = refl; count = refl; each = All-nil IsPacket; within = omega arith }

-- one packet more
pub one_more_packet : (n stop next : ℕ) (bytes : List ℕ) → HasFront n stop bytes → EndsAt bytes stop next → HasFront (n + 1) next bytes
one_more_packet n stop next bytes f e =
    let ps = f.packets ++ e.packet ∷ [] in
    record {
      packets = ps;
      body = f.body ∙ ap (λ l. body_of f.packets ++ l) e.is ∙ sym (append_assoc (body_of f.packets) (length e.packet ∷ e.packet) (drop next bytes)) ∙ ap (λ l. l ++ drop next bytes) (sym (body_of-push f.packets e.packet));
      count = omega (arith, f.count, length-append f.packets (e.packet ∷ []));
      each = All-push IsPacket f.packets e.packet f.each e.is_packet;
      within = e.within;
    }

-- where the bytes are a body of more packets, there is another one
pub no_body_without : (n stop m : ℕ) (bytes : List ℕ) → HasFront n stop bytes → n < m → ¬ BeginsWithPacket (drop stop bytes) → (qs : List (List ℕ)) → ¬ IsBodyOf m bytes qs
no_body_without n stop m bytes f few no_packet qs b =
    no_packet (begins_with_packet f.packets qs (drop stop bytes) b.each (omega (arith, f.count, b.count, few)) (sym b.body ∙ f.body))

-- and nothing behind the last one
pub no_body_with_more : (n stop : ℕ) (bytes : List ℕ) → HasFront n stop bytes → stop < length bytes → (qs : List (List ℕ)) → ¬ IsBodyOf n bytes qs
no_body_with_more n stop bytes f more qs b =
    let none : drop stop bytes ≡ [] = nothing_behind f.packets qs (drop stop bytes) (omega (arith, f.count, b.count)) (sym b.body ∙ f.body) in
    let some = drop_more bytes stop 0 more in
    cc

-- the bytes of a part are bytes
pub small_part : (bytes front behind : List ℕ) (start b : ℕ) → ((i : ℕ) → get_or bytes i 0 < 256) → drop start bytes ≡ b ∷ (front ++ behind) → All (λ (x : ℕ). x < 256) front
small_part bytes front behind start b small is =
    All-from_get_or (λ (x : ℕ). x < 256) front 0 (λ i h.
    let at : get_or (drop start bytes) (suc i) 0 ≡ get_or front i 0 = ap (λ (l : List ℕ). get_or l (suc i) 0) is ∙ get_or_append_left front behind 0 i h in
    omega (arith, at, get_or-drop start bytes (suc i) 0, small (start + suc i)))

-- a length that the bytes behind it have
pub ends_at : (bytes : List ℕ) (start : ℕ) → ((i : ℕ) → get_or bytes i 0 < 256) → start < length bytes → (get_or bytes start 0 ≡ 0 → ⊥) → get_or bytes start 0 ≤ 64 → get_or bytes start 0 < length bytes - start → EndsAt bytes start (start + 1 + get_or bytes start 0)
ends_at bytes start small inside some fits room =
    let len : ℕ = get_or bytes start 0 in
    let behind : List ℕ = drop (start + 1) bytes in
    let long : length (take len behind) ≡ len = length-take-le len behind (omega (arith, room, length-drop (start + 1) bytes)) in
    let is : drop start bytes ≡ len ∷ (take len behind ++ drop (start + 1 + len) bytes)
    = drop_more bytes start 0 inside ∙ ap (λ (l : List ℕ). len ∷ l) (sym (take-append-drop len behind) ∙ ap (λ (l : List ℕ). take len behind ++ l) (drop-drop len (start + 1) bytes)) in
    record {
      packet = take len behind;
      is_packet = record { some = omega (arith, long, some); fits = omega (arith, long, fits); bytes = small_part bytes (take len behind) (drop (start + 1 + len) bytes) start len small is };
      is = is ∙ ap (λ (n : ℕ). n ∷ (take len behind ++ drop (start + 1 + len) bytes)) (sym long);
      next = omega (arith, long);
      within = omega (arith, room);
    }

-- a packet that begins there has its length there, and so many bytes behind it
pub record LengthAt (bytes : List ℕ) (start : ℕ) : Type 0 where
  pub some : 0 < get_or bytes start 0
  pub fits : get_or bytes start 0 ≤ 64
  pub room : get_or bytes start 0 < length bytes - start

pub length_at : (bytes : List ℕ) (start : ℕ) → BeginsWithPacket (drop start bytes) → LengthAt bytes start
length_at bytes start b =
    let here : get_or bytes start 0 ≡ length b.packet
    = ap (λ (k : ℕ). get_or bytes k 0) (omega arith) ∙ sym (get_or-drop start bytes 0 0) ∙ ap (λ (l : List ℕ). get_or l 0 0) b.is in
    let long : length bytes - start ≡ 1 + (length b.packet + length b.rest) = omega (arith, length-drop start bytes, ap length b.is, length-append b.packet b.rest) in
    record { some = omega (arith, here, b.is_packet.some); fits = omega (arith, here, b.is_packet.fits); room = omega (arith, here, long) }

-- and where nothing stands behind them, the bytes are their body
pub all_packets : (n stop : ℕ) (bytes : List ℕ) → HasFront n stop bytes → length bytes ≤ stop → HasPackets n bytes
all_packets n stop bytes f all =
    let none : drop stop bytes ≡ [] = drop_of_length-le bytes all in
    record { packets = f.packets; body = f.body ∙ ap (λ l. body_of f.packets ++ l) none ∙ append-nil (body_of f.packets); count = f.count; each = f.each }

-- the packets of a body, read off it
pub packets_read : (n : ℕ) (bytes : List ℕ) (h : HasPackets n bytes) → packets_of_body n bytes ≡ h.packets
packets_read n bytes h =
    ap (λ (k : ℕ). packets_of_body k bytes) (sym h.count) ∙ ap (packets_of_body (length h.packets)) h.body ∙ packets_of_body-body_of h.packets

-- and what `Packets` keeps of them
pub record Reads (n : ℕ) (bytes : List ℕ) : Type 0 where
  pub body : bytes ≡ body_of (packets_of_body n bytes)
  pub count : length (packets_of_body n bytes) ≡ n
  pub each : ArePackets (packets_of_body n bytes)
  pub short : length bytes ≤ 65 * n

pub reads : (n : ℕ) (bytes : List ℕ) → HasPackets n bytes → Reads n bytes
reads n bytes h =
    let is = packets_read n bytes h in
    record {
      body = h.body ∙ ap body_of (sym is);
      count = ap length is ∙ h.count;
      each = subst ArePackets (sym is) h.each;
      short = omega (arith, ap length h.body, length-body_of h.packets h.each, h.count);
    }
