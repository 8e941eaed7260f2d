-- The bytes and the counter behind some frames.
use Rattle.std.proofs.Common.{◌≡◌, ℕ, ◌+◌, ◌%◌, ◌<◌, ◌≤◌, List, [], ◌++◌, length, drop, refl, sym, ap, subst, ◌∙◌, arith, length-append}
use Rattle.std.proofs.Math.Seq.{drop-append_seam}
use Rattle.frame_writer.specs.Frame.{text, two_bytes}
use Rattle.daq_reader.specs.Frames.{HasFrame, Unread}
use Rattle.daq_reader.specs.Lists.{Stands}
use Rattle.daq_reader.specs.Reading.{Reading}
use Rattle.daq_reader.specs.Reads.{HasRead}
use Rattle.daq_reader.specs.Recorded.{Recorded}
use Rattle.recording.specs.declared.place.Place.{Place}
use Rattle.recording.specs.Pieces.{StandSomewhere, counter_at, place_behind, unread_at}

-- what is left is no longer than what was there
pub no_longer : (lists : List Reading) (qs : List (List ℕ)) (gs : List (ℕ × Recorded)) (a b : Unread) → HasRead lists qs gs a b → length b.rest ≤ length a.rest
no_longer lists qs gs a b h = omega (arith, ap length h.bytes, length-append (text a.counter h.read) b.rest)

-- the bytes that are left are those behind as many as were taken
pub left_is : (lists : List Reading) (qs : List (List ℕ)) (gs : List (ℕ × Recorded)) (a b : Unread) (taken : ℕ) → HasRead lists qs gs a b → taken + length b.rest ≡ length a.rest → drop taken a.rest ≡ b.rest
left_is lists qs gs a b taken h size =
    let front : taken ≡ length (text a.counter h.read) = omega (arith, size, ap length h.bytes, length-append (text a.counter h.read) b.rest) in
    ap (λ n. drop n a.rest) front ∙ ap (drop (length (text a.counter h.read))) h.bytes ∙ drop-append_seam (text a.counter h.read) b.rest

-- the counter of the next frame is that of the place behind
pub counter_behind : (place : Place) (taken frames next : ℕ) → next < 65536 → (frames + counter_at place) % 65536 ≡ next → counter_at (place_behind place taken frames) ≡ next
counter_behind place taken frames next small h = omega (arith, small, h)

same_unread : (b : Unread) (rest : List ℕ) (counter : ℕ) → b.rest ≡ rest → b.counter ≡ counter → b ≡ record { rest = rest; counter = counter }
same_unread b rest counter p q = rw (← p, ← q) refl

-- what is left of bytes at a place stands at the place behind what was read
pub left_at : (lists : List Reading) (qs : List (List ℕ)) (gs : List (ℕ × Recorded)) (place : Place) (held left : List ℕ) (a b : Unread) (taken frames : ℕ) → HasRead lists qs gs a b → a ≡ unread_at place held → left ≡ drop taken held → taken + length b.rest ≡ length held → b.counter < 65536
    → (frames + counter_at place) % 65536 ≡ b.counter → b ≡ unread_at (place_behind place taken frames) left
left_at lists qs gs place held left a b taken frames h first rest size small counter =
    let read : HasRead lists qs gs (unread_at place held) b = subst (λ u. HasRead lists qs gs u b) first h in
    same_unread b left (counter_at (place_behind place taken frames)) (sym (rest ∙ left_is lists qs gs (unread_at place held) b taken read size)) (sym (counter_behind place taken frames b.counter small counter))

-- what was read, where both are said by the bytes
pub read_at : (lists : List Reading) (qs : List (List ℕ)) (gs : List (ℕ × Recorded)) (a b c d : Unread) → HasRead lists qs gs a b → a ≡ c → b ≡ d → HasRead lists qs gs c d
read_at lists qs gs a b c d h first last = subst (HasRead lists qs gs c) last (subst (λ u. HasRead lists qs gs u b) first h)

absurd_frame : (head packet behind : List ℕ) → 0 ≡ length ((head ++ packet) ++ behind) → 0 < length head → ⊥
absurd_frame head packet behind h some = omega (arith, h, some, length-append (head ++ packet) behind, length-append head packet)

-- no frame stands in no bytes
pub no_frame : (a : Unread) → a.rest ≡ [] → (n : ℕ) → HasFrame a n → ⊥
no_frame a none n f = absurd_frame (two_bytes (length f.packet) ++ two_bytes (n % 65536)) f.packet f.behind (ap length (sym none ∙ f.bytes)) (omega arith)

-- the lists and the samples stand after what was read
pub stand_behind : (old now : List Reading) (gs hs : List (ℕ × Recorded)) (a b : Unread) → StandSomewhere old gs → ((qs : List (List ℕ)) → Stands old qs gs → HasRead now qs hs a b) → StandSomewhere now hs
stand_behind old now gs hs a b at read =
    let h = read at.packets at.stands in
    record {
      packets = at.packets ++ h.read;
      stands = h.stands;
    }
