-- Records and the items that are read off them.
use Rattle.std.proofs.Common.{◌≡◌, ℕ, zero, suc, ◌+◌, ◌-◌, ◌*◌, ◌/◌, ◌%◌, ◌<◌, ◌≤◌, ◌^◌, List, [], ◌∷◌, ◌++◌, length, take, drop, refl, sym, ap, ◌∙◌, arith, append_assoc, append-nil, replicate}
use Rattle.std.proofs.lemmas.Bool.Decides.{nat_tests}
use Rattle.std.proofs.lemmas.Nat.{from_le_bytes-to_le_bytes_4, from_le_bytes-to_le_bytes_8}
use Rattle.std.proofs.lemmas.List.{drop_at, length-append, length-drop, take_at}
use Rattle.std.proofs.lemmas.List.Elements.{All-head, All-tail}
use Rattle.std.specs.Prelude.{All, Bool, cond, true, false, nat_le, slice_index, ◌==◌}
use Rattle.std.specs.Int.{to_le_bytes, w64}
use Rattle.std.specs.Simd.{first_chunks}
use Rattle.xcp_base.specs.Samples.{MarkParts, SampleParts}
use Rattle.xcp_base.specs.declared.item.Item.{Item}
use Rattle.xcp_base.specs.declared.item.Item.TheVariants.{Sample, Marker}
use Rattle.channel_ring.specs.Making.{ArePackets, IsPacket}
use Rattle.frame_ring.specs.Records.{IsItem, blocks_for, bytes_of, cost, record_of, records_of}
use Rattle.frame_writer.specs.Frame.{unnumbered}
use Rattle.frame_ring.specs.Heads.{head_of, item_head}
use Rattle.frame_ring.specs.declared.head.Head.TheVariants as heads
use Rattle.frame_ring.specs.Reading.{blocks_of, flat, frames_len, item_of, items_from, items_in}
use Rattle.frame_ring.proofs.BlockLemmas.{flat-blocks, length-blocks, length-filled}
use Rattle.frame_ring.proofs.FrameLemmas.{packets-read}

-- ---- how long the frames of a sample are

unnumbered_len : (qs : List (List ℕ)) → All IsPacket qs → length (unnumbered qs) ≤ 8196 * length qs
unnumbered_len [] h = omega arith
unnumbered_len (q ∷ qs) h =
    let fits : length q ≤ 8192 = (All-head IsPacket q qs h).fits in
    let more = unnumbered_len qs (All-tail IsPacket q qs h) in
    omega (arith, fits, more, length-append q (unnumbered qs))

pub frames_fit : (qs : List (List ℕ)) → ArePackets qs → length (unnumbered qs) < 2 ^ 32
frames_fit qs h = omega (arith, h.few, unnumbered_len qs h.each)

-- ---- one record

-- a sample's bytes fill its blocks, of which two are its head
pub sample_bytes : (s : SampleParts) → 8 * (2 + blocks_for (length (unnumbered s.packets))) ≡ length (bytes_of (Sample s))
unfolding bytes_of
sample_bytes s = omega (arith, length-filled (unnumbered s.packets))

pub sample_cost : (s : SampleParts) → cost (Sample s) ≡ 2 + blocks_for (length (unnumbered s.packets))
sample_cost s = length-blocks (2 + blocks_for (length (unnumbered s.packets))) (bytes_of (Sample s)) (sample_bytes s)

one_or_more : (c : Bool) (n : ℕ) → 1 ≤ cond c (2 + n) 1
one_or_more true n = omega arith
one_or_more false n = omega arith

pub blocks_of_some : (b : List ℕ) → 1 ≤ blocks_of b
unfolding blocks_of
blocks_of_some b = one_or_more (slice_index b 0 == 1) (blocks_for (frames_len b))

-- more steps than blocks read no more
enough_steps : (n m : ℕ) (bs : List (List ℕ)) → length bs ≤ n → length bs ≤ m → items_from n bs ≡ items_from m bs
unfolding items_from
enough_steps zero zero bs h k = refl
enough_steps zero (suc m) [] h k = refl
enough_steps zero (suc m) (b ∷ bs) h k = absurd (omega (arith, h))
enough_steps (suc n) zero [] h k = refl
enough_steps (suc n) zero (b ∷ bs) h k = absurd (omega (arith, k))
enough_steps (suc n) (suc m) [] h k = refl
enough_steps (suc n) (suc m) (b ∷ bs) h k =
    let some = blocks_of_some b in
    let left : length (drop (blocks_of b) (b ∷ bs)) ≤ n = omega (arith, some, h, length-drop (blocks_of b) (b ∷ bs)) in
    let also : length (drop (blocks_of b) (b ∷ bs)) ≤ m = omega (arith, some, k, length-drop (blocks_of b) (b ∷ bs)) in
    ap (λ (xs : List Item). cond (nat_le (blocks_of b) (length (b ∷ bs))) (item_of (flat (take (blocks_of b) (b ∷ bs))) ∷ xs) [])
    (enough_steps n m (drop (blocks_of b) (b ∷ bs)) left also)

pub le_test : (a b : ℕ) → a ≤ b → nat_le a b ≡ true
le_test a b h = grind (arith, nat_tests)

-- a record that stands whole at the front is read, and then what follows
pub items_step : (b : List ℕ) (r bs : List (List ℕ)) → blocks_of b ≡ length (b ∷ r) → items_in ((b ∷ r) ++ bs) ≡ item_of (flat (b ∷ r)) ∷ items_in bs
unfolding items_in items_from
items_step b r bs h =
    let few : nat_le (blocks_of b) (length (b ∷ (r ++ bs))) ≡ true = le_test _ _ (omega (arith, h, length-append r bs)) in
    let here : take (blocks_of b) (b ∷ (r ++ bs)) ≡ b ∷ r = ap (λ n. take n (b ∷ (r ++ bs))) h ∙ take_at (b ∷ r) bs (length (b ∷ r)) refl in
    let behind : drop (blocks_of b) (b ∷ (r ++ bs)) ≡ bs = ap (λ n. drop n (b ∷ (r ++ bs))) h ∙ drop_at (b ∷ r) bs (length (b ∷ r)) refl in
    let more : items_from (length (r ++ bs)) bs ≡ items_from (length bs) bs = enough_steps _ _ bs (omega (arith, length-append r bs)) (omega arith) in
    rw (few, here, behind, more) refl

-- ---- the record of an item

number_len : (n : ℕ) → length (to_le_bytes w64 n) ≡ 8
number_len n = refl

same_sample : (s : SampleParts) (c l n : ℕ) (ps : List (List ℕ)) → c ≡ s.channel → l ≡ s.list → n ≡ s.number → ps ≡ s.packets → ◌≡◌ {A = SampleParts} (record { channel = c; list = l; number = n; packets = ps }) s
same_sample s c l n ps a b e f = rw (a, b, e, f) refl

same_marker : (m : MarkParts) (c l : ℕ) → c ≡ m.channel → l ≡ m.list → ◌≡◌ {A = MarkParts} (record { channel = c; list = l }) m
same_marker m c l a b = rw (a, b) refl

low_bits : (n : ℕ) → n < 16 → n % 16 ≡ n
low_bits n h = omega (arith, h)

-- an item is read off the bytes of its record
pub item_read : (x : Item) → IsItem x → item_of (bytes_of x) ≡ x
unfolding item_of bytes_of
item_read (Sample s) h =
    let fill = replicate (8 * blocks_for (length (unnumbered s.packets)) - length (unnumbered s.packets)) 0 in
    ap Sample (same_sample s _ _ _ _ (low_bits s.channel (omega (arith, h.channel))) (low_bits s.list (omega (arith, h.list))) (from_le_bytes-to_le_bytes_8 s.number h.number) (packets-read s.packets fill h.packets.each))
item_read (Marker m) h = ap Marker (same_marker m _ _ (low_bits m.channel (omega (arith, h.channel))) (low_bits m.list (omega (arith, h.list))))

-- the first block tells how many there are
pub front_tells : (x : Item) → IsItem x → blocks_of (take 8 (bytes_of x)) ≡ cost x
unfolding blocks_of bytes_of
front_tells (Sample s) h =
    ap (λ n. 2 + blocks_for n) (from_le_bytes-to_le_bytes_4 (length (unnumbered s.packets)) (frames_fit s.packets h.packets)) ∙ sym (sample_cost s)
front_tells (Marker m) h = refl

chunks_front : (n : ℕ) (xs : List ℕ) → 1 ≤ n → first_chunks 8 n xs ≡ take 8 xs ∷ first_chunks 8 (n - 1) (drop 8 xs)
chunks_front zero xs h = absurd (omega (arith, h))
chunks_front (suc n) xs h = ap (λ k. take 8 xs ∷ first_chunks 8 k (drop 8 xs)) (omega arith)

same_head : (c l p n m q : ℕ) → c ≡ l → n ≡ m → p ≡ q → heads.Sample c p n ≡ heads.Sample l q m
same_head c l p n m q e f g = rw (e, f, g) refl

-- the first block has the head of the item
head_told : (x : Item) → IsItem x → head_of (take 8 (bytes_of x)) ≡ item_head x
unfolding head_of bytes_of
head_told (Sample s) h =
    same_head _ s.list _ _ _ _ (low_bits s.list (omega (arith, h.list))) (from_le_bytes-to_le_bytes_4 (length (unnumbered s.packets)) (frames_fit s.packets h.packets)) refl
head_told (Marker m) h = ap heads.Marker (low_bits m.list (omega (arith, h.list)))

-- a record: its first block, which tells how many there are, and the others
pub record Parts (x : Item) : Type 0 where
  pub front : List ℕ
  pub rest : List (List ℕ)
  pub is : record_of x ≡ front ∷ rest
  pub tells : blocks_of front ≡ length (front ∷ rest)
  pub reads : item_of (flat (front ∷ rest)) ≡ x
  pub told : head_of front ≡ item_head x

-- the bytes of an item fill its blocks
pub record Fills (x : Item) : Type 0 where
  pub blocks : ℕ
  pub some : 1 ≤ blocks
  pub exactly : 8 * blocks ≡ length (bytes_of x)

pub bytes_fill : (x : Item) → Fills x
unfolding bytes_of
bytes_fill (Sample s) = record { blocks = 2 + blocks_for (length (unnumbered s.packets)); some = omega arith; exactly = sample_bytes s }
bytes_fill (Marker m) = record { blocks = 1; some = omega arith; exactly = omega arith }

pub parts : (x : Item) → IsItem x → Parts x
parts x h =
    let f = bytes_fill x in
    let n = length (bytes_of x) / 8 in
    let is : record_of x ≡ take 8 (bytes_of x) ∷ first_chunks 8 (n - 1) (drop 8 (bytes_of x)) = chunks_front n (bytes_of x) (omega (arith, f.some, f.exactly)) in
    record {
      front = take 8 (bytes_of x);
      rest = first_chunks 8 (n - 1) (drop 8 (bytes_of x));
      is = is;
      tells = front_tells x h ∙ ap length is;
      told = head_told x h;
      reads = ap (λ blocks. item_of (flat blocks)) (sym is) ∙ ap item_of (flat-blocks f.blocks (bytes_of x) f.exactly) ∙ item_read x h;
    }

pub record_read : (x : Item) (blocks : List (List ℕ)) → IsItem x → items_in (record_of x ++ blocks) ≡ x ∷ items_in blocks
record_read x blocks h =
    let p = parts x h in
    ap (λ r. items_in (r ++ blocks)) p.is ∙ items_step p.front p.rest blocks p.tells ∙ ap (λ y. y ∷ items_in blocks) p.reads

-- ---- many records

pub records_read : (xs : List Item) (blocks : List (List ℕ)) → All IsItem xs → items_in (records_of xs ++ blocks) ≡ xs ++ items_in blocks
records_read [] blocks h = refl
records_read (x ∷ xs) blocks h =
    ap items_in (append_assoc (record_of x) (records_of xs) blocks)
    ∙ record_read x (records_of xs ++ blocks) (All-head IsItem x xs h)
    ∙ ap (λ ys. x ∷ ys) (records_read xs blocks (All-tail IsItem x xs h))

pub nothing_read : items_in [] ≡ []
unfolding items_in items_from
nothing_read = refl

pub all_read : (xs : List Item) → All IsItem xs → items_in (records_of xs) ≡ xs
all_read xs h =
    ap items_in (sym (append-nil (records_of xs))) ∙ records_read xs [] h ∙ ap (λ ys. xs ++ ys) nothing_read ∙ append-nil xs

pub records-append : (xs ys : List Item) → records_of (xs ++ ys) ≡ records_of xs ++ records_of ys
records-append [] ys = refl
records-append (x ∷ xs) ys = ap (λ r. record_of x ++ r) (records-append xs ys) ∙ sym (append_assoc (record_of x) (records_of xs) (records_of ys))

-- ---- laws

pub tell_items : (xs ys : List Item) → All IsItem xs → All IsItem ys → records_of xs ≡ records_of ys → xs ≡ ys
tell_items xs ys h k e = sym (all_read xs h) ∙ ap items_in e ∙ all_read ys k

nothing_behind : (r rest : List (List ℕ)) → length (r ++ rest) ≡ length r → rest ≡ []
nothing_behind r [] h = refl
nothing_behind r (b ∷ rest) h = absurd (omega (arith, h, length-append r (b ∷ rest)))

head_is : {X : Type 0} (x y : X) (xs ys : List X) → x ∷ xs ≡ y ∷ ys → x ≡ y
head_is x y xs ys e = cc

tail_is : {X : Type 0} (x y : X) (xs ys : List X) → x ∷ xs ≡ y ∷ ys → xs ≡ ys
tail_is x y xs ys e = cc

pub prefix_free : (x y : Item) (rest : List (List ℕ)) → IsItem x → IsItem y → record_of y ≡ record_of x ++ rest → (y ≡ x) × (rest ≡ [])
prefix_free x y rest h k e =
    let read : y ∷ [] ≡ x ∷ items_in rest =
    ap (λ ys. y ∷ ys) (sym nothing_read) ∙ sym (record_read y [] k) ∙ ap items_in (append-nil (record_of y) ∙ e) ∙ record_read x rest h in
    let same : y ≡ x = head_is y x [] (items_in rest) read in
    (same, nothing_behind (record_of x) rest (sym (ap length e) ∙ ap (λ z. length (record_of z)) same))

-- the frames stand behind the head
pub frames_stand : (s : SampleParts) (len : ℕ) → len ≡ length (unnumbered s.packets) → take len (drop 16 (flat (record_of (Sample s)))) ≡ unnumbered s.packets
unfolding bytes_of
frames_stand s len e =
    let fill : List ℕ = replicate (8 * blocks_for (length (unnumbered s.packets)) - length (unnumbered s.packets)) 0 in
    ap (λ bytes. take len (drop 16 bytes)) (flat-blocks (2 + blocks_for (length (unnumbered s.packets))) (bytes_of (Sample s)) (sample_bytes s))
    ∙ take_at (unnumbered s.packets) fill len (sym e)
