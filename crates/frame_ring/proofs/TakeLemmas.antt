-- What a take end knows, and the record that it takes.
use Rattle.std.proofs.Common.{◌≡◌, ℕ, zero, suc, ◌%◌, ◌<◌, ◌≤◌, ◌⊎◌, List, [], ◌∷◌, ◌++◌, length, take, drop, refl, sym, ap, ◌∙◌, subst, arith, append_assoc, inl, inr, ⊎_elim}
use Rattle.std.proofs.lemmas.Bool.Decides.{nat_tests, leb_tells}
use Rattle.std.proofs.lemmas.List.{append_cancel_left, drop-append-le, get_or_append_left, get_or_at, length-append, length-drop, take-append-le, take_at}
use Rattle.std.specs.Prelude.{All, Bool, cond, true, false, nat_le, slice_index, ◌==◌}
use mathlib.Core.List.{IsPrefix}
use Rattle.rtrb.specs.Fifo.{Allowed}
use Rattle.xcp_base.specs.declared.item.Item.{Item}
use Rattle.xcp_base.specs.declared.item.Item.TheVariants.{Sample, Marker}
use Rattle.frame_ring.specs.Fronts.{AreRecords, BeginRecords}
use Rattle.std.specs.Int.{from_le_bytes, w64}
use Rattle.frame_ring.specs.Heads.{IsHeadOf, head_of}
use Rattle.frame_ring.specs.declared.head.Head.TheVariants as heads
use Rattle.frame_ring.specs.Inner.{front_block}
use Rattle.frame_ring.specs.Reading.{blocks_of, flat, frames_len, item_of, items_from, items_in, packets_in}
use Rattle.frame_ring.specs.Records.{IsItem, record_of, records_of}
use Rattle.frame_ring.proofs.HeldLemmas.{more_records, read_more}
use Rattle.frame_ring.proofs.RecordLemmas.{all_read, blocks_of_some, items_step, le_test, parts, records-append, records_read}

-- ---- what is known

from_whole : (n : ℕ) (b : List ℕ) (bs : List (List ℕ)) → blocks_of b ≤ length (b ∷ bs)
    → items_from (suc n) (b ∷ bs) ≡ item_of (flat (take (blocks_of b) (b ∷ bs))) ∷ items_from n (drop (blocks_of b) (b ∷ bs))
unfolding items_from
from_whole n b bs h = rw (le_test (blocks_of b) (length (b ∷ bs)) h) refl

le_false : (a b : ℕ) → b < a → nat_le a b ≡ false
le_false a b h = grind (arith, nat_tests)

from_part : (n : ℕ) (b : List ℕ) (bs : List (List ℕ)) → length (b ∷ bs) < blocks_of b → items_from (suc n) (b ∷ bs) ≡ []
unfolding items_from
from_part n b bs h = rw (le_false (blocks_of b) (length (b ∷ bs)) h) refl

from_none : (n : ℕ) → items_from n [] ≡ []
unfolding items_from
from_none zero = refl
from_none (suc n) = refl

pub or_less : (a b : ℕ) → (a ≤ b) ⊎ (b < a)
or_less a b = ⊎_elim (λ h. inl h.1) (λ h. inr h.1) (leb_tells a b)

-- with more blocks no fewer items are known
grows_from : (n m : ℕ) (bs more : List (List ℕ)) → length bs ≤ n → length (bs ++ more) ≤ m → IsPrefix (items_from n bs) (items_from m (bs ++ more))
grows_from n m [] more h k = (items_from m more, ap (λ xs. xs ++ items_from m more) (from_none n))
grows_from zero m (b ∷ bs) more h k = absurd (omega (arith, h))
grows_from (suc n) zero (b ∷ bs) more h k = absurd (omega (arith, k))
grows_from (suc n) (suc m) (b ∷ bs) more h k =
    ⊎_elim
    (λ whole.
    let some = blocks_of_some b in
    let here : items_from (suc n) (b ∷ bs) ≡ item_of (flat (take (blocks_of b) (b ∷ bs))) ∷ items_from n (drop (blocks_of b) (b ∷ bs)) = from_whole n b bs whole in
    let there : items_from (suc m) (b ∷ (bs ++ more)) ≡ item_of (flat (take (blocks_of b) (b ∷ (bs ++ more)))) ∷ items_from m (drop (blocks_of b) (b ∷ (bs ++ more))) =
    from_whole m b (bs ++ more) (omega (arith, whole, length-append bs more)) in
    let same : take (blocks_of b) (b ∷ (bs ++ more)) ≡ take (blocks_of b) (b ∷ bs) = take-append-le (blocks_of b) (b ∷ bs) more whole in
    let behind : drop (blocks_of b) (b ∷ (bs ++ more)) ≡ drop (blocks_of b) (b ∷ bs) ++ more = drop-append-le (blocks_of b) (b ∷ bs) more whole in
    let rest = grows_from n m (drop (blocks_of b) (b ∷ bs)) more (omega (arith, some, h, length-drop (blocks_of b) (b ∷ bs)))
    (omega (arith, some, k, whole, length-append bs more, length-append (drop (blocks_of b) (b ∷ bs)) more, length-drop (blocks_of b) (b ∷ bs))) in
    let first = item_of (flat (take (blocks_of b) (b ∷ bs))) in (
      rest.0,
      ap (λ xs. xs ++ rest.0) here ∙ ap (λ xs. first ∷ xs) rest.1 ∙ ap (λ bs. first ∷ items_from m bs) (sym behind)
          ∙ ap (λ t. item_of (flat t) ∷ items_from m (drop (blocks_of b) (b ∷ (bs ++ more)))) (sym same) ∙ sym there,
    ))
    (λ part. (items_from (suc m) (b ∷ (bs ++ more)), ap (λ xs. xs ++ items_from (suc m) (b ∷ (bs ++ more))) (from_part n b bs part)))
    (or_less (blocks_of b) (length (b ∷ bs)))

pub items_grow : (few many : List (List ℕ)) → IsPrefix few many → IsPrefix (items_in few) (items_in many)
unfolding items_in
items_grow few many pre =
    subst (λ cs. IsPrefix (items_from (length few) few) (items_from (length cs) cs)) pre.1
    (grows_from (length few) (length (few ++ pre.0)) few pre.0 (omega arith) (omega arith))

-- the first item that is known
pub first_known : (b : List ℕ) (bs : List (List ℕ)) → blocks_of b ≤ length (b ∷ bs) → IsPrefix (item_of (flat (take (blocks_of b) (b ∷ bs))) ∷ []) (items_in (b ∷ bs))
unfolding items_in
first_known b bs h = (items_from (length bs) (drop (blocks_of b) (b ∷ bs)), sym (from_whole (length bs) b bs h))

pub none_known : (b : List ℕ) (bs : List (List ℕ)) → length (b ∷ bs) < blocks_of b → items_in (b ∷ bs) ≡ []
unfolding items_in
none_known b bs h = from_part (length bs) b bs h

-- ---- the head

packets_count : (n : ℕ) (bytes : List ℕ) → length (packets_in n bytes) ≡ n
unfolding packets_in
packets_count zero bytes = refl
packets_count (suc n) bytes = ap suc (packets_count n _)

-- its first bytes are those of the record
in_front : (k : ℕ) (b : List ℕ) (more : List ℕ) → k < length b → slice_index (b ++ more) k ≡ slice_index b k
in_front k b more h = get_or_append_left b more 0 k h

names_by : (b bytes : List ℕ) (c : Bool) → slice_index bytes 2 ≡ slice_index b 2 → slice_index bytes 3 ≡ slice_index b 3
    → IsHeadOf (cond c (heads.Sample (slice_index b 2 % 16) (slice_index b 3) (frames_len b)) (heads.Marker (slice_index b 2 % 16)))
    (cond c (Sample (record { channel = slice_index bytes 1 % 16; list = slice_index bytes 2 % 16; number = from_le_bytes w64 (take 8 (drop 8 bytes)); packets = packets_in (slice_index bytes 3) (drop 16 bytes) }))
    (Marker (record { channel = slice_index bytes 1 % 16; list = slice_index bytes 2 % 16 })))
names_by b bytes true e f = (ap (λ n. n % 16) (sym e), sym f ∙ sym (packets_count (slice_index bytes 3) (drop 16 bytes)))
names_by b bytes false e f = ap (λ n. n % 16) (sym e)

-- the head that the first block has is that of the item
pub names_item : (b more : List ℕ) → length b ≡ 8 → IsHeadOf (head_of b) (item_of (b ++ more))
unfolding head_of item_of
names_item b more h =
    let kind : slice_index b 0 ≡ slice_index (b ++ more) 0 = sym (in_front 0 b more (omega (arith, h))) in
    subst (λ k. IsHeadOf (cond (k == 1) (heads.Sample (slice_index b 2 % 16) (slice_index b 3) (frames_len b)) (heads.Marker (slice_index b 2 % 16)))
    (cond (slice_index (b ++ more) 0 == 1) (Sample (record { channel = slice_index (b ++ more) 1 % 16; list = slice_index (b ++ more) 2 % 16; number = from_le_bytes w64 (take 8 (drop 8 (b ++ more))); packets = packets_in (slice_index (b ++ more) 3) (drop 16 (b ++ more)) }))
    (Marker (record { channel = slice_index (b ++ more) 1 % 16; list = slice_index (b ++ more) 2 % 16 }))))
    (sym kind)
    (names_by b (b ++ more) (slice_index (b ++ more) 0 == 1) (in_front 2 b more (omega (arith, h))) (in_front 3 b more (omega (arith, h))))

-- ---- a record is taken

-- what was popped is allowed
pub all_allowed : (before : List (List ℕ)) (b : List ℕ) (bs : List (List ℕ)) → Allowed (λ past block. BeginRecords (past ++ block ∷ [])) before (b ∷ bs) → BeginRecords (before ++ b ∷ bs)
all_allowed before b [] h = h.0
all_allowed before b (c ∷ cs) h = subst BeginRecords (append_assoc before (b ∷ []) (c ∷ cs)) (all_allowed (before ++ b ∷ []) c cs h.1)

-- the record of an item was popped behind whole records
pub record IsTaken (received popped : List (List ℕ)) : Type 0 where
  pub item : Item
  pub is : item ≡ item_of (flat popped)
  pub is_item : IsItem item
  pub record_is : popped ≡ record_of item
  pub whole : AreRecords (received ++ popped)
  pub read : items_in (received ++ popped) ≡ items_in received ++ item ∷ []

middle : (xs zs : List Item) (x : Item) → All IsItem (xs ++ x ∷ zs) → IsItem x
middle xs zs x h = subst IsItem (get_or_at xs x zs x (length xs) refl) (h (length xs) x (omega (arith, length-append xs (x ∷ zs))))

pub is_taken : (received : List (List ℕ)) (b : List ℕ) (r : List (List ℕ)) → AreRecords received → BeginRecords (received ++ b ∷ r) → blocks_of b ≡ length (b ∷ r) → IsTaken received (b ∷ r)
is_taken received b r w begin count =
    let popped : List (List ℕ) = b ∷ r in
    let ys = begin.items in
    let more = begin.begin.0 in
    let xs = items_in received in
    let x = item_of (flat popped) in
    let zs = items_in more in
    let all : records_of xs ++ (popped ++ more) ≡ records_of ys =
    sym (append_assoc (records_of xs) popped more) ∙ ap (λ bs. (bs ++ popped) ++ more) (sym w.are) ∙ begin.begin.1 in
    let items : ys ≡ xs ++ x ∷ zs =
    sym (all_read ys begin.each) ∙ ap items_in (sym all) ∙ records_read xs (popped ++ more) w.each ∙ ap (λ is. xs ++ is) (items_step b r more count) in
    let is_item : IsItem x = middle xs zs x (subst (All IsItem) items begin.each) in
    let same : popped ++ more ≡ record_of x ++ records_of zs =
    append_cancel_left (records_of xs) _ _ (all ∙ ap records_of items ∙ records-append xs (x ∷ zs)) in
    let p = parts x is_item in
    let first : b ≡ p.front = ap front_block same ∙ ap (λ bs. front_block (bs ++ records_of zs)) p.is in
    let many : length popped ≡ length (record_of x) = sym count ∙ ap blocks_of first ∙ p.tells ∙ sym (ap length p.is) in
    let is : popped ≡ record_of x =
    sym (take_at popped more (length popped) refl) ∙ ap (take (length popped)) same ∙ take_at (record_of x) (records_of zs) (length popped) (sym many) in
    let now = more_records received x is_item w in
    record {
      item = x;
      is = refl;
      is_item = is_item;
      record_is = is;
      whole = subst (λ bs. AreRecords (received ++ bs)) (sym is) now;
      read = ap (λ bs. items_in (received ++ bs)) is ∙ read_more received x is_item w;
    }
