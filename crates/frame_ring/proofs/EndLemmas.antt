-- The ends of a ring of frames, by what their consumers and producers tell.
use Rattle.std.proofs.Common.{◌≡◌, ℕ, zero, suc, ◌+◌, ◌-◌, ◌%◌, ◌^◌, take, drop, ◌<◌, ◌≤◌, List, [], ◌∷◌, ◌++◌, length, refl, sym, ap, ◌∙◌, subst, arith, append_assoc, ⊎_elim}
use Rattle.std.proofs.lemmas.List.{length-append}
use Rattle.std.specs.Prelude.{Bool, cond, true, false, nat_le, slice_index, ◌==◌}
use mathlib.Core.List.{IsPrefix}
use Rattle.rtrb.specs.declared.consumer.Consumer.{Consumer}
use Rattle.rtrb.specs.Ends.{SameRing}
use Rattle.rtrb.specs.Fifo.{Allowed}
use Rattle.rtrb.specs.Ring.{ConsumerLooked, SameConsumer, known_items, received}
use Rattle.channel_ring.specs.Names.{name_of}
use Rattle.channel_ring.specs.Room.{units, units-append}
use Rattle.xcp_base.specs.declared.item.Item.{Item}
use Rattle.frame_ring.specs.Ends.{LooksForItems, TakeState, TakesFirst}
use Rattle.frame_ring.specs.Fronts.{AreRecords, BeginRecords}
use Rattle.frame_ring.specs.Heads.{IsHeadOf, head_blocks, head_of}
use Rattle.frame_ring.specs.Inner.{counts, front_block}
use Rattle.frame_ring.specs.Reading.{blocks_of, flat, frames_len, item_of, items_from, items_in}
use Rattle.frame_ring.specs.Records.{blocks_for, cost}
use Rattle.frame_ring.specs.declared.head.Head.TheVariants.{Sample, Marker}
use Rattle.frame_ring.proofs.HeldLemmas.{all_cost, same_name, same_records}
use Rattle.frame_ring.proofs.RecordLemmas.{blocks_of_some, items_step, nothing_read, parts, records_read}
use Rattle.frame_ring.proofs.TakeLemmas.{all_allowed, first_known, is_taken, items_grow, names_item, none_known, or_less}

-- ---- looks

pub prefix_then : {X : Type 0} (a b c : List X) → IsPrefix a b → IsPrefix b c → IsPrefix a c
prefix_then a b c p q = (p.0 ++ q.0, sym (append_assoc a p.0 q.0) ∙ ap (λ l. l ++ q.0) p.1 ∙ q.1)

-- where an item is known, more of them leave the first block
front_stays : (xs ys : List (List ℕ)) → IsPrefix xs ys → 0 < length (items_in xs) → front_block ys ≡ front_block xs
front_stays [] ys p some = absurd (omega (arith, some, ap length nothing_read))
front_stays (b ∷ bs) ys p some = ap front_block (sym p.1)

module _ {A P : Type 0} where
  -- a take end over a consumer
  abbrev pub taking : Consumer (List ℕ) A P → TakeState
  taking c = record { received = items_in (received c); known = items_in (known_items c); front = front_block (known_items c); ring = name_of c.end }

  pub looks : (c d : Consumer (List ℕ) A P) → ConsumerLooked c d → LooksForItems (taking c) (taking d)
  looks c d h = record {
    received = ap items_in h.1;
    grows = items_grow (known_items c) (known_items d) h.2;
    front = front_stays (known_items c) (known_items d) h.2;
    ring = same_name c.end d.end h.0.0;
  }

  pub same_then : (c d e : Consumer (List ℕ) A P) → SameConsumer c d → SameConsumer d e → SameConsumer c e
  same_then c d e h k = ((k.0.0 ∙ h.0.0, k.0.1 ∙ h.0.1, k.0.2 ∙ h.0.2, k.0.3 ∙ h.0.3), k.1 ∙ h.1)

  pub looks_twice : (c d e : Consumer (List ℕ) A P) → ConsumerLooked c d → ConsumerLooked d e → ConsumerLooked c e
  looks_twice c d e h k =
      (same_then c d e h.0 k.0, k.1 ∙ h.1, prefix_then (known_items c) (known_items d) (known_items e) h.2 k.2)

pub none_there : (bs : List (List ℕ)) → length bs ≡ 0 → items_in bs ≡ []
none_there [] h = nothing_read
none_there (b ∷ bs) h = absurd (omega (arith, h))

blocks_by : (c : Bool) (l p n : ℕ) → head_blocks (cond c (Sample l p n) (Marker l)) ≡ cond c (2 + blocks_for n) 1
blocks_by true l p n = refl
blocks_by false l p n = refl

pub head_counts : (b : List ℕ) → head_blocks (head_of b) ≡ blocks_of b
unfolding head_of blocks_of
head_counts b = blocks_by (slice_index b 0 == 1) (slice_index b 2 % 16) (slice_index b 3) (frames_len b)

front_is : (b : List ℕ) (known : List (List ℕ)) (p : IsPrefix (b ∷ []) known) → known ≡ b ∷ p.0
front_is b known p = sym p.1

pub too_few : (b : List ℕ) (known : List (List ℕ)) → IsPrefix (b ∷ []) known → length known < head_blocks (head_of b) → items_in known ≡ []
too_few b known p h =
    ap items_in (front_is b known p) ∙ none_known b p.0 (omega (arith, h, head_counts b, ap length (front_is b known p)))

-- the first item that is known, and the block that stands first
pub record IsFirstOf (b : List ℕ) (known : List (List ℕ)) : Type 0 where
  pub item : Item
  pub first : IsPrefix (item ∷ []) (items_in known)
  pub names : IsHeadOf (head_of b) item
  pub front : front_block known ≡ b

rest_blocks : (k : ℕ) (b : List ℕ) (bs : List (List ℕ)) → 1 ≤ k → flat (take k (b ∷ bs)) ≡ b ++ flat (take (k - 1) bs)
rest_blocks zero b bs h = absurd (omega (arith, h))
rest_blocks (suc k) b bs h = ap (λ n. b ++ flat (take n bs)) (omega arith)

pub first_there : (b : List ℕ) (known : List (List ℕ)) → length b ≡ 8 → IsPrefix (b ∷ []) known → head_blocks (head_of b) ≤ length known → IsFirstOf b known
first_there b known long p h =
    let is = front_is b known p in
    let k = blocks_of b in
    let fits : k ≤ length (b ∷ p.0) = omega (arith, h, head_counts b, ap length is) in
    let first = first_known b p.0 fits in
    record {
      item = item_of (flat (take k (b ∷ p.0)));
      first = subst (λ bs. IsPrefix (item_of (flat (take k (b ∷ p.0))) ∷ []) (items_in bs)) (sym is) first;
      names = subst (λ bytes. IsHeadOf (head_of b) (item_of bytes)) (sym (rest_blocks k b p.0 (blocks_of_some b))) (names_item b (flat (take (k - 1) p.0)) long);
      front = ap front_block is;
    }

-- ---- an item is taken

-- an item is known: its record stands whole at the front
pub record KnowsFirst (known : List (List ℕ)) : Type 0 where
  pub front : List ℕ
  pub rest : List (List ℕ)
  pub are : known ≡ front ∷ rest
  pub whole : blocks_of front ≤ length known

pub knows_first : (known : List (List ℕ)) → 0 < length (items_in known) → KnowsFirst known
knows_first [] h = absurd (omega (arith, h, ap length nothing_read))
knows_first (b ∷ bs) h =
    record {
      front = b;
      rest = bs;
      are = refl;
      whole = ⊎_elim (λ w. w) (λ part. absurd (omega (arith, h, ap length (none_known b bs part)))) (or_less (blocks_of b) (length (b ∷ bs)));
    }

-- so many blocks are known
pub are_there : (known : List (List ℕ)) (n : ℕ) → 0 < length (items_in known) → n ≡ head_blocks (head_of (front_block known)) → n ≤ length known
are_there known n h e =
    let k = knows_first known h in
    omega (arith, e, ap (λ bs. head_blocks (head_of (front_block bs))) k.are, head_counts k.front, k.whole)

module _ {A P : Type 0} where
  pub record Took (c d : Consumer (List ℕ) A P) (popped : List (List ℕ)) : Type 0 where
    pub whole : AreRecords (received d)
    pub takes : TakesFirst (taking c) (taking d) popped

  took_some : (c d : Consumer (List ℕ) A P) (p : List ℕ) (r : List (List ℕ)) → AreRecords (received c) → 0 < length (items_in (known_items c))
      → length (p ∷ r) ≡ head_blocks (head_of (front_block (known_items c))) → received d ≡ received c ++ p ∷ r → IsPrefix (known_items c) ((p ∷ r) ++ known_items d)
      → Allowed (λ past block. BeginRecords (past ++ block ∷ [])) (received c) (p ∷ r) → SameRing c.end d.end → Took c d (p ∷ r)
  took_some c d p r w some size now pre allowed same =
      let k = knows_first (known_items c) some in
      let front : front_block (known_items c) ≡ p = ap front_block k.are ∙ ap (λ bs. front_block (bs ++ pre.0)) (sym k.are) ∙ ap front_block pre.1 in
      let count : blocks_of p ≡ length (p ∷ r) = sym (head_counts p) ∙ ap (λ b. head_blocks (head_of b)) (sym front) ∙ sym size in
      let t = is_taken (received c) p r w (all_allowed (received c) p r allowed) count in
      let parts_of = parts t.item t.is_item in
      let first : p ≡ parts_of.front = ap front_block (t.record_is ∙ parts_of.is) in
      let grown : IsPrefix (items_in (known_items c)) (items_in ((p ∷ r) ++ known_items d)) = items_grow (known_items c) ((p ∷ r) ++ known_items d) pre in
      let read : items_in ((p ∷ r) ++ known_items d) ≡ t.item ∷ items_in (known_items d) = items_step p r (known_items d) count ∙ ap (λ x. x ∷ items_in (known_items d)) (sym t.is) in
      record {
        whole = same_records _ _ (sym now) t.whole;
        takes = record {
          item = t.item;
          is_item = t.is_item;
          record_is = t.record_is;
          head_is = ap head_of (front ∙ first) ∙ parts_of.told;
          first = subst (IsPrefix (items_in (known_items c))) read grown;
          received = ap items_in now ∙ t.read;
          ring = same_name c.end d.end same;
        };
      }

  pub took : (c d : Consumer (List ℕ) A P) (popped : List (List ℕ)) → AreRecords (received c) → 0 < length (items_in (known_items c))
      → length popped ≡ head_blocks (head_of (front_block (known_items c))) → received d ≡ received c ++ popped → IsPrefix (known_items c) (popped ++ known_items d)
      → Allowed (λ past block. BeginRecords (past ++ block ∷ [])) (received c) popped → SameRing c.end d.end → Took c d popped
  took c d [] w some size now pre allowed same = absurd (omega (arith, size, head_counts (front_block (known_items c)), blocks_of_some (front_block (known_items c))))
  took c d (p ∷ r) w some size now pre allowed same = took_some c d p r w some size now pre allowed same

-- what is read behind whole records
pub split_read : (received known : List (List ℕ)) → AreRecords received → items_in (received ++ known) ≡ items_in received ++ items_in known
split_read received known w =
    ap (λ bs. items_in (bs ++ known)) w.are ∙ records_read (items_in received) known w.each

-- ---- how many items are left

few_by : (c : Bool) (n : ℕ) (x : Item) (xs : List Item) → length xs ≤ n → length (cond c (x ∷ xs) []) ≤ suc n
few_by true n x xs h = omega (arith, h)
few_by false n x xs h = omega arith

from_few : (n : ℕ) (bs : List (List ℕ)) → length (items_from n bs) ≤ n
unfolding items_from
from_few zero bs = omega arith
from_few (suc n) [] = omega arith
from_few (suc n) (b ∷ bs) = few_by (nat_le (blocks_of b) (length (b ∷ bs))) n _ _ (from_few n (drop (blocks_of b) (b ∷ bs)))

-- there are no more items than blocks
items_few : (bs : List (List ℕ)) → length (items_in bs) ≤ length bs
unfolding items_in
items_few bs = from_few (length bs) bs

-- how many are left, by two numbers that are counted modulo 2^64
pub left_counted : (received known all : List (List ℕ)) (a b : ℕ) → AreRecords received → received ++ known ≡ all → counts a all → counts b received → length known < 2 ^ 64
    → (a + (2 ^ 64 - b)) % 2 ^ 64 ≡ length (items_in known)
left_counted received known all a b w is of_all of_received few =
    let left : items_in received ++ items_in known ≡ items_in all = sym (split_read received known w) ∙ ap items_in is in
    omega (arith, of_all, of_received, few, items_few known, ap length left, length-append (items_in received) (items_in known))

-- what is left takes up its blocks
pub left_cost : (received known all : List (List ℕ)) → AreRecords received → AreRecords all → received ++ known ≡ all → units cost (items_in known) ≡ length known
left_cost received known all w v is =
    let left : items_in received ++ items_in known ≡ items_in all = sym (split_read received known w) ∙ ap items_in is in
    omega (arith, all_cost received w, all_cost all v, ap (units cost) left, units-append cost (items_in received) (items_in known), ap length is, length-append received known)
