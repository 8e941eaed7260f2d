-- Records and the items that are read off them.
use Rattle.std.proofs.Common.{◌≡◌, ℕ, zero, suc, ◌+◌, ◌<◌, ◌≤◌, ◌^◌, List, [], ◌∷◌, ◌++◌, length, take, drop, get_or, refl, sym, ap, ◌∙◌, append_assoc, append-nil, subst, ◌-◌, arith, length-append, length-drop}
use Rattle.std.proofs.lemmas.Bool.Decides.{nat_tests}
use Rattle.std.proofs.lemmas.Option.{cond_some, same_Some}
use Rattle.std.proofs.lemmas.Nat.{from_le_bytes-to_le_bytes_8}
use Rattle.std.proofs.lemmas.List.{take_at, drop_at, get_or_at, append_cancel_left}
use Rattle.std.proofs.lemmas.List.Elements.{All-nil, All-cons, All-head, All-tail}
use Rattle.std.proofs.Math.Seq.{drop-append_seam, take-append_seam}
use Rattle.std.specs.Prelude.{All, Bool, true, false, ◌&&◌, ◌==◌, nat_lt, Option, Some, None}
use Rattle.std.specs.List.{list_all}
use Rattle.std.specs.Int.{to_le_bytes, from_le_bytes, w64}
use Rattle.xcp_base.specs.declared.limits.TheConstants.{MAX_CHANNELS}
use Rattle.xcp_base.specs.Packets.{IsPacket}
use Rattle.xcp_base.specs.Bodies.{body_of, packets_of_body}
use Rattle.xcp_base.specs.Samples.{SampleParts}
use Rattle.xcp_base.specs.declared.item.Item.{Item}
use Rattle.xcp_base.specs.declared.item.Item.TheVariants.{Sample, Marker}
use Rattle.byte_ring.specs.Records.{IsItem, records_of, record_of}
use Rattle.byte_ring.specs.Reading.{candidate, is_front, is_item, is_packet, item_at, items_from, items_in, then_items}

-- ---- tests

both : (a b : Bool) → (a && b) ≡ true → (a ≡ true) × (b ≡ true)
both true b h = (refl, h)
both false b h = cc

pub lt_test : (a b : ℕ) → a < b → nat_lt a b ≡ true
lt_test a b h = grind (arith, nat_tests)

test_lt : (a b : ℕ) → nat_lt a b ≡ true → a < b
test_lt a b h = grind (arith, nat_tests)

test_eq : (a b : ℕ) → (a == b) ≡ true → a ≡ b
test_eq a b h = grind (arith, nat_tests)

eq_test : (a : ℕ) → (a == a) ≡ true
eq_test a = grind (arith, nat_tests)

all_true : {X : Type 0} (P : X → Type 0) (p : X → Bool) → ((x : X) → P x → p x ≡ true) → (xs : List X) → All P xs → list_all p xs ≡ true
all_true P p f [] h = refl
all_true P p f (x ∷ xs) h = rw (f x (All-head P x xs h), all_true P p f xs (All-tail P x xs h))

true_all : {X : Type 0} (P : X → Type 0) (p : X → Bool) → ((x : X) → p x ≡ true → P x) → (xs : List X) → list_all p xs ≡ true → All P xs
true_all P p f [] h = All-nil P
true_all P p f (x ∷ xs) h =
    let parts = both (p x) (list_all p xs) h in
    All-cons P x xs (f x parts.0) (true_all P p f xs parts.1)

front_is : (p bytes : List ℕ) → is_front p bytes ≡ true → bytes ≡ p ++ drop (length p) bytes
front_is [] bytes h = refl
front_is (a ∷ p) [] h = cc
front_is (a ∷ p) (b ∷ bytes) h =
    let parts = both (a == b) (is_front p bytes) h in
    let e : a ≡ b = test_eq a b parts.0 in
    let rest : bytes ≡ p ++ drop (length p) bytes = front_is p bytes parts.1 in
    cc

pub eq_test_false : (a b : ℕ) → (a ≡ b → ⊥) → (a == b) ≡ false
eq_test_false a b h = grind (arith, nat_tests)

is_front-append : (p rest : List ℕ) → is_front p (p ++ rest) ≡ true
is_front-append [] rest = refl
is_front-append (a ∷ p) rest = rw (eq_test a, is_front-append p rest)

packet_test : (q : List ℕ) → IsPacket q → is_packet q ≡ true
packet_test q h =
    let some : nat_lt 0 (length q) ≡ true = lt_test 0 (length q) h.some in
    let fits : nat_lt (length q) 65 ≡ true = lt_test (length q) 65 (omega (arith, h.fits)) in
    let bytes : list_all (λ (b : ℕ). nat_lt b 256) q ≡ true = all_true (λ (b : ℕ). b < 256) (λ (b : ℕ). nat_lt b 256) (λ b p. lt_test b 256 p) q h.bytes in
    rw (some, fits, bytes) refl

test_packet : (q : List ℕ) → is_packet q ≡ true → IsPacket q
test_packet q h =
    let all = both (nat_lt 0 (length q) && nat_lt (length q) 65) (list_all (λ (b : ℕ). nat_lt b 256) q) h in
    let ends = both (nat_lt 0 (length q)) (nat_lt (length q) 65) all.0 in
    let fits : length q < 65 = test_lt (length q) 65 ends.1 in
    record {
      some = test_lt 0 (length q) ends.0;
      fits = omega (arith, fits);
      bytes = true_all (λ (b : ℕ). b < 256) (λ (b : ℕ). nat_lt b 256) (λ b p. test_lt b 256 p) q all.1;
    }

-- what is within the limits passes the test
pub item_test : (x : Item) → IsItem x → is_item x ≡ true
unfolding is_item
item_test (Sample s) h =
    let channel : nat_lt s.channel MAX_CHANNELS ≡ true = lt_test s.channel MAX_CHANNELS (omega (arith, h.channel)) in
    let list : nat_lt s.list 16 ≡ true = lt_test s.list 16 (omega (arith, h.list)) in
    let number : nat_lt s.number (2 ^ 64) ≡ true = lt_test s.number (2 ^ 64) h.number in
    let some : nat_lt 0 (length s.packets) ≡ true = lt_test 0 (length s.packets) h.some in
    let limit : nat_lt (length s.packets) 9 ≡ true = lt_test (length s.packets) 9 (omega (arith, h.limit)) in
    let each : list_all is_packet s.packets ≡ true = all_true IsPacket is_packet packet_test s.packets h.each in
    rw (channel, list, number, some, limit, each) refl
item_test (Marker m) h =
    let channel : nat_lt m.channel MAX_CHANNELS ≡ true = lt_test m.channel MAX_CHANNELS (omega (arith, h.channel)) in
    let list : nat_lt m.list 16 ≡ true = lt_test m.list 16 (omega (arith, h.list)) in
    rw (channel, list) refl

-- what passes the test is within the limits
pub test_item : (x : Item) → is_item x ≡ true → IsItem x
unfolding is_item
test_item (Sample s) h =
    let f = both (nat_lt s.channel MAX_CHANNELS && nat_lt s.list 16 && nat_lt s.number (2 ^ 64) && nat_lt 0 (length s.packets) && nat_lt (length s.packets) 9) (list_all is_packet s.packets) h in
    let e = both (nat_lt s.channel MAX_CHANNELS && nat_lt s.list 16 && nat_lt s.number (2 ^ 64) && nat_lt 0 (length s.packets)) (nat_lt (length s.packets) 9) f.0 in
    let d = both (nat_lt s.channel MAX_CHANNELS && nat_lt s.list 16 && nat_lt s.number (2 ^ 64)) (nat_lt 0 (length s.packets)) e.0 in
    let c = both (nat_lt s.channel MAX_CHANNELS && nat_lt s.list 16) (nat_lt s.number (2 ^ 64)) d.0 in
    let b = both (nat_lt s.channel MAX_CHANNELS) (nat_lt s.list 16) c.0 in
    let limit : length s.packets < 9 = test_lt (length s.packets) 9 e.1 in
    record {
      channel = test_lt s.channel MAX_CHANNELS b.0;
      list = test_lt s.list 16 b.1;
      number = test_lt s.number (2 ^ 64) c.1;
      some = test_lt 0 (length s.packets) d.1;
      limit = omega (arith, limit);
      each = true_all IsPacket is_packet test_packet s.packets f.1;
    }
test_item (Marker m) h =
    let b = both (nat_lt m.channel MAX_CHANNELS) (nat_lt m.list 16) h in
    record { channel = test_lt m.channel MAX_CHANNELS b.0; list = test_lt m.list 16 b.1 }

-- ---- one record

pub packets_of_body-append : (qs : List (List ℕ)) (rest : List ℕ) → packets_of_body (length qs) (body_of qs ++ rest) ≡ qs
unfolding body_of packets_of_body
packets_of_body-append [] rest = refl
packets_of_body-append (q ∷ qs) rest =
    let is : (q ++ body_of qs) ++ rest ≡ q ++ (body_of qs ++ rest) = append_assoc q (body_of qs) rest in
    let here : take (length q) ((q ++ body_of qs) ++ rest) ≡ q = ap (take (length q)) is ∙ take-append_seam q (body_of qs ++ rest) in
    let behind : drop (length q) ((q ++ body_of qs) ++ rest) ≡ body_of qs ++ rest = ap (drop (length q)) is ∙ drop-append_seam q (body_of qs ++ rest) in
    let more : packets_of_body (length qs) (body_of qs ++ rest) ≡ qs = packets_of_body-append qs rest in
    rw (here, behind, more) refl

-- where the parts of a sample's record stand
record PartsAt (bytes bs : List ℕ) (k : ℕ) (behind : List ℕ) : Type 0 where
  pub number : take 8 bytes ≡ bs
  pub count : get_or bytes 8 0 ≡ k
  pub body : drop 9 bytes ≡ behind

parts_at : (bs body rest : List ℕ) (k : ℕ) → length bs ≡ 8 → PartsAt ((bs ++ k ∷ body) ++ rest) bs k (body ++ rest)
parts_at bs body rest k l =
    let is : (bs ++ k ∷ body) ++ rest ≡ bs ++ k ∷ (body ++ rest) = append_assoc bs (k ∷ body) rest in
    let far : (bs ++ k ∷ body) ++ rest ≡ (bs ++ k ∷ []) ++ (body ++ rest) = is ∙ sym (append_assoc bs (k ∷ []) (body ++ rest)) in
    record {
      number = ap (take 8) is ∙ take_at bs (k ∷ (body ++ rest)) 8 l;
      count = ap (λ (b : List ℕ). get_or b 8 0) is ∙ get_or_at bs k (body ++ rest) 0 8 l;
      body = ap (drop 9) far ∙ drop_at (bs ++ k ∷ []) (body ++ rest) 9 (omega (arith, l, length-append bs (k ∷ [])));
    }

same_sample : (s : SampleParts) (n : ℕ) (ps : List (List ℕ)) → n ≡ s.number → ps ≡ s.packets → ◌≡◌ {A = SampleParts} (record { channel = s.channel; list = s.list; number = n; packets = ps }) s
same_sample s n ps e f = rw (e, f) refl

same_count : (n m : ℕ) (bytes behind : List ℕ) → n ≡ m → bytes ≡ behind → packets_of_body n bytes ≡ packets_of_body m behind
same_count n m bytes behind e f = cc

pub length-number : (n : ℕ) → length (to_le_bytes w64 n) ≡ 8
length-number n = refl

candidate-record : (x : Item) (rest : List ℕ) → IsItem x → candidate (record_of x ++ rest) ≡ x
unfolding candidate record_of
candidate-record (Sample s) rest h =
    let at = parts_at (to_le_bytes w64 s.number) (body_of s.packets) rest (length s.packets) (length-number s.number) in
    ap Sample (same_sample s _ _
    (ap (from_le_bytes w64) at.number ∙ from_le_bytes-to_le_bytes_8 s.number h.number)
    (same_count _ (length s.packets) _ (body_of s.packets ++ rest) at.count at.body ∙ packets_of_body-append s.packets rest))
candidate-record (Marker m) rest h = refl

-- an item is read off its record, whatever follows
pub item_at-record : (x : Item) (rest : List ℕ) → IsItem x → item_at (record_of x ++ rest) ≡ Some x
unfolding item_at
item_at-record x rest h = rw (candidate-record x rest h, item_test x h, is_front-append (record_of x) rest) refl

-- what is read stands at the front
pub record StandsAtFront (bytes : List ℕ) (x : Item) : Type 0 where
  pub item : IsItem x
  pub is : bytes ≡ record_of x ++ drop (length (record_of x)) bytes

pub stands_at_front : (bytes : List ℕ) (x : Item) → item_at bytes ≡ Some x → StandsAtFront bytes x
unfolding item_at
stands_at_front bytes x h =
    let found = cond_some (is_item (candidate bytes) && is_front (record_of (candidate bytes)) bytes) (candidate bytes) x h in
    let tests = both (is_item (candidate bytes)) (is_front (record_of (candidate bytes)) bytes) found.0 in
    subst (StandsAtFront bytes) found.1 (record { item = test_item (candidate bytes) tests.0; is = front_is (record_of (candidate bytes)) bytes tests.1 })

pub record_has_three : (x : Item) → 3 ≤ length (record_of x)
unfolding record_of
record_has_three (Sample s) = omega arith
record_has_three (Marker m) = omega arith

-- ---- many records

item_at-nil : item_at [] ≡ None
unfolding item_at candidate is_item packets_of_body
item_at-nil = refl

then_same : (o : Option Item) (f g : Item → List Item) → ((x : Item) → o ≡ Some x → f x ≡ g x) → then_items o f ≡ then_items o g
then_same None f g h = refl
then_same (Some x) f g h = ap (λ xs. x ∷ xs) (h x refl)

-- more steps than bytes read no more
enough_steps : (n m : ℕ) (bytes : List ℕ) → length bytes ≤ n → length bytes ≤ m → items_from n bytes ≡ items_from m bytes
enough_steps zero zero bytes p q = refl
enough_steps zero (suc m) [] p q = rw item_at-nil refl
enough_steps zero (suc m) (b ∷ bytes) p q = absurd (omega (arith, p))
enough_steps (suc n) zero [] p q = rw item_at-nil refl
enough_steps (suc n) zero (b ∷ bytes) p q = absurd (omega (arith, q))
enough_steps (suc n) (suc m) bytes p q =
    then_same (item_at bytes) (λ x. items_from n (drop (length (record_of x)) bytes)) (λ x. items_from m (drop (length (record_of x)) bytes)) (λ x e.
    let long = record_has_three x in
    let l = length-drop (length (record_of x)) bytes in
    enough_steps n m (drop (length (record_of x)) bytes) (omega (arith, p, l, long)) (omega (arith, q, l, long)))

-- the first item, and those behind its record
pub items_in-record : (x : Item) (rest : List ℕ) → IsItem x → items_in (record_of x ++ rest) ≡ x ∷ items_in rest
unfolding items_in
items_in-record x rest h =
    let bytes : List ℕ = record_of x ++ rest in
    let long = record_has_three x in
    let l : length bytes ≡ length (record_of x) + length rest = length-append (record_of x) rest in
    let n : ℕ = length (record_of x) + length rest - 1 in
    let steps : items_from (length bytes) bytes ≡ items_from (suc n) bytes = enough_steps (length bytes) (suc n) bytes (omega arith) (omega (arith, l, long)) in
    let behind : drop (length (record_of x)) bytes ≡ rest = drop-append_seam (record_of x) rest in
    steps
    ∙ ap (λ o. then_items o (λ y. items_from n (drop (length (record_of y)) bytes))) (item_at-record x rest h)
    ∙ ap (λ b. x ∷ items_from n b) behind
    ∙ ap (λ xs. x ∷ xs) (enough_steps n (length rest) rest (omega (arith, long)) (omega arith))

-- items whose records stand at the front are read
pub items_in-records_of : (xs : List Item) (rest : List ℕ) → All IsItem xs → items_in (records_of xs ++ rest) ≡ xs ++ items_in rest
items_in-records_of [] rest each = refl
items_in-records_of (x ∷ xs) rest each =
    ap items_in (append_assoc (record_of x) (records_of xs) rest)
    ∙ items_in-record x (records_of xs ++ rest) (All-head IsItem x xs each)
    ∙ ap (λ ys. x ∷ ys) (items_in-records_of xs rest (All-tail IsItem x xs each))

-- the bytes are the records of these items, and then a rest
pub record Reads (bytes : List ℕ) (xs : List Item) : Type 0 where
  pub rest : List ℕ
  pub is : bytes ≡ records_of xs ++ rest
  pub each : All IsItem xs

read_none : (bytes : List ℕ) → Reads bytes []
read_none bytes = record { rest = bytes; is = refl; each = All-nil IsItem }

read_then : (bytes : List ℕ) (o : Option Item) (more : Item → List Item) → item_at bytes ≡ o → ((x : Item) → Reads (drop (length (record_of x)) bytes) (more x)) → Reads bytes (then_items o more)
read_then bytes None more e f = read_none bytes
read_then bytes (Some x) more e f =
    let front = stands_at_front bytes x e in
    let behind = f x in
    record {
      rest = behind.rest;
      is = front.is ∙ ap (λ b. record_of x ++ b) behind.is ∙ sym (append_assoc (record_of x) (records_of (more x)) behind.rest);
      each = All-cons IsItem x (more x) front.item behind.each;
    }

reads_from : (n : ℕ) (bytes : List ℕ) → Reads bytes (items_from n bytes)
reads_from zero bytes = read_none bytes
reads_from (suc n) bytes =
    read_then bytes (item_at bytes) (λ x. items_from n (drop (length (record_of x)) bytes)) refl (λ x. reads_from n (drop (length (record_of x)) bytes))

pub reads : (bytes : List ℕ) → Reads bytes (items_in bytes)
unfolding items_in
reads bytes = reads_from (length bytes) bytes

pub items_in-nil : items_in [] ≡ []
unfolding items_in
items_in-nil = refl

-- what is read off more bytes: the same items, and those read off the rest with what is new
pub items_in-more : (bytes more : List ℕ) (rest : List ℕ) → bytes ≡ records_of (items_in bytes) ++ rest → items_in (bytes ++ more) ≡ items_in bytes ++ items_in (rest ++ more)
items_in-more bytes more rest is =
    ap (λ (b : List ℕ). items_in (b ++ more)) is
    ∙ ap items_in (append_assoc (records_of (items_in bytes)) rest more)
    ∙ items_in-records_of (items_in bytes) (rest ++ more) (reads bytes).each

-- nothing is read off what is left behind the records
pub items_in-rest : (bytes rest : List ℕ) → bytes ≡ records_of (items_in bytes) ++ rest → items_in rest ≡ []
items_in-rest bytes rest is =
    let e : items_in bytes ++ items_in rest ≡ items_in bytes ++ []
    = sym (items_in-records_of (items_in bytes) rest (reads bytes).each) ∙ ap items_in (sym is) ∙ sym (append-nil (items_in bytes)) in
    append_cancel_left (items_in bytes) (items_in rest) [] e

-- what is read off the front is read first
pub items_in-prefix : (front more : List ℕ) → (ys : List Item) × (items_in (front ++ more) ≡ items_in front ++ ys)
items_in-prefix front more =
    let r = reads front in
    (items_in (r.rest ++ more), items_in-more front more r.rest r.is)

pub records_of-append : (xs ys : List Item) → records_of (xs ++ ys) ≡ records_of xs ++ records_of ys
records_of-append [] ys = refl
records_of-append (x ∷ xs) ys = ap (λ b. record_of x ++ b) (records_of-append xs ys) ∙ sym (append_assoc (record_of x) (records_of xs) (records_of ys))

-- where nothing is left behind the items that are read, one record more is one item more
pub items_in-push : (bytes : List ℕ) (x : Item) → IsItem x → bytes ≡ records_of (items_in bytes) → items_in (bytes ++ record_of x) ≡ items_in bytes ++ x ∷ []
items_in-push bytes x h is =
    items_in-more bytes (record_of x) [] (is ∙ sym (append-nil (records_of (items_in bytes))))
    ∙ ap (λ xs. items_in bytes ++ xs) (ap items_in (sym (append-nil (record_of x))) ∙ items_in-record x [] h ∙ ap (λ xs. x ∷ xs) items_in-nil)

pub records_of-push : (bytes : List ℕ) (x : Item) → IsItem x → bytes ≡ records_of (items_in bytes) → bytes ++ record_of x ≡ records_of (items_in (bytes ++ record_of x))
records_of-push bytes x h is =
    ap (λ b. b ++ record_of x) is
    ∙ sym (records_of-append (items_in bytes) (x ∷ []) ∙ ap (λ b. records_of (items_in bytes) ++ b) (append-nil (record_of x)))
    ∙ ap records_of (sym (items_in-push bytes x h is))

-- at most as many items as bytes
pub items_fit : (xs : List Item) → length xs ≤ length (records_of xs)
items_fit [] = omega arith
items_fit (x ∷ xs) = omega (arith, items_fit xs, record_has_three x, length-append (record_of x) (records_of xs))

pub few_items : (bytes : List ℕ) → length (items_in bytes) ≤ length bytes
few_items bytes =
    let r = reads bytes in
    omega (arith, items_fit (items_in bytes), ap length r.is, length-append (records_of (items_in bytes)) r.rest)

-- ---- laws

-- the longest list: items whose records stand at the front are the first of those that are read
pub reads_the_longest : (bytes rest : List ℕ) (xs : List Item) → All IsItem xs → bytes ≡ records_of xs ++ rest → (ys : List Item) × (xs ++ ys ≡ items_in bytes)
reads_the_longest bytes rest xs each is = (items_in rest, sym (ap items_in is ∙ items_in-records_of xs rest each))

-- no record is a proper prefix of another
pub records_are_prefix_free : (x y : Item) (rest : List ℕ) → IsItem x → IsItem y → record_of y ≡ record_of x ++ rest → (y ≡ x) × (rest ≡ [])
records_are_prefix_free x y rest hx hy is =
    let found : Some y ≡ Some x
    = sym (item_at-record y [] hy) ∙ ap item_at (append-nil (record_of y) ∙ is) ∙ item_at-record x rest hx in
    let same : y ≡ x = same_Some y x found in
    let cells : record_of x ++ rest ≡ record_of x ++ [] = sym is ∙ ap record_of same ∙ sym (append-nil (record_of x)) in
    (same, append_cancel_left (record_of x) rest [] cells)

-- records_of records are those of one list of items
pub records_tell_items : (xs ys : List Item) → All IsItem xs → All IsItem ys → records_of xs ≡ records_of ys → xs ≡ ys
records_tell_items xs ys hx hy e =
    let left : items_in (records_of xs) ≡ xs = ap items_in (sym (append-nil (records_of xs))) ∙ items_in-records_of xs [] hx ∙ ap (λ zs. xs ++ zs) items_in-nil ∙ append-nil xs in
    let right : items_in (records_of ys) ≡ ys = ap items_in (sym (append-nil (records_of ys))) ∙ items_in-records_of ys [] hy ∙ ap (λ zs. ys ++ zs) items_in-nil ∙ append-nil ys in
    sym left ∙ ap items_in e ∙ right
