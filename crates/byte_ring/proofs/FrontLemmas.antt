-- What was received, what is held, and what is left.
use Rattle.std.proofs.Common.{◌≡◌, ◌↔◌, ℕ, ◌+◌, ◌-◌, ◌%◌, ◌^◌, ◌<◌, ◌≤◌, Bool, true, false, List, [], ◌∷◌, ◌++◌, length, take, drop, refl, sym, ap, ◌∙◌, subst, append_assoc, append-nil, arith, length-append}
use Rattle.std.proofs.lemmas.Bool.{false≢true}
use Rattle.std.proofs.lemmas.List.{append_cancel_left, take-append-drop, take-take, take_all}
use Rattle.std.specs.Prelude.{IsTrue}
use mathlib.Core.List.{IsPrefix}
use Rattle.rtrb.specs.Ring.{known_items}
use Rattle.rtrb.specs.declared.consumer.Consumer.{Consumer}
use Rattle.xcp_base.specs.declared.item.Item.{Item}
use Rattle.byte_ring.specs.declared.front.Front.{Front}
use Rattle.byte_ring.specs.Fronts.{IsFirst, IsReady, known_of, part}
use Rattle.byte_ring.specs.Held.{AreRecords, IsHeld, Place, Pulls}
use Rattle.byte_ring.specs.Reading.{items_in}
use Rattle.byte_ring.specs.Records.{IsItem, record_len, record_of, records_of}
use Rattle.byte_ring.specs.Enough.{units-records}
use Rattle.channel_ring.specs.Room.{units}
use Rattle.byte_ring.proofs.RecordLemmas.{few_items, items_in-more, items_in-nil, items_in-prefix, items_in-push, items_in-record, items_in-records_of, items_in-rest, reads, records_of-append, records_of-push, test_item}

-- ---- more of a record was popped

-- what is held and what is there, joined, is the same
pub pulls_keep : (a b : Place) → Pulls a b → a.held ++ a.ahead ≡ b.held ++ b.ahead
pulls_keep a b p = ap (λ l. a.held ++ l) p.ahead ∙ sym (append_assoc a.held p.got b.ahead) ∙ ap (λ l. l ++ b.ahead) (sym p.held)

-- nothing was received by it
pub record StillHeld (a b : Place) : Type 0 where
  pub same : items_in b.popped ≡ items_in a.popped
  pub held : IsHeld b.popped b.held

pub still_held : (a b : Place) → IsHeld a.popped a.held → Pulls a b → items_in b.held ≡ [] → StillHeld a b
still_held a b h p none =
    let xs : List Item = items_in a.popped in
    let is : b.popped ≡ records_of xs ++ b.held = p.popped ∙ ap (λ l. l ++ p.got) h ∙ append_assoc (records_of xs) a.held p.got ∙ ap (λ l. records_of xs ++ l) (sym p.held) in
    let same : items_in b.popped ≡ xs = ap items_in is ∙ items_in-records_of xs b.held (reads a.popped).each ∙ ap (λ ys. xs ++ ys) none ∙ append-nil xs in
    record { same = same; held = is ∙ ap (λ ys. records_of ys ++ b.held) (sym same) }

-- what is held is no record
pub none_held : (popped held : List ℕ) → IsHeld popped held → items_in held ≡ []
none_held popped held h = items_in-rest popped held h

-- ---- the last byte of a record was popped

-- the first item that is known is the one whose record stands first
pub the_first : (x : Item) (held ahead : List ℕ) → IsFirst x held ahead → items_in (held ++ ahead) ≡ x ∷ items_in (drop 1 ahead)
the_first x held ahead f =
    let cells : held ++ ahead ≡ record_of x ++ drop 1 ahead
    = ap (λ l. held ++ l) (sym (take-append-drop 1 ahead)) ∙ sym (append_assoc held (take 1 ahead) (drop 1 ahead)) ∙ ap (λ l. l ++ drop 1 ahead) (sym f.whole) in
    ap items_in cells ∙ items_in-record x (drop 1 ahead) (test_item x f.item)

pub record LetGo (a b : Place) (x : Item) : Type 0 where
  pub received : items_in b.popped ≡ items_in a.popped ++ x ∷ []
  pub known : items_in (a.held ++ a.ahead) ≡ x ∷ items_in (b.held ++ b.ahead)
  pub held : IsHeld b.popped b.held

pub an_item_is_let_go : (a b : Place) (x : Item) → IsHeld a.popped a.held → IsFirst x a.held a.ahead → b.popped ≡ a.popped ++ take 1 a.ahead → b.ahead ≡ drop 1 a.ahead → b.held ≡ [] → LetGo a b x
an_item_is_let_go a b x h f popped ahead held =
    let xs : List Item = items_in a.popped in
    let item = test_item x f.item in
    let is : b.popped ≡ records_of xs ++ record_of x = popped ∙ ap (λ l. l ++ take 1 a.ahead) h ∙ append_assoc (records_of xs) a.held (take 1 a.ahead) ∙ ap (λ l. records_of xs ++ l) (sym f.whole) in
    let alone : items_in (record_of x) ≡ x ∷ [] = ap items_in (sym (append-nil (record_of x))) ∙ items_in-record x [] item ∙ ap (λ ys. x ∷ ys) items_in-nil in
    let more : items_in b.popped ≡ xs ++ x ∷ [] = ap items_in is ∙ items_in-records_of xs (record_of x) (reads a.popped).each ∙ ap (λ ys. xs ++ ys) alone in
    let cells : records_of (xs ++ x ∷ []) ≡ records_of xs ++ record_of x = records_of-append xs (x ∷ []) ∙ ap (λ l. records_of xs ++ l) (append-nil (record_of x)) in
    record {
      received = more;
      known = the_first x a.held a.ahead f ∙ ap (λ l. x ∷ items_in l) (sym (ap (λ l. l ++ b.ahead) held ∙ ahead));
      held = is ∙ sym (append-nil (records_of xs ++ record_of x)) ∙ ap (λ l. l ++ []) (sym cells ∙ ap records_of (sym more)) ∙ ap (λ l. records_of (items_in b.popped) ++ l) (sym held);
    }

-- ---- how many items are left

-- what is left, of all that was sent
pub left_of_all : (popped held ahead all : List ℕ) → popped ++ ahead ≡ all → IsHeld popped held → items_in popped ++ items_in (held ++ ahead) ≡ items_in all
left_of_all popped held ahead all is h = sym (items_in-more popped ahead held h) ∙ ap items_in is

-- and their number, from two numbers that are counted modulo 2^64
pub left_counted : (popped held ahead all : List ℕ) (a b : ℕ) → popped ++ ahead ≡ all → IsHeld popped held → a ≡ length (items_in all) % 2 ^ 64 → b ≡ length (items_in popped) % 2 ^ 64 → length held + length ahead < 2 ^ 64 → (a + (2 ^ 64 - b)) % 2 ^ 64 ≡ length (items_in (held ++ ahead))
left_counted popped held ahead all a b is h counted_all counted few =
    let left = left_of_all popped held ahead all is h in
    let sum : length (items_in popped) + length (items_in (held ++ ahead)) ≡ length (items_in all) = sym (length-append (items_in popped) (items_in (held ++ ahead))) ∙ ap length left in
    let bound : length (items_in (held ++ ahead)) ≤ length (held ++ ahead) = few_items (held ++ ahead) in
    omega (arith, sum, bound, length-append held ahead)

-- once all that was sent was looked at
pub record Left (popped held ahead all : List ℕ) (a b : ℕ) : Type 0 where
  pub number : (a + (2 ^ 64 - b)) % 2 ^ 64 ≡ length (items_in (held ++ ahead))
  pub left : items_in popped ++ items_in (held ++ ahead) ≡ items_in all
  pub held_still : IsHeld popped held
  pub cells : popped ++ ahead ≡ all

pub all_left : (before popped held known all : List ℕ) (r a b : ℕ) → popped ≡ before → IsHeld before held → r ≡ length known → popped ++ known ≡ all → a ≡ length (items_in all) % 2 ^ 64 → b ≡ length (items_in before) % 2 ^ 64 → length held + length known < 2 ^ 64 → Left popped held (take r known) all a b
all_left before popped held known all r a b same h every is counted_all counted few =
    let there : take r known ≡ known = take_all r known (omega (arith, every)) in
    let cells : popped ++ take r known ≡ all = ap (λ l. popped ++ l) there ∙ is in
    let held_now : IsHeld popped held = subst (λ l. IsHeld l held) (sym same) h in
    let number : b ≡ length (items_in popped) % 2 ^ 64 = counted ∙ ap (λ l. length (items_in l) % 2 ^ 64) (sym same) in
    record {
      number = left_counted popped held (take r known) all a b cells held_now counted_all number (omega (arith, few, ap length there));
      left = left_of_all popped held (take r known) all cells held_now;
      held_still = held_now;
      cells = cells;
    }

-- ---- at the start, and one item more

pub are_no_records : (bytes : List ℕ) → bytes ≡ [] → AreRecords bytes
are_no_records bytes e = e ∙ sym (ap (λ b. records_of (items_in b)) e ∙ ap records_of items_in-nil)

pub reads_none : (bytes : List ℕ) → bytes ≡ [] → items_in bytes ≡ []
reads_none bytes e = ap items_in e ∙ items_in-nil

pub counts_none : (bytes : List ℕ) → bytes ≡ [] → 0 ≡ length (items_in bytes) % 2 ^ 64
counts_none bytes e = rw (reads_none bytes e) refl

pub counts_one_more : (n : ℕ) (xs ys : List Item) (x : Item) → n ≡ length xs % 2 ^ 64 → ys ≡ xs ++ x ∷ [] → (n + 1) % 2 ^ 64 ≡ length ys % 2 ^ 64
counts_one_more n xs ys x e more = omega (arith, e, ap length more, length-append xs (x ∷ []))

pub holds_nothing : (popped held : List ℕ) → popped ≡ [] → held ≡ [] → IsHeld popped held
holds_nothing popped held e f = are_no_records popped e ∙ sym (append-nil (records_of (items_in popped))) ∙ ap (λ (l : List ℕ). records_of (items_in popped) ++ l) (sym f)

pub nothing_known : (held known : List ℕ) (n : ℕ) → held ≡ [] → n ≡ 0 → items_in (held ++ take n known) ≡ []
nothing_known held known n none zero_ahead = rw (none, zero_ahead) items_in-nil

-- ---- whether an item is there

value_by : (b : Bool) (x : Item) (held ahead : List ℕ) → (b ≡ true → IsFirst x held ahead) → (b ≡ false → items_in (held ++ ahead) ≡ []) → IsTrue b ↔ (0 < length (items_in (held ++ ahead)))
value_by true x held ahead first none =
    let known = the_first x held ahead (first refl) in
    (λ t. omega (arith, ap length known), λ some. refl)
value_by false x held ahead first none =
    (λ t. absurd (false≢true t), λ some. absurd (omega (arith, some, ap length (none refl))))

-- the item is ready exactly where one is known
pub tells_whether : {A P : Type 0} (c : Consumer ℕ A P) (f : Front) → IsReady c f → (f.is_ready ≡ false → known_of c f ≡ []) → IsTrue f.is_ready ↔ (0 < length (known_of c f))
tells_whether c f r none = value_by f.is_ready f.item (part f) (take f.ahead (known_items c)) r.first none

-- once a record was let go
pub nothing_ready : {A P : Type 0} (c : Consumer ℕ A P) (f : Front) → f.ahead ≤ length (known_items c) → f.is_ready ≡ false → IsReady c f
nothing_ready c f there none = record { there = there; first = λ yes_item. absurd (false≢true (sym none ∙ yes_item)) }

-- the next byte is the one that a look showed
pub next_byte : (b n : ℕ) (known zs : List ℕ) → (b ∷ []) ++ zs ≡ known → 0 < n → take 1 (take n known) ≡ b ∷ []
next_byte b n known zs is some =
    take-take 1 n known (omega (arith, some)) ∙ ap (λ (l : List ℕ). take 1 l) (sym is)

-- where more bytes are there, no item is lost
pub known_grows : (n r : ℕ) (held known zs now : List ℕ) → known ++ zs ≡ now → r ≡ length now → IsPrefix (items_in (held ++ take n known)) (items_in (held ++ take r now))
known_grows n r held known zs now is all =
    let more : List ℕ = drop n known ++ zs in
    let cells : (held ++ take n known) ++ more ≡ held ++ take r now
    = append_assoc held (take n known) more
    ∙ ap (λ l. held ++ l) (sym (append_assoc (take n known) (drop n known) zs) ∙ ap (λ l. l ++ zs) (take-append-drop n known) ∙ is ∙ sym (take_all r now (omega (arith, all)))) in
    let p = items_in-prefix (held ++ take n known) more in
    (p.0, sym p.1 ∙ ap items_in cells)

-- ---- all that is left

rest_is_records : (xs : List Item) (l all : List ℕ) → xs ++ items_in l ≡ items_in all → records_of xs ++ l ≡ all → AreRecords all → AreRecords l
rest_is_records xs l all left cells whole =
    append_cancel_left (records_of xs) l (records_of (items_in l))
    (cells ∙ whole ∙ ap records_of (sym left) ∙ records_of-append xs (items_in l))

-- a ring has room for what isn't left in it
pub has_room : (popped held ahead all : List ℕ) (capacity free : ℕ) → popped ++ ahead ≡ all → IsHeld popped held → AreRecords all → free + length all ≡ capacity + length popped → capacity ≤ free + units record_len (items_in (held ++ ahead))
has_room popped held ahead all capacity free is h whole e =
    let cells : records_of (items_in popped) ++ (held ++ ahead) ≡ all = sym (append_assoc (records_of (items_in popped)) held ahead) ∙ ap (λ l. l ++ ahead) (sym h) ∙ is in
    let records : AreRecords (held ++ ahead) = rest_is_records (items_in popped) (held ++ ahead) all (left_of_all popped held ahead all is h) cells whole in
    let units_are : units record_len (items_in (held ++ ahead)) ≡ length (held ++ ahead) = units-records (items_in (held ++ ahead)) ∙ sym (ap length records) in
    omega (arith, e, units_are, ap length is, length-append popped ahead, length-append held ahead)

-- ---- a record is pushed, or nothing is

pub record Pushed (b : Bool) (old new : List ℕ) (x : Item) (m : ℕ) : Type 0 where
  pub whole : AreRecords new
  pub counted : m ≡ length (items_in new) % 2 ^ 64
  pub sends : b ≡ true → items_in new ≡ items_in old ++ x ∷ []
  pub stays : b ≡ false → items_in new ≡ items_in old

pub pushed : (b : Bool) (old new bytes : List ℕ) (x : Item) (n m : ℕ) → IsItem x → bytes ≡ record_of x → AreRecords old → n ≡ length (items_in old) % 2 ^ 64 → (b ≡ true → new ≡ old ++ bytes) → (b ≡ false → new ≡ old) → (b ≡ true → m ≡ (n + 1) % 2 ^ 64) → (b ≡ false → m ≡ n) → Pushed b old new x m
pushed true old new bytes x n m item is whole counted sends stays counts count_stays =
    let now : new ≡ old ++ record_of x = sends refl ∙ ap (λ l. old ++ l) is in
    let more : items_in new ≡ items_in old ++ x ∷ [] = ap items_in now ∙ items_in-push old x item whole in
    record {
      whole = subst AreRecords (sym now) (records_of-push old x item whole);
      counted = counts refl ∙ counts_one_more n (items_in old) (items_in new) x counted more;
      sends = λ _. more;
      stays = λ no_item. absurd (false≢true (sym no_item));
    }
pushed false old new bytes x n m item is whole counted sends stays counts count_stays =
    let same = stays refl in
    record {
      whole = subst AreRecords (sym same) whole;
      counted = count_stays refl ∙ counted ∙ ap (λ l. length (items_in l) % 2 ^ 64) (sym same);
      sends = λ yes_item. absurd (false≢true yes_item);
      stays = λ _. ap items_in same;
    }
