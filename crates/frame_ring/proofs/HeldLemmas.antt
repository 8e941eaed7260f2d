-- What a send end holds back.
use Rattle.std.specs.Prelude.{All}
use Rattle.std.proofs.Common.{◌≡◌, subst, ℕ, ◌+◌, ◌-◌, ◌*◌, ◌/◌, ◌%◌, ◌^◌, ◌<◌, ◌≤◌, List, [], ◌∷◌, ◌++◌, length, take, drop, get_or, refl, sym, ap, ◌∙◌, arith, append_assoc, append-nil, take-append-drop}
use Rattle.std.proofs.lemmas.List.{length-append, length-take, take_more}
use Rattle.std.specs.Prelude.{slice_index_or}
use Rattle.std.specs.Simd.{first_chunks}
use Rattle.rtrb.specs.declared.end.End.{End}
use Rattle.rtrb.specs.Ends.{SameRing}
use Rattle.channel_ring.specs.Ends.{RingName}
use Rattle.channel_ring.specs.Names.{name_of}
use Rattle.channel_ring.specs.Room.{units}
use Rattle.xcp_base.specs.Samples.{MarkParts}
use Rattle.xcp_base.specs.declared.item.Item.{Item}
use Rattle.xcp_base.specs.declared.item.Item.TheVariants.{Marker}
use Rattle.frame_ring.specs.Ends.{SendState}
use Rattle.frame_ring.specs.Fronts.{AreRecords, BeginRecords}
use Rattle.frame_ring.specs.Inner.{IsSend, counts, held_back}
use Rattle.frame_ring.specs.Reading.{items_in}
use Rattle.frame_ring.specs.Records.{IsItem, bytes_of, cost, record_of, records_of}
use Rattle.std.proofs.lemmas.List.Elements.{All-append, All-cons, All-nil}
use Rattle.frame_ring.proofs.BlockLemmas.{chunks-append, length-blocks, length-chunks}
use Rattle.frame_ring.proofs.RecordLemmas.{all_read, bytes_fill, records-append}

-- the blocks of the first bytes
chunks-take : (k : ℕ) (xs : List ℕ) → 8 * k ≤ length xs → first_chunks 8 k (take (8 * k) xs) ≡ first_chunks 8 k xs
chunks-take k xs h =
    let long : 8 * k ≡ length (take (8 * k) xs) = omega (arith, h, length-take (8 * k) xs) in
    let both = chunks-append k 0 (take (8 * k) xs) (drop (8 * k) xs) long in
    sym (append-nil (first_chunks 8 k (take (8 * k) xs))) ∙ sym both
    ∙ ap (λ t. first_chunks 8 (k + 0) t) (take-append-drop (8 * k) xs) ∙ ap (λ n. first_chunks 8 n xs) (omega arith)

pub cut_is : (k : ℕ) (xs cut : List ℕ) (blocks : List (List ℕ)) → 8 * k ≤ length xs → cut ≡ take (k * 8) xs → blocks ≡ first_chunks 8 (length cut / 8) cut → blocks ≡ held_back k xs
cut_is k xs cut blocks h e f =
    let same : k * 8 ≡ 8 * k = omega arith in
    let is : cut ≡ take (8 * k) xs = e ∙ ap (λ n. take n xs) same in
    let n : length cut / 8 ≡ k = omega (arith, h, ap length is, length-take (8 * k) xs) in
    f ∙ ap (λ m. first_chunks 8 m cut) n ∙ ap (λ t. first_chunks 8 k t) is ∙ chunks-take k xs h

-- what is pushed begins records
pub each_begins : (pushed blocks : List (List ℕ)) → AreRecords (pushed ++ blocks) → (i : ℕ) (d : List ℕ) → i < length blocks → BeginRecords ((pushed ++ take i blocks) ++ slice_index_or blocks i d ∷ [])
each_begins pushed blocks whole i d h =
    let more : take (i + 1) blocks ≡ take i blocks ++ get_or blocks i d ∷ [] = take_more blocks i d h in
    let is : (pushed ++ take i blocks) ++ get_or blocks i d ∷ [] ≡ pushed ++ take (i + 1) blocks = append_assoc pushed (take i blocks) (get_or blocks i d ∷ []) ∙ ap (λ t. pushed ++ t) (sym more) in
    record {
      items = items_in (pushed ++ blocks);
      each = whole.each;
      begin = (drop (i + 1) blocks, ap (λ t. t ++ drop (i + 1) blocks) is ∙ append_assoc pushed (take (i + 1) blocks) (drop (i + 1) blocks) ∙ ap (λ t. pushed ++ t) (take-append-drop (i + 1) blocks) ∙ whole.are);
    }

pub same_records : (a b : List (List ℕ)) → a ≡ b → AreRecords a → AreRecords b
same_records a b e w = subst AreRecords e w

-- the records of some items, one behind another
pub as_records : (blocks : List (List ℕ)) (items : List Item) → All IsItem items → blocks ≡ records_of items → AreRecords blocks
as_records blocks items each are =
    let back : items_in blocks ≡ items = ap items_in are ∙ all_read items each in
    record { each = subst (All IsItem) (sym back) each; are = are ∙ ap records_of (sym back) }

pub same_state : (xs ys : List Item) (held free capacity c room : ℕ) (ring r : RingName) → ys ≡ xs → c ≡ capacity → r ≡ ring
    → ◌≡◌ {A = SendState} (record { sent = ys; held = held; free = free; capacity = c; room = room; ring = r }) (record { sent = xs; held = held; free = free; capacity = capacity; room = room; ring = ring })
same_state xs ys held free capacity c room ring r e f g = rw (e, f, g) refl

pub same_name : {T A P : Type 0} (a b : End T A P) → SameRing a b → name_of b ≡ name_of a
same_name a b s = λ i. record { words = s.0 i; slots = s.1 i; names = s.2 i }

-- ---- one record more

pub bytes_cost : (x : Item) → 8 * cost x ≡ length (bytes_of x)
bytes_cost x =
    let f = bytes_fill x in
    omega (arith, f.exactly, length-blocks f.blocks (bytes_of x) f.exactly)

-- the record of an item, written behind what is held back
more_held : (x : Item) (old new : List ℕ) (held blocks room : ℕ) → 8 * room ≤ length old → length new ≡ length old → blocks ≡ cost x → held + blocks ≤ room
    → take (held * 8 + length (bytes_of x)) new ≡ take (held * 8) old ++ bytes_of x → held_back (held + blocks) new ≡ held_back held old ++ record_of x
more_held x old new held blocks room long same is fits laid =
    let at : held * 8 ≡ 8 * held = omega arith in
    let end : held * 8 + length (bytes_of x) ≡ 8 * (held + blocks) = omega (arith, is, bytes_cost x) in
    let within : 8 * (held + blocks) ≤ length new = omega (arith, fits, long, same) in
    let front : 8 * held ≡ length (take (8 * held) old) = omega (arith, fits, long, length-take (8 * held) old) in
    let count : blocks ≡ length (bytes_of x) / 8 = omega (arith, is, bytes_cost x) in
    let now : take (8 * (held + blocks)) new ≡ take (8 * held) old ++ bytes_of x = ap (λ n. take n new) (sym end) ∙ laid ∙ ap (λ n. take n old ++ bytes_of x) at in
    sym (chunks-take (held + blocks) new within) ∙ ap (first_chunks 8 (held + blocks)) now ∙ chunks-append held blocks (take (8 * held) old) (bytes_of x) front
    ∙ ap (λ cs. cs ++ first_chunks 8 blocks (bytes_of x)) (chunks-take held old (omega (arith, fits, long)))
    ∙ ap (λ n. first_chunks 8 held old ++ first_chunks 8 n (bytes_of x)) count

-- the records of one item more
one_more : (blocks : List (List ℕ)) (x : Item) → AreRecords blocks → blocks ++ record_of x ≡ records_of (items_in blocks ++ x ∷ [])
one_more blocks x w =
    ap (λ b. b ++ record_of x) w.are ∙ ap (λ r. records_of (items_in blocks) ++ r) (sym (append-nil (record_of x))) ∙ sym (records-append (items_in blocks) (x ∷ []))

each_more : (blocks : List (List ℕ)) (x : Item) → IsItem x → AreRecords blocks → All IsItem (items_in blocks ++ x ∷ [])
each_more blocks x h w = All-append IsItem (items_in blocks) (x ∷ []) w.each (All-cons IsItem x [] h (All-nil IsItem))

pub more_records : (blocks : List (List ℕ)) (x : Item) → IsItem x → AreRecords blocks → AreRecords (blocks ++ record_of x)
more_records blocks x h w = as_records _ (items_in blocks ++ x ∷ []) (each_more blocks x h w) (one_more blocks x w)

pub read_more : (blocks : List (List ℕ)) (x : Item) → IsItem x → AreRecords blocks → items_in (blocks ++ record_of x) ≡ items_in blocks ++ x ∷ []
read_more blocks x h w = ap items_in (one_more blocks x w) ∙ all_read (items_in blocks ++ x ∷ []) (each_more blocks x h w)

-- nothing is records
pub are_none : (blocks : List (List ℕ)) → blocks ≡ [] → AreRecords blocks
are_none blocks e = as_records blocks [] (All-nil IsItem) e

-- ---- what is taken up

pub units-records : (xs : List Item) → units cost xs ≡ length (records_of xs)
units-records [] = refl
units-records (x ∷ xs) = omega (arith, units-records xs, length-append (record_of x) (records_of xs))

-- records take up their blocks
pub all_cost : (blocks : List (List ℕ)) → AreRecords blocks → units cost (items_in blocks) ≡ length blocks
all_cost blocks w = units-records (items_in blocks) ∙ sym (ap length w.are)

pub costs : (pushed : List (List ℕ)) (buffer : List ℕ) (held : ℕ) → AreRecords (pushed ++ held_back held buffer)
    → units cost (items_in (pushed ++ held_back held buffer)) ≡ length pushed + held
costs pushed buffer held w =
    let blocks = pushed ++ held_back held buffer in
    omega (arith, all_cost blocks w, length-append pushed (held_back held buffer), length-chunks held buffer)

-- one item more
pub counts_one_more : (n : ℕ) (xs ys : List Item) (x : Item) → n ≡ length xs % 2 ^ 64 → ys ≡ xs ++ x ∷ [] → (n + 1) % 2 ^ 64 ≡ length ys % 2 ^ 64
counts_one_more n xs ys x e more = omega (arith, e, ap length more, length-append xs (x ∷ []))

pub counts_same : (n : ℕ) (a b : List (List ℕ)) → a ≡ b → counts n a → counts n b
counts_same n a b e h = h ∙ ap (λ bs. length (items_in bs) % 2 ^ 64) e

pub counts_none : (blocks : List (List ℕ)) → items_in blocks ≡ [] → counts 0 blocks
counts_none blocks e = rw e refl

pub holds : (x : Item) → IsItem x → (pushed : List (List ℕ)) (old new : List ℕ) (held blocks room free : ℕ) → IsSend pushed old held room free → length new ≡ length old → blocks ≡ cost x → held + blocks ≤ room → held + blocks ≤ free
    → take (held * 8 + length (bytes_of x)) new ≡ take (held * 8) old ++ bytes_of x → IsSend pushed new (held + blocks) room free
holds x h pushed old new held blocks room free s same is fits there laid =
    let whole : AreRecords (pushed ++ held_back (held + blocks) new) =
    same_records _ _ (append_assoc pushed (held_back held old) (record_of x) ∙ ap (λ b. pushed ++ b) (sym (more_held x old new held blocks room (omega (arith, s.long)) same is fits laid))) (more_records (pushed ++ held_back held old) x h s.whole) in
    record {
      whole = whole;
      fits = fits;
      least = s.least;
      long = s.long ∙ sym same;
      there = there;
      costs = costs pushed new (held + blocks) whole;
    }

pub holds_sent : (x : Item) → IsItem x → (pushed : List (List ℕ)) (old new : List ℕ) (held blocks room free : ℕ) → IsSend pushed old held room free → length new ≡ length old → blocks ≡ cost x → held + blocks ≤ room
    → take (held * 8 + length (bytes_of x)) new ≡ take (held * 8) old ++ bytes_of x → items_in (pushed ++ held_back (held + blocks) new) ≡ items_in (pushed ++ held_back held old) ++ x ∷ []
holds_sent x h pushed old new held blocks room free s same is fits laid =
    ap (λ b. items_in (pushed ++ b)) (more_held x old new held blocks room (omega (arith, s.long)) same is fits laid) ∙ ap items_in (sym (append_assoc pushed (held_back held old) (record_of x)))
    ∙ read_more (pushed ++ held_back held old) x h s.whole

pub made_state : (old : SendState) (xs : List Item) (x : Item) (blocks free : ℕ) → xs ≡ old.sent ++ x ∷ [] → free ≡ old.free - blocks
    → ◌≡◌ {A = SendState} (record { sent = xs; held = old.held + blocks; free = free; capacity = old.capacity; room = old.room; ring = old.ring }) (record old { sent = old.sent ++ x ∷ []; held = old.held + blocks; free = old.free - blocks })
made_state old xs x blocks free e f = rw (e, f) refl

-- ---- stop markers

pub one_block : (m : MarkParts) → cost (Marker m) ≡ 1
unfolding bytes_of
one_block m = refl

pub marker_bytes : (m : MarkParts) → length (bytes_of (Marker m)) ≡ 8
unfolding bytes_of
marker_bytes m = refl

pub first_state : (ys : List Item) (free capacity room r : ℕ) (ring : RingName) → ys ≡ [] → room ≡ r
    → ◌≡◌ {A = SendState} (record { sent = ys; held = 0; free = free - 0; capacity = capacity; room = room; ring = ring }) (record { sent = []; held = 0; free = free; capacity = capacity; room = r; ring = ring })
first_state ys free capacity room r ring e f =
    let same : free - 0 ≡ free = omega arith in
    rw (e, f, same) refl
