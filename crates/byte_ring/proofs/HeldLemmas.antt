-- How long a record is, what is held of one, and where none is known.
use Rattle.std.proofs.Common.{◌≡◌, ℕ, suc, ◌+◌, ◌-◌, ◌<◌, ◌≤◌, List, [], ◌∷◌, ◌++◌, length, take, drop, get_or, refl, sym, ap, ◌∙◌, append_assoc, append-nil, add-one, arith, length-append, inl, inr}
use Rattle.std.proofs.lemmas.List.{append_cancel_left, drop-drop, drop_more, length-take-le, take-append-le, drop_all, get_or_at, drop_at, take_all}
use Rattle.std.proofs.lemmas.Bool.{cases_lt, le-ltb}
use Rattle.std.proofs.lemmas.List.Elements.{All-head, All-tail}
use Rattle.std.specs.Prelude.{All, nat_lt, min, if◌then◌else◌}
use Rattle.std.proofs.Math.Seq.{drop-append_seam}
use borrow.Rule.Slice.PartMut.{put_mid, post_of}
use Rattle.std.specs.Int.{to_le_bytes, w64}
use Rattle.xcp_base.specs.Bodies.{body_of}
use Rattle.xcp_base.specs.Packets.{IsPacket}
use Rattle.xcp_base.proofs.PacketsLemmas.{length-body_of}
use Rattle.xcp_base.specs.Samples.{MarkParts, SampleParts}
use Rattle.xcp_base.specs.declared.item.Item.{Item}
use Rattle.xcp_base.specs.declared.item.Item.TheVariants.{Sample, Marker}
use Rattle.byte_ring.specs.Records.{IsItem, record_of, records_of}
use Rattle.byte_ring.specs.Reading.{items_in}
use Rattle.byte_ring.specs.Fronts.{seen}
use Rattle.byte_ring.specs.Held.{least, least_body, least_record}
use Rattle.byte_ring.proofs.RecordLemmas.{Reads, eq_test_false, items_in-record, length-number, lt_test, reads}

-- ---- what the code computes

choice_short : (n m k : ℕ) → n < 11 → (if nat_lt n 11 then m else k) ≡ m
choice_short n m k h = rw (lt_test n 11 h) refl

choice_long : (n m k : ℕ) → 11 ≤ n → (if nat_lt n 11 then m else k) ≡ k
choice_long n m k h = rw (le-ltb n 11 h) refl

-- one packet more, whose length is there
pub least_body-there : (n start : ℕ) (bytes : List ℕ) → start < length bytes → start + 1 + get_or bytes start 0 + least_body n (drop (start + 1 + get_or bytes start 0) bytes) ≡ start + least_body (n + 1) (drop start bytes)
unfolding least_body
least_body-there n start bytes h =
    let len : ℕ = get_or bytes start 0 in
    let first : drop start bytes ≡ len ∷ drop (start + 1) bytes = drop_more bytes start 0 h in
    let behind : drop len (drop (start + 1) bytes) ≡ drop (start + 1 + len) bytes = drop-drop len (start + 1) bytes in
    let step : least_body (n + 1) (drop start bytes) ≡ 1 + len + least_body n (drop (start + 1 + len) bytes)
    = rw (add-one, first, behind) refl in
    omega (arith, step)

-- and one whose length isn't
pub least_body-past : (n start : ℕ) (bytes : List ℕ) → length bytes ≤ start → start + 2 + least_body n (drop (start + 2) bytes) ≡ start + least_body (n + 1) (drop start bytes)
unfolding least_body
least_body-past n start bytes h =
    let here : drop start bytes ≡ [] = drop_all start bytes h in
    let there : drop (start + 2) bytes ≡ [] = drop_all (start + 2) bytes (omega (arith, h)) in
    let step : least_body (n + 1) (drop start bytes) ≡ 2 + least_body n (drop (start + 2) bytes)
    = rw (add-one, here, there) refl in
    omega (arith, step)

pub least_body-none : (n : ℕ) (bytes : List ℕ) → n ≡ 0 → least_body n bytes ≡ 0
unfolding least_body
least_body-none n bytes e = rw e refl

pub least-nil : (bytes : List ℕ) → bytes ≡ [] → least bytes ≡ 3
unfolding least_record
least-nil bytes e = rw e refl

pub least-marker : (bytes : List ℕ) → 0 < length bytes → (get_or bytes 0 0 ≡ 1 → ⊥) → least bytes ≡ 3
unfolding least_record
least-marker [] some other = absurd (omega (arith, some))
least-marker (b ∷ bytes) some other = rw (eq_test_false b 1 other) refl

pub least-short : (bytes : List ℕ) → 0 < length bytes → get_or bytes 0 0 ≡ 1 → length bytes < 12 → least bytes ≡ 14
unfolding least_record
least-short [] some kind short = absurd (omega (arith, some))
least-short (b ∷ bytes) some kind short = rw (kind, choice_short (length bytes) 14 (12 + least_body (get_or bytes 10 0) (drop 11 bytes)) (omega (arith, short))) refl

pub least-long : (bytes : List ℕ) → get_or bytes 0 0 ≡ 1 → 12 ≤ length bytes → least bytes ≡ min 532 (12 + least_body (get_or bytes 11 0) (drop 12 bytes))
unfolding least_record
least-long [] kind long = absurd (omega (arith, long))
least-long (b ∷ bytes) kind long = rw (kind, choice_long (length bytes) 14 (12 + least_body (get_or bytes 10 0) (drop 11 bytes)) (omega (arith, long))) refl

-- ---- lists that begin alike

-- one list begins another, or goes on behind it
data Order (xs ys : List ℕ) : Type 0 where
  Front : (more : List ℕ) → ys ≡ xs ++ more → Order xs ys
  Over : (b : ℕ) (more : List ℕ) → xs ≡ ys ++ b ∷ more → Order xs ys

order_then : (a b : ℕ) (xs ys : List ℕ) → a ≡ b → Order xs ys → Order (a ∷ xs) (b ∷ ys)
order_then a b xs ys same (Front more e) = Front more (cc)
order_then a b xs ys same (Over c more e) = Over c more (cc)

-- of two fronts of one list, one begins the other
order : (xs ys x y : List ℕ) → xs ++ x ≡ ys ++ y → Order xs ys
order [] ys x y e = Front ys refl
order (a ∷ xs) [] x y e = Over a xs refl
order (a ∷ xs) (b ∷ ys) x y e =
    let head : a ≡ b = cc in
    let tails : xs ++ x ≡ ys ++ y = cc in
    order_then a b xs ys head (order xs ys x y tails)

-- ---- the length of a whole record

length-sample : (s : SampleParts) → length (record_of (Sample s)) ≡ 12 + length (body_of s.packets)
unfolding record_of
length-sample s = omega (arith, length-append (to_le_bytes w64 s.number) (length s.packets ∷ body_of s.packets), length-number s.number)

marker_within : (m : MarkParts) → length (record_of (Marker m)) ≤ 532
unfolding record_of
marker_within m = omega arith

-- the longest record
pub record_within : (x : Item) → IsItem x → length (record_of x) ≤ 532
record_within (Sample s) h = omega (arith, length-sample s, length-body_of s.packets h.each, h.limit)
record_within (Marker m) h = marker_within m

-- ---- the length of a record, told from a part of it

-- n is more than the bytes of a part where some of a whole are left, and at most those of the whole
record IsPart (p r : List ℕ) (n : ℕ) : Type 0 where
  pub within : n ≤ length p + length r
  pub more : 0 < length r → length p < n

packet_part : (q : List ℕ) (qs : List (List ℕ)) (p r : List ℕ) → ((a b : List ℕ) → a ++ b ≡ body_of qs → IsPart a b (least_body (length qs) a)) → p ++ r ≡ q ++ body_of qs → Order p q → IsPart (length q ∷ p) r (1 + length q + least_body (length qs) (drop (length q) p))
packet_part q qs p r part is (Front more e) =
    let short : length p ≤ length q = omega (arith, ap length e, length-append p more) in
    let none : drop (length q) p ≡ [] = drop_all (length q) p short in
    let i = part [] (body_of qs) refl in
    let size : length p + length r ≡ length q + length (body_of qs) = sym (length-append p r) ∙ ap length is ∙ length-append q (body_of qs) in
    rw none (record {
      within = omega (arith, size, i.within);
      more = λ some. elim (cases_lt (length p) (length q)) [
        | inl fewer ↦ omega (arith, fewer)
        | inr many ↦ omega (arith, short, many, i.more (omega (arith, size, short, many, some)))
      ];
    })
packet_part q qs p r part is (Over b more e) =
    let left : List ℕ = b ∷ more in
    let behind : drop (length q) p ≡ left = ap (drop (length q)) e ∙ drop-append_seam q left in
    let cells : left ++ r ≡ body_of qs = append_cancel_left q (left ++ r) (body_of qs) (sym (append_assoc q left r) ∙ ap (λ l. l ++ r) (sym e) ∙ is) in
    let i = part left r cells in
    let size : length p ≡ length q + length left = ap length e ∙ length-append q left in
    rw behind (record { within = omega (arith, size, i.within); more = λ some. omega (arith, size, i.more some) })

body_part : (qs : List (List ℕ)) (p r : List ℕ) → All IsPacket qs → p ++ r ≡ body_of qs → IsPart p r (least_body (length qs) p)
unfolding least_body body_of
body_part [] p r each is =
    let size : length p + length r ≡ 0 = sym (length-append p r) ∙ ap length is in
    record { within = omega (arith, size); more = λ some. absurd (omega (arith, size, some)) }
body_part (q ∷ qs) [] r each is =
    let i = body_part qs [] (body_of qs) (All-tail IsPacket q qs each) refl in
    let size : length r ≡ 1 + (length q + length (body_of qs)) = omega (arith, ap length is, length-append q (body_of qs)) in
    let some = (All-head IsPacket q qs each).some in
    record { within = omega (arith, size, i.within, some); more = λ _. omega arith }
body_part (q ∷ qs) (l ∷ p) r each is =
    let len : l ≡ length q = cc in
    let cells : p ++ r ≡ q ++ body_of qs = cc in
    rw len (packet_part q qs p r (λ a b e. body_part qs a b (All-tail IsPacket q qs each) e) cells (order p q r (body_of qs) cells))

-- a body has two bytes at least for its first packet
some_body : (qs : List (List ℕ)) → All IsPacket qs → 0 < length qs → 2 ≤ length (body_of qs)
unfolding body_of
some_body [] each some = absurd (omega (arith, some))
some_body (q ∷ qs) each some = omega (arith, (All-head IsPacket q qs each).some, length-append q (body_of qs))

-- what begins with some bytes and is no shorter
split_front : (h b p r : List ℕ) → p ++ r ≡ h ++ b → length h ≤ length p → (left : List ℕ) × (p ≡ h ++ left) × (left ++ r ≡ b)
split_front [] b p r is long = (p, refl, is)
split_front (x ∷ h) b [] r is long = absurd (omega (arith, long))
split_front (x ∷ h) b (y ∷ p) r is long =
    let same : y ≡ x = cc in
    let cells : p ++ r ≡ h ++ b = cc in
    let s = split_front h b p r cells (omega (arith, long)) in
    let e : p ≡ h ++ s.0 = s.1 in
    (s.0, cc, s.2)

marker_part : (m : MarkParts) (p r : List ℕ) → p ++ r ≡ record_of (Marker m) → IsPart p r (least p)
unfolding record_of
marker_part m [] r is =
    let long = least-nil [] refl in
    record { within = omega (arith, long, ap length is); more = λ _. omega (arith, long) }
marker_part m (k ∷ p) r is =
    let kind : k ≡ 2 = cc in
    let long = least-marker (k ∷ p) (omega arith) (λ e. omega (arith, e, kind)) in
    let size : length (k ∷ p) + length r ≡ 3 = sym (length-append (k ∷ p) r) ∙ ap length is in
    record { within = omega (arith, long, size); more = λ some. omega (arith, long, size, some) }

-- a sample's, of which the head is there
long_part : (s : SampleParts) (p r : List ℕ) → IsItem (Sample s) → p ++ r ≡ record_of (Sample s) → get_or p 0 0 ≡ 1 → 12 ≤ length p → IsPart p r (least p)
unfolding record_of
long_part s p r h is kind long =
    let body : List ℕ = body_of s.packets in
    let head : List ℕ = 1 ∷ s.channel ∷ s.list ∷ to_le_bytes w64 s.number in
    let n : ℕ = length s.packets in
    let eleven : length head ≡ 11 = omega (arith, length-number s.number) in
    let twelve : length (head ++ n ∷ []) ≡ 12 = omega (arith, eleven, length-append head (n ∷ [])) in
    let s3 = split_front (head ++ n ∷ []) body p r (is ∙ sym (append_assoc head (n ∷ []) body)) (omega (arith, twelve, long)) in
    let left : List ℕ = s3.0 in
    let is_p : p ≡ (head ++ n ∷ []) ++ left = s3.1 in
    let count : get_or p 11 0 ≡ n = ap (λ (b : List ℕ). get_or b 11 0) (is_p ∙ append_assoc head (n ∷ []) left) ∙ get_or_at head n left 0 11 eleven in
    let behind : drop 12 p ≡ left = ap (drop 12) is_p ∙ drop_at (head ++ n ∷ []) left 12 twelve in
    let value : least p ≡ min 532 (12 + least_body n left) = least-long p kind long ∙ ap (λ m. min 532 (12 + least_body m (drop 12 p))) count ∙ ap (λ l. min 532 (12 + least_body n l)) behind in
    let i = body_part s.packets left r h.each s3.2 in
    let size : length p ≡ 12 + length left = omega (arith, ap length is_p, length-append (head ++ n ∷ []) left, twelve) in
    let whole : length p + length r ≤ 532 = omega (arith, length-append p r, ap length is, record_within (Sample s) h) in
    record { within = omega (arith, value, size, i.within); more = λ some. omega (arith, value, size, whole, some, i.more some) }

-- and where it isn't
short_part : (s : SampleParts) (p r : List ℕ) → IsItem (Sample s) → p ++ r ≡ record_of (Sample s) → 0 < length p → get_or p 0 0 ≡ 1 → length p < 12 → IsPart p r (least p)
short_part s p r h is there kind short =
    let value = least-short p there kind short in
    let size : length p + length r ≡ 12 + length (body_of s.packets) = sym (length-append p r) ∙ ap length is ∙ length-sample s in
    record { within = omega (arith, value, size, some_body s.packets h.each h.some); more = λ _. omega (arith, value, short) }

sample_part : (s : SampleParts) (p r : List ℕ) → IsItem (Sample s) → p ++ r ≡ record_of (Sample s) → IsPart p r (least p)
unfolding record_of
sample_part s [] r h is =
    let long = least-nil [] refl in
    record { within = omega (arith, long, ap length is, length-sample s); more = λ _. omega (arith, long) }
sample_part s (k ∷ p) r h is =
    let kind : k ≡ 1 = cc in
    elim (cases_lt (length (k ∷ p)) 12) [ inl few ↦ short_part s (k ∷ p) r h is (omega arith) kind few | inr many ↦ long_part s (k ∷ p) r h is kind many ]

-- of a part of a record: the least length tells whether more of it is to come, and is within it
record_part : (x : Item) (p r : List ℕ) → IsItem x → p ++ r ≡ record_of x → IsPart p r (least p)
record_part (Sample s) p r h is = sample_part s p r h is
record_part (Marker m) p r h is = marker_part m p r is

-- ---- where no item is read off

has_item : (x : Item) (bytes more : List ℕ) → IsItem x → bytes ≡ record_of x ++ more → items_in bytes ≡ [] → ⊥
has_item x bytes more h is none =
    let found : x ∷ items_in more ≡ [] = sym (items_in-record x more h) ∙ ap items_in (sym is) ∙ none in
    cc

none_from : (bytes : List ℕ) (xs : List Item) → Reads bytes xs → ((x : Item) (more : List ℕ) → IsItem x → bytes ≡ record_of x ++ more → ⊥) → xs ≡ []
none_from bytes [] r other = refl
none_from bytes (x ∷ xs) r other =
    absurd (other x (records_of xs ++ r.rest) (All-head IsItem x xs r.each) (r.is ∙ append_assoc (record_of x) (records_of xs) r.rest))

no_item : (bytes : List ℕ) → ((x : Item) (more : List ℕ) → IsItem x → bytes ≡ record_of x ++ more → ⊥) → items_in bytes ≡ []
no_item bytes other = none_from bytes (items_in bytes) (reads bytes) other

none_left : (x : Item) (p r : List ℕ) → p ++ r ≡ record_of x → (record_of x ≡ p → ⊥) → (0 < length r → ⊥) → ⊥
none_left x p [] is other more = other (sym is ∙ append-nil p)
none_left x p (b ∷ r) is other more = more (omega arith)

-- where no item is held, of the record that stands first all that is held and the next byte is a part
record IsSeen (x : Item) (held ahead : List ℕ) : Type 0 where
  pub rest : List ℕ
  pub is : seen held ahead ++ rest ≡ record_of x

seen_by : (x : Item) (held ahead more : List ℕ) → IsItem x → items_in held ≡ [] → held ++ ahead ≡ record_of x ++ more → Order held (record_of x) → IsSeen x held ahead
seen_by x held ahead more h none is (Front [] e) =
    absurd (has_item x held [] h (sym (append-nil held) ∙ sym e ∙ sym (append-nil (record_of x))) none)
seen_by x held ahead more h none is (Front (b ∷ r) e) =
    let cells : ahead ≡ b ∷ (r ++ more) = append_cancel_left held ahead (b ∷ (r ++ more)) (is ∙ ap (λ l. l ++ more) e ∙ append_assoc held (b ∷ r) more) in
    let one : take 1 ahead ≡ b ∷ [] = ap (λ (l : List ℕ). take 1 l) cells in
    record { rest = r; is = ap (λ l. (held ++ l) ++ r) one ∙ append_assoc held (b ∷ []) r ∙ sym e }
seen_by x held ahead more h none is (Over b r e) = absurd (has_item x held (b ∷ r) h e none)

is_seen : (x : Item) (held ahead more : List ℕ) → IsItem x → items_in held ≡ [] → held ++ ahead ≡ record_of x ++ more → IsSeen x held ahead
is_seen x held ahead more h none is = seen_by x held ahead more h none is (order held (record_of x) ahead more is)

-- what is held and what is there is shorter than any record that begins so
pub too_few : (held ahead : List ℕ) → items_in held ≡ [] → length held + length ahead < least (seen held ahead) → items_in (held ++ ahead) ≡ []
too_few held ahead none few = no_item (held ++ ahead) (λ x more h is.
    let s = is_seen x held ahead more h none is in
    let p = record_part x (seen held ahead) s.rest h s.is in
    omega (arith, few, p.within, length-append (seen held ahead) s.rest, ap length s.is, length-append held ahead, ap length is, length-append (record_of x) more))

-- nor do some bytes of it more make it whole
pub still_part : (held got behind : List ℕ) → items_in held ≡ [] → 1 ≤ length got → length held + length got < least (seen held (got ++ behind)) → items_in (held ++ got) ≡ []
still_part held got behind none some few =
    let same : seen held (got ++ behind) ≡ seen held got = ap (λ l. held ++ l) (take-append-le 1 got behind some) in
    too_few held got none (omega (arith, few, ap least same))

-- what would be a whole record is none
pub no_record : (held ahead : List ℕ) → items_in held ≡ [] → least (seen held ahead) ≤ length (seen held ahead) → ((x : Item) → IsItem x → record_of x ≡ seen held ahead → ⊥) → items_in (held ++ ahead) ≡ []
no_record held ahead none long other = no_item (held ++ ahead) (λ x more h is.
    let s = is_seen x held ahead more h none is in
    let p = record_part x (seen held ahead) s.rest h s.is in
    none_left x (seen held ahead) s.rest s.is (other x h) (λ some. omega (arith, long, p.more some)))

-- ---- pulls

-- ---- what is held

take_over : (p r : List ℕ) (n : ℕ) → take (length p + n) (p ++ r) ≡ p ++ take n r
take_over [] r n = let e : 0 + n ≡ n = omega arith in rw e refl
take_over (x ∷ p) r n =
    let e : suc (length p) + n ≡ suc (length p + n) = omega arith in
    rw e (ap (λ (l : List ℕ). x ∷ l) (take_over p r n))

-- after a write to a part: what stands before its n-th place
pub take-part : (a k n : ℕ) (xs ys : List ℕ) → a ≤ length xs → n ≤ length ys → take (a + n) (put_mid a k xs ys) ≡ take a xs ++ take n ys
take-part a k n xs ys inside few =
    let front : length (take a xs) ≡ a = length-take-le a xs inside in
    ap (λ (m : ℕ). take (m + n) (put_mid a k xs ys)) (sym front)
    ∙ take_over (take a xs) (ys ++ post_of a k xs) n
    ∙ ap (λ (l : List ℕ). take a xs ++ l) (take-append-le n ys (post_of a k xs) few)

-- some bytes more behind those held
pub part-longer : (n k : ℕ) (xs got : List ℕ) → n ≤ length xs → length got ≡ k → take (n + k) (put_mid n k xs got) ≡ take n xs ++ got
part-longer n k xs got inside long =
    take-part n k k xs got inside (omega (arith, long)) ∙ ap (λ l. take n xs ++ l) (take_all k got (omega (arith, long)))

-- of what is known, as much as is there for sure
pub pulls_sure : (n m : ℕ) (known zs got behind : List ℕ) → known ++ zs ≡ got ++ behind → length got ≡ m → m ≤ n → n ≤ length known → take n known ≡ got ++ take (n - m) behind
pulls_sure n m known zs got behind is long few inside =
    let split : n ≡ length got + (n - m) = omega (arith, long, few) in
    sym (take-append-le n known zs inside) ∙ ap (take n) is ∙ ap (λ (k : ℕ). take k (got ++ behind)) split ∙ take_over got behind (n - m)
