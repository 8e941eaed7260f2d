-- What MDF finds in a record.
use Rattle.std.proofs.Common.{◌≡◌, ℕ, zero, suc, ◌+◌, ◌-◌, ◌*◌, ◌/◌, ◌%◌, ◌^◌, ◌<◌, ◌≤◌, Bool}
use Rattle.std.proofs.Common.{true, false, List, [], ◌∷◌, ◌++◌, ◌∙◌, All, Some, None, inl}
use Rattle.std.proofs.Common.{⊎_elim, length, take, drop, refl, sym, ap, subst, arith, append_assoc}
use Rattle.std.proofs.Common.{length-append, length-drop}
use Rattle.std.proofs.Math.Nat.{mod-lt}
use Rattle.std.proofs.lemmas.Bool.{false≢true}
use Rattle.std.proofs.lemmas.List.{length-take-le}
use Rattle.std.proofs.lemmas.List.Elements.{All-append, All-cons, All-drop}
use Rattle.std.proofs.lemmas.List.Elements.{All-head, All-nil, All-tail, All-take}
use Rattle.std.specs.Int.{byte_at, bytes_low_first}
use Rattle.std.specs.List.{flat_map}
use Rattle.std.specs.Prelude.{slice_get, slice_range}
use Rattle.measured_values.specs.Encodings.{size_of}
use Rattle.measured_values.specs.Raws.{number_of_bytes, raw_value}
use Rattle.measured_values.specs.declared.byte_order.ByteOrder.{ByteOrder}
use Rattle.measured_values.specs.declared.byte_order.ByteOrder.TheVariants.{MsbFirst, MsbLast}
use Rattle.measured_values.specs.declared.data_type.DataType.{DataType}
use Rattle.measured_values.specs.declared.data_type.DataType.TheVariants as type
use Rattle.measured_values.specs.declared.encoding.Encoding.{Encoding}
use Rattle.measured_values.specs.declared.raw.Raw.{Raw}
use Rattle.mdf_blocks.proofs.BytesLemmas.{be_on, be_on-lt, le, le-lt, number_is}
use Rattle.mdf_blocks.specs.Numbers.{uint64, uint8}
use Rattle.mdf_blocks.specs.ValuePlaces.{bits_at, is_float, raw_at_place}
use Rattle.mdf_blocks.specs.ValuePlaces.{raw_of_bits}
use Rattle.mdf_blocks.specs.declared.value_place.ValuePlace.{ValuePlace}
use Rattle.mdf_groups.proofs.ChannelLemmas.{channel_of}
use Rattle.mdf_groups.proofs.IntegerLemmas.{IsInteger, integer_raw, own_format, own_order}
use Rattle.mdf_groups.proofs.IntegerLemmas.{whole_back}
use Rattle.mdf_groups.proofs.IntegerLemmas.{whole_small}
use Rattle.mdf_groups.proofs.PlaceLemmas.{found_or_own}
use Rattle.mdf_groups.proofs.RecordLemmas.{number_behind, one_of, part_of_sample}
use Rattle.mdf_groups.specs.Laws.{FindsByChannel, FindsEach, column_raw}
use Rattle.mdf_groups.specs.Places.{ColumnLiesIn, IsFound, NeedsOwn, encoding_of, is_signed_raw}
use Rattle.mdf_groups.specs.Places.{own_of, own_place}
use Rattle.mdf_groups.specs.Records.{IsTimeFor, front_len, own_bytes, record_len, record_of}
use Rattle.mdf_groups.specs.Records.{time_bytes, whole_number}
use Rattle.mdf_groups.specs.declared.front.Front.{Front}
use Rattle.mdf_groups.specs.declared.front.Front.TheVariants as front
use Rattle.mdf_groups.specs.declared.own_value.OwnValue.{OwnValue}
use Rattle.mdf_groups.specs.declared.placed_column.PlacedColumn.{PlacedColumn}
use Rattle.mdf_groups.specs.declared.record_time.RecordTime.{RecordTime}
use Rattle.mdf_groups.specs.declared.record_time.RecordTime.TheVariants as time

abbrev pub Byte : ℕ → Type 0
Byte b = b < 256

time_len : (f : Front) (t : RecordTime) → IsTimeFor f t → length (time_bytes t) ≡ front_len f
time_len front.Seconds (time.Seconds x) is = refl
time_len front.Seconds (time.Ticks n) is = absurd (false≢true is)
time_len front.Seconds time.Unknown is = absurd (false≢true is)
time_len front.Ticks (time.Seconds x) is = absurd (false≢true is)
time_len front.Ticks (time.Ticks n) is = refl
time_len front.Ticks time.Unknown is = absurd (false≢true is)
time_len front.Nothing (time.Seconds x) is = absurd (false≢true is)
time_len front.Nothing (time.Ticks n) is = absurd (false≢true is)
time_len front.Nothing time.Unknown is = refl

-- each byte of a number
byte_small : (i n : ℕ) → Byte (byte_at i n)
byte_small zero n = mod-lt n (omega arith)
byte_small (suc i) n = mod-lt (n / 256 ^ suc i) (omega arith)

bytes_small : (i k n : ℕ) → All Byte (bytes_low_first i k n)
bytes_small i zero n = All-nil Byte
bytes_small i (suc k) n =
    All-cons Byte (byte_at i n) (bytes_low_first (suc i) k n) (byte_small i n)
    (bytes_small (suc i) k n)

time_small : (t : RecordTime) → All Byte (time_bytes t)
time_small (time.Seconds x) = bytes_small 0 8 _
time_small (time.Ticks n) = bytes_small 0 8 n
time_small time.Unknown = All-nil Byte

own_small : (sample : List ℕ) (own : List OwnValue) → All Byte (flat_map (own_bytes sample) own)
own_small sample [] = All-nil Byte
own_small sample (v ∷ own) =
    All-append Byte (own_bytes sample v) (flat_map (own_bytes sample) own) (bytes_small 0 8 _)
    (own_small sample own)

own_len : (sample : List ℕ) (own : List OwnValue)
    → length (flat_map (own_bytes sample) own) ≡ 8 * length own
own_len sample [] = refl
own_len sample (v ∷ own) =
    omega (
      arith,
      own_len sample own,
      length-append (own_bytes sample v) (flat_map (own_bytes sample) own),
    )

-- what stands in front of the sample
head_len : (f : Front) (t : RecordTime) (mark : ℕ) → IsTimeFor f t
    → length (time_bytes t ++ uint8 mark) ≡ front_len f + 1
head_len f t mark is =
    omega (arith, time_len f t is, length-append (time_bytes t) (uint8 mark))

record_small : (t : RecordTime) (mark : ℕ) (sample : List ℕ) (own : List OwnValue) → Byte mark
    → All Byte sample → All Byte (record_of own t mark sample)
record_small t mark sample own byte bytes =
    All-append Byte (time_bytes t ++ uint8 mark ++ sample) (flat_map (own_bytes sample) own)
    (All-append Byte (time_bytes t ++ uint8 mark) sample
    (All-append Byte (time_bytes t) (uint8 mark) (time_small t)
    (All-cons Byte mark [] byte (All-nil Byte))) bytes)
    (own_small sample own)

pub record_is_long : (f : Front) (len : ℕ) (t : RecordTime) (mark : ℕ) (sample : List ℕ)
    (own : List OwnValue) → IsTimeFor f t → length sample ≡ len
    → length (record_of own t mark sample) ≡ record_len f len (length own)
record_is_long f len t mark sample own is long =
    omega (
      arith,
      long,
      head_len f t mark is,
      own_len sample own,
      length-append (time_bytes t ++ uint8 mark) sample,
      length-append (time_bytes t ++ uint8 mark ++ sample) (flat_map (own_bytes sample) own),
    )

-- a value that stands among the sample's bytes
found_in_record : (f : Front) (len : ℕ) (t : RecordTime) (mark : ℕ) (sample : List ℕ)
    (own : List OwnValue) (c : PlacedColumn) (p : ValuePlace) → IsTimeFor f t → Byte mark
    → All Byte sample → length sample ≡ len → ColumnLiesIn len c → IsFound f c p
    → raw_at_place p (record_of own t mark sample) ≡ column_raw c sample
found_in_record f len t mark sample own c p is byte bytes long inside found =
    let size : ℕ = size_of (encoding_of c).data_type in
    let head = head_len f t mark is in
    let whole = record_is_long f len t mark sample own is long in
    found (record_of own t mark sample) (record_small t mark sample own byte bytes)
    (omega (arith, whole, inside))
    ∙ ap (raw_value (encoding_of c))
    (part_of_sample (time_bytes t ++ uint8 mark) sample (flat_map (own_bytes sample) own)
    (front_len f + 1) c.at size head (omega (arith, inside, long)))

-- the number of the bytes of a value
number_small : (order : ByteOrder) (size : ℕ) (bytes : List ℕ) → 0 < size
    → size ≤ length bytes → All Byte bytes → number_of_bytes order size bytes < 256 ^ size
number_small MsbLast size bytes some inside all =
    subst (λ (n : ℕ). n < 256 ^ size) (sym (number_is MsbLast bytes size some inside))
    (subst (λ (k : ℕ). le (take size bytes) < 256 ^ k) (length-take-le size bytes inside)
    (le-lt (take size bytes) (All-take Byte size bytes all)))
number_small MsbFirst size bytes some inside all =
    subst (λ (n : ℕ). n < 256 ^ size) (sym (number_is MsbFirst bytes size some inside))
    (subst (λ (k : ℕ). be_on 0 (take size bytes) < 256 ^ k) (length-take-le size bytes inside)
    (be_on-lt (take size bytes) (All-take Byte size bytes all)))

size_some : (t : DataType) → 0 < size_of t
size_some type.UByte = omega arith
size_some type.SByte = omega arith
size_some type.UWord = omega arith
size_some type.SWord = omega arith
size_some type.ULong = omega arith
size_some type.SLong = omega arith
size_some type.AUint64 = omega arith
size_some type.AInt64 = omega arith
size_some type.Float16 = omega arith
size_some type.Float32 = omega arith
size_some type.Float64 = omega arith

-- a value that needs a place of its own is an integer
no_float : (c : PlacedColumn) → NeedsOwn c → is_float (encoding_of c).data_type ≡ false
no_float c needs = by (is_float (encoding_of c).data_type) refl
  where
    by : (b : Bool) → is_float (encoding_of c).data_type ≡ b → b ≡ false
    by true e = absurd (needs (inl e))
    by false e = refl

own_integer : (c : PlacedColumn) (sample : List ℕ) → NeedsOwn c → All Byte sample
    → ColumnLiesIn (length sample) c
    → IsInteger (is_signed_raw (encoding_of c)) (column_raw c sample)
own_integer c sample needs bytes inside =
    let e : Encoding = encoding_of c in
    let size : ℕ = size_of e.data_type in
    let width : c.at + size - c.at ≡ size = omega arith in
    let part : List ℕ = slice_range sample c.at (c.at + size) in
    let long : size ≤ length part =
    omega (
      arith,
      width,
      inside,
      length-drop c.at sample,
      length-take-le (c.at + size - c.at) (drop c.at sample)
          (omega (arith, inside, length-drop c.at sample)),
    ) in
    integer_raw e.operation e.data_type e.mask (number_of_bytes e.order size part)
    (no_float c needs)
    (number_small e.order size part (size_some e.data_type) long
    (All-take Byte (c.at + size - c.at) (drop c.at sample) (All-drop Byte c.at sample bytes)))

-- the bits of the number that stands behind others
own_bits : (front back : List ℕ) (at n : ℕ) → length front ≡ at → n < 2 ^ 64
    → bits_at MsbLast at 0 64 (front ++ (uint64 n ++ back)) ≡ n
own_bits front back at n long small =
    ap (λ (m : ℕ). m / 2 ^ 0 % 2 ^ 64) (number_behind front back at n long small)
    ∙ omega (arith, small)

own_at_place : (f : Front) (len : ℕ) (e : Encoding) (k : ℕ) (bytes : List ℕ)
    → raw_at_place (own_place f len e k) bytes
    ≡ raw_of_bits (own_format (is_signed_raw e)) 64
    (bits_at MsbLast (record_len f len k) 0 64 bytes)
own_at_place f len e k bytes =
    ap (λ (o : ByteOrder). raw_of_bits (own_format (is_signed_raw e)) 64
    (bits_at o (record_len f len k) 0 64 bytes)) (own_order (is_signed_raw e))

-- a value that stands behind the sample's bytes
own_in_record : (f : Front) (len : ℕ) (t : RecordTime) (mark : ℕ) (sample : List ℕ)
    (own : List OwnValue) (c : PlacedColumn) (k : ℕ) → IsTimeFor f t
    → All Byte sample → length sample ≡ len → ColumnLiesIn len c → NeedsOwn c
    → slice_get own k ≡ Some (own_of c)
    → raw_at_place (own_place f len (encoding_of c) k) (record_of own t mark sample)
    ≡ column_raw c sample
own_in_record f len t mark sample own c k is bytes long inside needs there =
    let e : Encoding = encoding_of c in
    let b : Bool = is_signed_raw e in
    let r : Raw = column_raw c sample in
    let integer : IsInteger b r =
    own_integer c sample needs bytes (subst (λ (n : ℕ). ColumnLiesIn n c) (sym long) inside) in
    let head : List ℕ = time_bytes t ++ uint8 mark ++ sample in
    let one = one_of sample own k (own_of c) there in
    let n : ℕ = whole_number r in
    let parts : record_of own t mark sample ≡ (head ++ one.before) ++ (uint64 n ++ one.after) =
    ap (λ (zs : List ℕ). head ++ zs) one.parts
    ∙ sym (append_assoc head one.before (uint64 n ++ one.after)) in
    let begins : length (head ++ one.before) ≡ record_len f len k =
    omega (
      arith,
      long,
      one.long,
      head_len f t mark is,
      length-append (time_bytes t ++ uint8 mark) sample,
      length-append head one.before,
    ) in
    own_at_place f len e k (record_of own t mark sample)
    ∙ ap (λ (zs : List ℕ). raw_of_bits (own_format b) 64
    (bits_at MsbLast (record_len f len k) 0 64 zs)) parts
    ∙ ap (raw_of_bits (own_format b) 64)
    (own_bits (head ++ one.before) one.after (record_len f len k) n begins
    (whole_small b r integer))
    ∙ whole_back b r integer

column_at : (len : ℕ) (columns : List PlacedColumn) (i : ℕ) (c : PlacedColumn)
    → All (ColumnLiesIn len) columns → slice_get columns i ≡ Some c → ColumnLiesIn len c
column_at len [] i c all is = let e : None ≡ Some c = is in absurd cc
column_at len (d ∷ columns) zero c all is =
    let some : Some d ≡ Some c = is in
    let same : d ≡ c = cc in
    subst (ColumnLiesIn len) same (All-head (ColumnLiesIn len) d columns all)
column_at len (d ∷ columns) (suc i) c all is =
    column_at len columns i c (All-tail (ColumnLiesIn len) d columns all) is

pub finds_each : FindsEach
finds_each form columns at mark sample i c p placed inside is byte bytes long at_c at_p =
    let len : ℕ = form.sample_bytes in
    let lies : ColumnLiesIn len c = column_at len columns i c inside at_c in
    ⊎_elim
    (λ (h : IsFound form.front c p).
    found_in_record form.front len at mark sample form.own c p is byte bytes long lies h)
    (λ (h : (k : ℕ) × NeedsOwn c × (slice_get form.own k ≡ Some (own_of c))
    × (p ≡ own_place form.front len (encoding_of c) (0 + k))).
    subst (λ (q : ValuePlace). raw_at_place q (record_of form.own at mark sample)
    ≡ column_raw c sample)
    (sym (h.3 ∙ ap (own_place form.front len (encoding_of c)) (omega arith)))
    (own_in_record form.front len at mark sample form.own c h.0 is bytes long lies h.1 h.2))
    (found_or_own form.front len 0 columns form.places form.own i c p placed at_c at_p)

pub finds_by_channel : FindsByChannel
finds_by_channel form columns channels at mark sample i c t placed inside are is byte bytes long
    at_c at_t =
    let channel = channel_of form columns channels i t are at_t in
    ap (λ (p : ValuePlace). raw_at_place p (record_of form.own at mark sample)) channel.same
    ∙ finds_each form columns at mark sample i c channel.place placed inside is byte bytes long at_c
    channel.there
