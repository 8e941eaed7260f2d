-- The sample that is read off packets that fit: it is one of the list, and these are its packets.
use Rattle.std.proofs.Common.{Bool, true, false, if◌then◌else◌, ◌==◌, ◌&&◌, nat_le, nat_lt, ◌≡◌, ℕ, zero, suc, ◌+◌, ◌*◌, ◌^◌, ◌<◌, ◌≤◌, List, [], ◌∷◌, ◌++◌, length, get_or, map, take, drop, replicate, refl, sym, ap, ◌∙◌, arith, length-append, length-drop, length-take, Some, None}
use Rattle.std.specs.Prelude.{All, slice_index}
use Rattle.std.proofs.Math.ListN.{drop_of_length-le}
use Rattle.std.proofs.Math.Seq.{drop-append-add, drop-append_seam}
use Rattle.std.proofs.lemmas.Bool.Decides.{nat_tests}
use Rattle.std.proofs.lemmas.List.{append-nil, ext_get_or, get_or-map, get_or-take, length-map, length-replicate, take-append-drop}
use Rattle.std.proofs.lemmas.List.Elements.{All-drop, All-head, All-nil, All-tail, All-take}
use Rattle.std.proofs.lemmas.List.FromFn.{get_or-map-range_with_len, length-map-range_with_len}
use Rattle.xcp_base.specs.declared.stamp_size.StampSize.{StampSize}
use Rattle.xcp_base.specs.Forms.{field_len, stamp_bytes, stamp_field}
use Rattle.xcp_base.specs.Packets.{stamp_len}
use Rattle.xcp_base.proofs.FormLemmas.{length-id_field}
use Rattle.copy_plan.specs.Config.{IsPlan, ListPlan, elements_len, odt}
use Rattle.copy_plan.specs.Pids.{field, pid}
use Rattle.daq_reader.specs.Recorded.{AreOf, Begin, FitsStamp, IsRecorded, elements_part, packet_of, packets_of, sizes_of, stamp_part}
use Rattle.daq_reader.specs.Inner.Cut.{cut, data_in, elements_in, head_len, overload_in, recorded_in, stamp_bytes_in, stamp_in, ticks_of}
use Rattle.daq_reader.specs.Inner.Fitting.{FitInOrder, Fits, HasBytes, HaveBytes}
use Rattle.daq_reader.proofs.CutLemmas.{joined, joined-cut, sizes, sizes-cut, stamp_field-ticks_of, ticks_of-fits}
use Rattle.daq_reader.proofs.BeginLemmas.{get-packets_of, length-packets_of}

-- the bytes of the elements are as many as the ODT has
length-data : (plan : ListPlan) (k : ℕ) (q : List ℕ) → Fits plan k q → length (drop (head_len plan k) q) ≡ elements_len plan k
length-data plan k q h =
    omega (arith, h.len, ap length h.is, length-append (field plan k h.overload) h.rest, length-id_field plan.form.id plan.first_pid plan.list k h.overload, length-drop (head_len plan k) q)

length-either : (plan : ListPlan) (qs : List (List ℕ)) (k : ℕ) (b : Bool) → nat_lt k (length qs) ≡ b → FitInOrder plan qs → length (if b then drop (head_len plan k) (get_or qs k []) else replicate (elements_len plan k) 0) ≡ elements_len plan k
length-either plan qs k true is h =
    let here : k < length qs = grind (arith, nat_tests) in
    length-data plan k (get_or qs k []) (h.each k here)
length-either plan qs k false is h = length-replicate (elements_len plan k) 0

length-data_in : (plan : ListPlan) (qs : List (List ℕ)) (k : ℕ) → FitInOrder plan qs → length (data_in plan qs k) ≡ elements_len plan k
length-data_in plan qs k h = length-either plan qs k (nat_lt k (length qs)) refl h

pub data_here : (plan : ListPlan) (qs : List (List ℕ)) (k : ℕ) → k < length qs → data_in plan qs k ≡ drop (head_len plan k) (get_or qs k [])
data_here plan qs k here =
    let test : nat_lt k (length qs) ≡ true = grind (arith, nat_tests) in
    ap (λ b. if b then drop (head_len plan k) (get_or qs k []) else replicate (elements_len plan k) 0) test

-- the elements of ODT k
pub get-elements_in : (plan : ListPlan) (qs : List (List ℕ)) (k : ℕ) → k < length plan.odts → get_or (elements_in plan qs) k [] ≡ cut (odt plan k) (data_in plan qs k)
get-elements_in plan qs k here = get_or-map-range_with_len (λ (k : ℕ). cut (odt plan k) (data_in plan qs k)) 0 (length plan.odts) k k [] here (omega arith)

pub length-elements_in : (plan : ListPlan) (qs : List (List ℕ)) → length (elements_in plan qs) ≡ length plan.odts
length-elements_in plan qs = length-map-range_with_len (λ (k : ℕ). cut (odt plan k) (data_in plan qs k)) 0 (length plan.odts)

abbrev lengths : List (List ℕ) → List ℕ
lengths bs = map length bs

-- each entry has its bytes
sizes_are : (plan : ListPlan) (qs : List (List ℕ)) → FitInOrder plan qs → map lengths (elements_in plan qs) ≡ sizes_of plan
sizes_are plan qs h =
    let count : length (map lengths (elements_in plan qs)) ≡ length plan.odts = length-map (elements_in plan qs) lengths ∙ length-elements_in plan qs in
    ext_get_or [] (map lengths (elements_in plan qs)) (sizes_of plan) (count ∙ sym (length-map plan.odts sizes)) (λ k l.
    let here : k < length plan.odts = omega (arith, l, count) in
    let inside : k < length (elements_in plan qs) = omega (arith, here, length-elements_in plan qs) in
    get_or-map lengths (elements_in plan qs) k [] [] inside
    ∙ ap lengths (get-elements_in plan qs k here)
    ∙ sizes-cut (odt plan k) (data_in plan qs k) (length-data_in plan qs k h)
    ∙ sym (get_or-map sizes plan.odts k [] [] here))

small_at : (xs : List ℕ) (i : ℕ) → All (λ (b : ℕ). b < 256) xs → get_or xs i 0 < 256
small_at [] i h = omega arith
small_at (x ∷ xs) zero h = All-head (λ (b : ℕ). b < 256) x xs h
small_at (x ∷ xs) (suc i) h = small_at xs i (All-tail (λ (b : ℕ). b < 256) x xs h)

first_small : (qs : List (List ℕ)) → HaveBytes qs → All (λ (b : ℕ). b < 256) (get_or qs 0 [])
first_small [] h = All-nil (λ (b : ℕ). b < 256)
first_small (q ∷ qs) h = All-head HasBytes q qs h

-- the bytes of the timestamp are bytes
stamp_small : (plan : ListPlan) (qs : List (List ℕ)) → HaveBytes qs → (i : ℕ) → get_or (stamp_bytes_in plan qs) i 0 < 256
stamp_small plan qs h i =
    let byte = λ (b : ℕ). b < 256 in
    let behind : All (λ (b : ℕ). b < 256) (drop (field_len plan.form.id) (get_or qs 0 [])) = All-drop (λ (b : ℕ). b < 256) (field_len plan.form.id) (get_or qs 0 []) (first_small qs h) in
    small_at (stamp_bytes_in plan qs) i (All-take (λ (b : ℕ). b < 256) (stamp_bytes plan.form.stamp) (drop (field_len plan.form.id) (get_or qs 0 [])) behind)

fits_if : (size : StampSize) (stamped : Bool) (n : ℕ) → n < 2 ^ (8 * stamp_bytes size) → FitsStamp size stamped (if stamped then Some n else None)
fits_if size true n h = h
fits_if size false n h = tt

-- it is a sample of the list
pub is_recorded : (plan : ListPlan) (qs : List (List ℕ)) → FitInOrder plan qs → HaveBytes qs → IsRecorded plan (recorded_in plan qs)
is_recorded plan qs h are = record {
  stamp = fits_if plan.form.stamp plan.stamped (ticks_of plan.form.stamp (stamp_bytes_in plan qs)) (ticks_of-fits plan.form.stamp (stamp_bytes_in plan qs) (stamp_small plan qs are));
  elements = sizes_are plan qs h;
}

at_first : (size : StampSize) (n : ℕ) (rest : List ℕ) (v : Bool) → (v ≡ true → stamp_field size n ≡ take (stamp_bytes size) rest) → (if v then stamp_field size n else []) ≡ take (if v && true then stamp_bytes size else 0) rest
at_first size n rest true h = h refl
at_first size n rest false h = refl

no_stamp : (size : StampSize) (rest : List ℕ) (v : Bool) → [] ≡ take (if v && false then stamp_bytes size else 0) rest
no_stamp size rest true = refl
no_stamp size rest false = refl

-- the timestamp stands in front of what follows the identification field
stamp_front : (size : StampSize) (stamped : Bool) (k n : ℕ) (rest : List ℕ) → ((k == 0) ≡ true → stamped ≡ true → stamp_field size n ≡ take (stamp_bytes size) rest) → stamp_part size k (if stamped then Some n else None) ≡ take (stamp_len size stamped k) rest
stamp_front size true k n rest h = at_first size n rest (k == 0) (λ e. h e refl)
stamp_front size false k n rest h = no_stamp size rest (k == 0)

is_zero : (k : ℕ) → (k == 0) ≡ true → k ≡ 0
is_zero k h = grind (arith, nat_tests)

-- what follows the identification field
behind_field : (plan : ListPlan) (k : ℕ) (q : List ℕ) (h : Fits plan k q) → drop (field_len plan.form.id) q ≡ h.rest
behind_field plan k q h =
    ap (drop (field_len plan.form.id)) h.is
    ∙ ap (λ n. drop n (field plan k h.overload ++ h.rest)) (sym (length-id_field plan.form.id plan.first_pid plan.list k h.overload))
    ∙ drop-append_seam (field plan k h.overload) h.rest

-- and what follows the timestamp
behind_stamp : (plan : ListPlan) (k : ℕ) (q : List ℕ) (h : Fits plan k q) → drop (head_len plan k) q ≡ drop (stamp_len plan.form.stamp plan.stamped k) h.rest
behind_stamp plan k q h =
    ap (drop (head_len plan k)) h.is
    ∙ ap (λ n. drop (n + stamp_len plan.form.stamp plan.stamped k) (field plan k h.overload ++ h.rest)) (sym (length-id_field plan.form.id plan.first_pid plan.list k h.overload))
    ∙ drop-append-add (field plan k h.overload) h.rest (stamp_len plan.form.stamp plan.stamped k)

stamped_len : (size : StampSize) (stamped : Bool) (k : ℕ) → (k == 0) ≡ true → stamped ≡ true → stamp_len size stamped k ≡ stamp_bytes size
stamped_len size stamped k first is = rw (first, is)

length-front : (n : ℕ) (bytes : List ℕ) → n ≤ length bytes → length (take n bytes) ≡ n
length-front n bytes h = simp length-take (omega arith)

-- the timestamp that was read is written as it was
stamp_is : (plan : ListPlan) (qs : List (List ℕ)) (k : ℕ) (h : Fits plan k (get_or qs k [])) → HaveBytes qs → (k == 0) ≡ true → plan.stamped ≡ true → stamp_field plan.form.stamp (ticks_of plan.form.stamp (stamp_bytes_in plan qs)) ≡ take (stamp_bytes plan.form.stamp) h.rest
stamp_is plan qs k h are first is =
    let same : take (stamp_bytes plan.form.stamp) (drop (field_len plan.form.id) (get_or qs 0 [])) ≡ take (stamp_bytes plan.form.stamp) h.rest
    = ap (λ i. take (stamp_bytes plan.form.stamp) (drop (field_len plan.form.id) (get_or qs i []))) (sym (is_zero k first)) ∙ ap (take (stamp_bytes plan.form.stamp)) (behind_field plan k (get_or qs k []) h) in
    let long : length (stamp_bytes_in plan qs) ≡ stamp_bytes plan.form.stamp
    = ap length same ∙ length-front (stamp_bytes plan.form.stamp) h.rest (omega (arith, h.len, stamped_len plan.form.stamp plan.stamped k first is)) in
    stamp_field-ticks_of plan.form.stamp (stamp_bytes_in plan qs) long (stamp_small plan qs are) ∙ same

-- what follows the identification field is the timestamp and the elements
rest_is : (plan : ListPlan) (qs : List (List ℕ)) (k : ℕ) (h : Fits plan k (get_or qs k [])) → FitInOrder plan qs → HaveBytes qs → k < length qs → stamp_part plan.form.stamp k (stamp_in plan qs) ++ elements_part (recorded_in plan qs) k ≡ h.rest
rest_is plan qs k h fit are here =
    let there : k < length plan.odts = omega (arith, here, fit.few) in
    let part : List ℕ = stamp_part plan.form.stamp k (stamp_in plan qs) in
    let sl : ℕ = stamp_len plan.form.stamp plan.stamped k in
    let front : part ≡ take sl h.rest = stamp_front plan.form.stamp plan.stamped k (ticks_of plan.form.stamp (stamp_bytes_in plan qs)) h.rest (stamp_is plan qs k h are) in
    let back : elements_part (recorded_in plan qs) k ≡ drop sl h.rest
    = ap joined (get-elements_in plan qs k there) ∙ joined-cut (odt plan k) (data_in plan qs k) (length-data_in plan qs k fit) ∙ data_here plan qs k here ∙ behind_stamp plan k (get_or qs k []) h in
    ap (λ xs. xs ++ elements_part (recorded_in plan qs) k) front ∙ ap (λ xs. take sl h.rest ++ xs) back ∙ take-append-drop sl h.rest

marks : (f : ℕ) (o : Bool) → f < 128 → nat_le 128 (f + 0 + (if o then 128 else 0)) ≡ o
marks f true h = grind (arith, nat_tests)
marks f false h = grind (arith, nat_tests)

-- the overload indication stands in ODT 0 alone
other_field : (plan : ListPlan) (k : ℕ) (a b : Bool) → (k == 0) ≡ false → field plan k a ≡ field plan k b
other_field plan k a b h = rw h

first_byte : (plan : ListPlan) (k : ℕ) (q : List ℕ) (h : Fits plan k q) → slice_index q 0 ≡ pid plan k h.overload
first_byte plan k q h = ap (λ xs. slice_index xs 0) h.is

first_overload : (plan : ListPlan) (qs : List (List ℕ)) (h : Fits plan 0 (get_or qs 0 [])) → IsPlan plan → overload_in qs ≡ h.overload
first_overload plan qs h is = ap (nat_le 128) (first_byte plan 0 (get_or qs 0 []) h) ∙ marks plan.first_pid h.overload (omega (arith, is.pids))

at_zero : (plan : ListPlan) (qs : List (List ℕ)) (k : ℕ) (h : Fits plan k (get_or qs k [])) → IsPlan plan → k ≡ 0 → overload_in qs ≡ h.overload
at_zero plan qs zero h is e = first_overload plan qs h is
at_zero plan qs (suc k) h is e = absurd (omega (arith, e))

field_is : (plan : ListPlan) (qs : List (List ℕ)) (k : ℕ) (h : Fits plan k (get_or qs k [])) (b : Bool) → IsPlan plan → (k == 0) ≡ b → field plan k (overload_in qs) ≡ field plan k h.overload
field_is plan qs k h true is e = ap (field plan k) (at_zero plan qs k h is (is_zero k e))
field_is plan qs k h false is e = other_field plan k (overload_in qs) h.overload e

-- each packet is that of the sample
packet_is : (plan : ListPlan) (qs : List (List ℕ)) (k : ℕ) → IsPlan plan → FitInOrder plan qs → HaveBytes qs → k < length qs → packet_of plan (recorded_in plan qs) k ≡ get_or qs k []
unfolding packet_of
packet_is plan qs k is fit are here =
    let h : Fits plan k (get_or qs k []) = fit.each k here in
    ap (λ xs. field plan k (overload_in qs) ++ xs) (rest_is plan qs k h fit are here)
    ∙ ap (λ xs. xs ++ h.rest) (field_is plan qs k h (k == 0) is refl)
    ∙ sym h.is

front_is : (qs ps : List (List ℕ)) → length qs ≤ length ps → ((k : ℕ) → k < length qs → get_or ps k [] ≡ get_or qs k []) → qs ++ drop (length qs) ps ≡ ps
front_is qs ps few each =
    let size : length (take (length qs) ps) ≡ length qs = simp length-take (omega arith) in
    let front : take (length qs) ps ≡ qs = ext_get_or [] (take (length qs) ps) qs size (λ k l.
    let here : k < length qs = omega (arith, l, size) in
    get_or-take (length qs) ps k [] here ∙ each k here) in
    ap (λ xs. xs ++ drop (length qs) ps) (sym front) ∙ take-append-drop (length qs) ps

packets_front : (plan : ListPlan) (qs : List (List ℕ)) → IsPlan plan → FitInOrder plan qs → HaveBytes qs → qs ++ drop (length qs) (packets_of plan (recorded_in plan qs)) ≡ packets_of plan (recorded_in plan qs)
packets_front plan qs is fit are =
    let count = length-packets_of plan (recorded_in plan qs) in
    front_is qs (packets_of plan (recorded_in plan qs)) (omega (arith, fit.few, count)) (λ k here.
    let there : k < length plan.odts = omega (arith, here, fit.few) in
    get-packets_of plan (recorded_in plan qs) k there ∙ packet_is plan qs k is fit are here)

-- packets that fit begin those of a sample
pub begin : (plan : ListPlan) (qs : List (List ℕ)) → IsPlan plan → FitInOrder plan qs → HaveBytes qs → Begin plan qs
begin plan qs is fit are = record {
  sample = recorded_in plan qs;
  is = is_recorded plan qs fit are;
  front = (drop (length qs) (packets_of plan (recorded_in plan qs)), packets_front plan qs is fit are);
}

-- and where each ODT has its packet, they are those of the sample
pub are_of : (plan : ListPlan) (qs : List (List ℕ)) → IsPlan plan → FitInOrder plan qs → HaveBytes qs → length qs ≡ length plan.odts → AreOf plan (recorded_in plan qs) qs
are_of plan qs is fit are all =
    let none : drop (length qs) (packets_of plan (recorded_in plan qs)) ≡ [] = drop_of_length-le (packets_of plan (recorded_in plan qs)) (omega (arith, all, length-packets_of plan (recorded_in plan qs))) in
    record {
      is = is_recorded plan qs fit are;
      packets = sym (append-nil qs) ∙ ap (λ xs. qs ++ xs) (sym none) ∙ packets_front plan qs is fit are;
    }
