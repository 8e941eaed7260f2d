-- Packets are those of one sample at most.
use Rattle.std.proofs.Common.{Bool, true, false, if◌then◌else◌, ◌≡◌, ℕ, ◌+◌, ◌*◌, ◌^◌, ◌<◌, List, [], ◌∷◌, ◌++◌, length, get_or, map, take, drop, refl, sym, ap, ◌∙◌, arith, append_assoc, Option, Some, None, length-append}
use Rattle.std.specs.Prelude.{All, flat_map}
use Rattle.std.proofs.Math.Seq.{drop-append_seam, take-append_seam}
use Rattle.std.proofs.lemmas.List.{ext_get_or, length-map}
use Rattle.std.proofs.lemmas.List.Elements.{All-head, All-tail}
use Rattle.std.proofs.lemmas.Nat.{from_le_bytes-to_le_bytes_2, from_le_bytes-to_le_bytes_4}
use Rattle.xcp_base.specs.declared.stamp_size.StampSize.{StampSize}
use Rattle.xcp_base.specs.declared.stamp_size.StampSize.TheVariants.{One, Two, Four}
use Rattle.xcp_base.specs.Forms.{field_len, stamp_bytes, stamp_field}
use Rattle.xcp_base.proofs.FormLemmas.{length-id_field}
use Rattle.copy_plan.specs.Config.{IsPlan, ListPlan, OdtEntry, odt}
use Rattle.copy_plan.specs.Pids.{field}
use Rattle.daq_reader.specs.Recorded.{FitsStamp, IsRecorded, Recorded, elements_part, packet_of, packets_of, stamp_part}
use Rattle.daq_reader.specs.Laws.{ReadingIsUnique, SampleIsUnique}
use Rattle.daq_reader.specs.Inner.Cut.{cut, ticks_of}
use Rattle.daq_reader.proofs.BeginLemmas.{get-packets_of, length-packets_of}
use Rattle.daq_reader.proofs.CutLemmas.{joined, length-stamp_part, sizes, sizes_at}

-- the pieces of joined bytes are these bytes once more
cut-joined : (es : List OdtEntry) (bs : List (List ℕ)) → map length bs ≡ sizes es → cut es (joined bs) ≡ bs
cut-joined [] [] h = refl
cut-joined [] (b ∷ bs) h = absurd (cc)
cut-joined (e ∷ es) [] h = absurd (cc)
cut-joined (e ∷ es) (b ∷ bs) h =
    let here : e.1 ≡ length b = cc in
    let tail : map length bs ≡ sizes es = cc in
    let front : take e.1 (b ++ joined bs) ≡ b = ap (λ n. take n (b ++ joined bs)) here ∙ take-append_seam b (joined bs) in
    let back : drop e.1 (b ++ joined bs) ≡ joined bs = ap (λ n. drop n (b ++ joined bs)) here ∙ drop-append_seam b (joined bs) in
    ap (λ x. x ∷ cut es (drop e.1 (b ++ joined bs))) front ∙ ap (λ x. b ∷ cut es x) back ∙ ap (λ xs. b ∷ xs) (cut-joined es bs tail)

ticks_of-stamp_field : (size : StampSize) (n : ℕ) → n < 2 ^ (8 * stamp_bytes size) → ticks_of size (stamp_field size n) ≡ n
ticks_of-stamp_field One n h = omega arith
ticks_of-stamp_field Two n h = from_le_bytes-to_le_bytes_2 n h
ticks_of-stamp_field Four n h = from_le_bytes-to_le_bytes_4 n h

pub same_front : {X : Type 0} (a b x y : List X) → length a ≡ length b → a ++ x ≡ b ++ y → (a ≡ b) × (x ≡ y)
same_front [] [] x y h e = (refl, e)
same_front [] (c ∷ b) x y h e = absurd (omega (arith, h))
same_front (c ∷ a) [] x y h e = absurd (omega (arith, h))
same_front (c ∷ a) (d ∷ b) x y h e =
    let first : c ≡ d = cc in
    let tail : a ++ x ≡ b ++ y = cc in
    let rest = same_front a b x y (omega (arith, h)) tail in
    (ap (λ z. z ∷ a) first ∙ ap (λ zs. d ∷ zs) rest.0, rest.1)

-- two samples with the same packet of ODT k
record SameParts (plan : ListPlan) (r s : Recorded) (k : ℕ) : Type 0 where
  field_is : field plan k r.overload ≡ field plan k s.overload
  stamp_is : stamp_part plan.form.stamp k r.stamp ≡ stamp_part plan.form.stamp k s.stamp
  elements_are : elements_part r k ≡ elements_part s k

same_parts : (plan : ListPlan) (r s : Recorded) (k : ℕ) → IsRecorded plan r → IsRecorded plan s → packet_of plan r k ≡ packet_of plan s k → SameParts plan r s k
unfolding packet_of
same_parts plan r s k of_r of_s h =
    let long : (o : Bool) → length (field plan k o) ≡ field_len plan.form.id = λ o. length-id_field plan.form.id plan.first_pid plan.list k o in
    let fields = same_front (field plan k r.overload) (field plan k s.overload) (stamp_part plan.form.stamp k r.stamp ++ elements_part r k) (stamp_part plan.form.stamp k s.stamp ++ elements_part s k) (long r.overload ∙ sym (long s.overload)) h in
    let as_long : length (stamp_part plan.form.stamp k r.stamp) ≡ length (stamp_part plan.form.stamp k s.stamp)
    = length-stamp_part plan.form.stamp plan.stamped k r.stamp of_r.stamp ∙ sym (length-stamp_part plan.form.stamp plan.stamped k s.stamp of_s.stamp) in
    let rest = same_front (stamp_part plan.form.stamp k r.stamp) (stamp_part plan.form.stamp k s.stamp) (elements_part r k) (elements_part s k) as_long fields.1 in
    record { field_is = fields.0; stamp_is = rest.0; elements_are = rest.1 }

same_mark : (f : ℕ) (a b : Bool) → f + 0 + (if a then 128 else 0) ≡ f + 0 + (if b then 128 else 0) → a ≡ b
same_mark f true true h = refl
same_mark f true false h = absurd (omega (arith, h))
same_mark f false true h = absurd (omega (arith, h))
same_mark f false false h = refl

same_overload : (plan : ListPlan) (a b : Bool) → field plan 0 a ≡ field plan 0 b → a ≡ b
same_overload plan a b h = same_mark plan.first_pid a b (ap (λ xs. get_or xs 0 0) h)

same_ticks : (size : StampSize) (stamped : Bool) (t u : Option ℕ) → FitsStamp size stamped t → FitsStamp size stamped u → stamp_part size 0 t ≡ stamp_part size 0 u → t ≡ u
same_ticks size true (Some n) (Some m) a b h = ap (λ x. Some x) (sym (ticks_of-stamp_field size n a) ∙ ap (ticks_of size) h ∙ ticks_of-stamp_field size m b)
same_ticks size true (Some n) None a b h = absurd b
same_ticks size true None u a b h = absurd a
same_ticks size false (Some n) u a b h = absurd a
same_ticks size false None (Some m) a b h = absurd b
same_ticks size false None None a b h = refl

-- the elements of ODT k are cut out of their joined bytes
cut_is : (plan : ListPlan) (r : Recorded) (k : ℕ) → IsRecorded plan r → cut (odt plan k) (elements_part r k) ≡ get_or r.elements k []
cut_is plan r k of = cut-joined (odt plan k) (get_or r.elements k []) (sizes_at r.elements plan.odts k of.elements)

length-elements : (plan : ListPlan) (r : Recorded) → IsRecorded plan r → length r.elements ≡ length plan.odts
length-elements plan r of = sym (length-map r.elements (λ (bs : List (List ℕ)). map length bs)) ∙ ap length of.elements ∙ length-map plan.odts sizes

same_at : (plan : ListPlan) (r s : Recorded) (k : ℕ) → packets_of plan r ≡ packets_of plan s → k < length plan.odts → packet_of plan r k ≡ packet_of plan s k
same_at plan r s k h here = sym (get-packets_of plan r k here) ∙ ap (λ ps. get_or ps k []) h ∙ get-packets_of plan s k here

-- samples with the same packets are the same
pub same_sample : (plan : ListPlan) (r s : Recorded) → IsPlan plan → IsRecorded plan r → IsRecorded plan s → packets_of plan r ≡ packets_of plan s → r ≡ s
same_sample plan r s is of_r of_s h =
    let first : SameParts plan r s 0 = same_parts plan r s 0 of_r of_s (same_at plan r s 0 h is.some) in
    let mark : r.overload ≡ s.overload = same_overload plan r.overload s.overload first.field_is in
    let ticks : r.stamp ≡ s.stamp = same_ticks plan.form.stamp plan.stamped r.stamp s.stamp of_r.stamp of_s.stamp first.stamp_is in
    let bytes : r.elements ≡ s.elements = ext_get_or [] r.elements s.elements (length-elements plan r of_r ∙ sym (length-elements plan s of_s)) (λ k l.
    let here : k < length plan.odts = omega (arith, l, length-elements plan r of_r) in
    let parts : SameParts plan r s k = same_parts plan r s k of_r of_s (same_at plan r s k h here) in
    sym (cut_is plan r k of_r) ∙ ap (cut (odt plan k)) parts.elements_are ∙ cut_is plan s k of_s) in
    ap (λ x. record { overload = x; stamp = r.stamp; elements = r.elements }) mark
    ∙ ap (λ x. record { overload = s.overload; stamp = x; elements = r.elements }) ticks
    ∙ ap (λ x. record { overload = s.overload; stamp = s.stamp; elements = x }) bytes

pub sample_is_unique : SampleIsUnique
sample_is_unique plan r s qs is a b = same_sample plan r s is a.is b.is (sym a.packets ∙ b.packets)

length-first : (plan : ListPlan) (r : Recorded) (more : List (List ℕ)) → length (packets_of plan r ++ more) ≡ length plan.odts + length more
length-first plan r more = length-append (packets_of plan r) more ∙ ap (λ n. n + length more) (length-packets_of plan r)

abbrev all_packets : ListPlan → List Recorded → List (List ℕ)
all_packets plan rs = flat_map (packets_of plan) rs

same_samples : (plan : ListPlan) (rs ss : List Recorded) (xs ys : List (List ℕ)) → IsPlan plan → All (IsRecorded plan) rs → All (IsRecorded plan) ss → length xs < length plan.odts → length ys < length plan.odts → all_packets plan rs ++ xs ≡ all_packets plan ss ++ ys → (rs ≡ ss) × (xs ≡ ys)
same_samples plan [] [] xs ys is a b few fewer h = (refl, h)
same_samples plan [] (s ∷ ss) xs ys is a b few fewer h =
    let whole : xs ≡ packets_of plan s ++ (all_packets plan ss ++ ys) = h ∙ append_assoc (packets_of plan s) (all_packets plan ss) ys in
    absurd (omega (arith, few, ap length whole, length-first plan s (all_packets plan ss ++ ys)))
same_samples plan (r ∷ rs) [] xs ys is a b few fewer h =
    let whole : packets_of plan r ++ (all_packets plan rs ++ xs) ≡ ys = sym (append_assoc (packets_of plan r) (all_packets plan rs) xs) ∙ h in
    absurd (omega (arith, fewer, ap length whole, length-first plan r (all_packets plan rs ++ xs)))
same_samples plan (r ∷ rs) (s ∷ ss) xs ys is a b few fewer h =
    let whole : packets_of plan r ++ (all_packets plan rs ++ xs) ≡ packets_of plan s ++ (all_packets plan ss ++ ys)
    = sym (append_assoc (packets_of plan r) (all_packets plan rs) xs) ∙ h ∙ append_assoc (packets_of plan s) (all_packets plan ss) ys in
    let parts = same_front (packets_of plan r) (packets_of plan s) (all_packets plan rs ++ xs) (all_packets plan ss ++ ys) (length-packets_of plan r ∙ sym (length-packets_of plan s)) whole in
    let first : r ≡ s = same_sample plan r s is (All-head (IsRecorded plan) r rs a) (All-head (IsRecorded plan) s ss b) parts.0 in
    let rest = same_samples plan rs ss xs ys is (All-tail (IsRecorded plan) r rs a) (All-tail (IsRecorded plan) s ss b) few fewer parts.1 in
    (ap (λ x. x ∷ rs) first ∙ ap (λ x. s ∷ x) rest.0, rest.1)

pub reading_is_unique : ReadingIsUnique
reading_is_unique plan rs ss xs ys qs is a b = same_samples plan rs ss xs ys is a.each b.each a.torn b.torn (sym a.whole ∙ b.whole)
