-- The frames of a sample: how long they are, and how one is laid out.
use Rattle.std.proofs.Common.{◌≡◌, ℕ, zero, suc, ◌+◌, ◌-◌, ◌*◌, ◌/◌, ◌%◌, ◌<◌, ◌≤◌, Bool, List, [], ◌∷◌, ◌++◌, length, map, take, drop, refl, sym, ap, ◌∙◌, arith, append_assoc, append-nil, length-append}
use Rattle.std.proofs.lemmas.List.{drop-take, drop_at, length-map, length-take, take-append-le, take-take}
use Rattle.std.proofs.lemmas.List.FromFn.{map-range_with_len_more}
use Rattle.std.proofs.Math.Seq.{take-add}
use Rattle.std.specs.Int.{to_le_bytes, w32}
use Rattle.std.specs.List.{range_with_len, sum_by}
use Rattle.xcp_base.specs.Packets.{packet_len}
use Rattle.xcp_base.specs.declared.limits.TheConstants.{MAX_PACKET}
use Rattle.segments.specs.declared.segment.Segment.{Segment}
use Rattle.frame_writer.specs.Frame.{frame, two_bytes, unnumbered}
use Rattle.daq_store.specs.Configuration.{Configuration, channel_of, entries_len, is_stamped, odt_entries}
use Rattle.copy_plan.specs.Config.{IsPlan, ListPlan, OdtEntry, elements_len, plan_of, written_entries}
use Rattle.copy_plan.specs.Frames.{frame_len, frames_len, frames_upto}
use Rattle.copy_plan.specs.Inner.Lens.{lens_upto}
use Rattle.copy_plan.proofs.ReadyLemmas.{odt-written_entries}
use Rattle.copy_plan.proofs.WrittenLemmas.{sum_by-written_entries}
use Rattle.copy_plan.proofs.PacketLemmas.{packet_has_len}
use Rattle.segments.specs.Image.{image_len}
use Rattle.copy_plan.specs.Packet.{packet, packets}

-- ---- lengths

-- the entries of a plan have as many bytes as those that are set
elements_are : (l : ℕ) (conf : Configuration) (f : ℕ) (n : List Segment) (k : ℕ) → k < length conf.odts → elements_len (plan_of l conf f n) k ≡ entries_len conf k
elements_are l conf f n k h =
    ap (sum_by (λ (e : OdtEntry). e.1)) (odt-written_entries (channel_of conf.mode) n conf k h)
    ∙ sum_by-written_entries (channel_of conf.mode) n (odt_entries conf k)

upto_are : (l : ℕ) (conf : Configuration) (f : ℕ) (n : List Segment) (k : ℕ) → k ≤ length conf.odts → frames_upto (plan_of l conf f n) k ≡ lens_upto conf k
upto_are l conf f n zero h = refl
upto_are l conf f n (suc k) h =
    let before = upto_are l conf f n k (omega (arith, h)) in
    let here = elements_are l conf f n k (omega (arith, h)) in
    ap (λ m. m + frame_len (plan_of l conf f n) k) before
    ∙ ap (λ m. lens_upto conf k + (4 + packet_len conf.form (is_stamped conf.mode) k m)) here

pub lens_are : (l : ℕ) (conf : Configuration) (f : ℕ) (n : List Segment) → frames_len (plan_of l conf f n) ≡ lens_upto conf (length conf.odts)
lens_are l conf f n =
    ap (frames_upto (plan_of l conf f n)) (length-map conf.odts (written_entries (channel_of conf.mode) n)) ∙ upto_are l conf f n (length conf.odts) (omega arith)

unnumbered-append : (ps qs : List (List ℕ)) → unnumbered (ps ++ qs) ≡ unnumbered ps ++ unnumbered qs
unnumbered-append [] qs = refl
unnumbered-append (p ∷ ps) qs = ap (λ b. frame 0 p ++ b) (unnumbered-append ps qs) ∙ sym (append_assoc (frame 0 p) (unnumbered ps) (unnumbered qs))

-- the frames of one ODT more
pub one_frame_more : (f : ℕ → List ℕ) (k : ℕ) → unnumbered (map f (range_with_len 0 (k + 1))) ≡ unnumbered (map f (range_with_len 0 k)) ++ frame 0 (f k)
one_frame_more f k =
    ap unnumbered (map-range_with_len_more f 0 k k (omega arith)) ∙ unnumbered-append (map f (range_with_len 0 k)) (f k ∷ [])
    ∙ ap (λ b. unnumbered (map f (range_with_len 0 k)) ++ b) (append-nil (frame 0 (f k)))

-- the frame of ODT 0
pub first_frame : (f : ℕ → List ℕ) → unnumbered (map f (range_with_len 0 1)) ≡ frame 0 (f 0)
first_frame f = append-nil (frame 0 (f 0))

-- of short packets they have few
pub lens_short : (conf : Configuration) (k : ℕ) → ((j : ℕ) → j < k → packet_len conf.form (is_stamped conf.mode) j (entries_len conf j) ≤ MAX_PACKET) → lens_upto conf k ≤ k * (4 + MAX_PACKET)
lens_short conf zero short = omega arith
lens_short conf (suc k) short = omega (arith, short k (omega arith), lens_short conf k (λ j h. short j (omega (arith, h))))

-- ---- one frame

-- LEN in four bytes: behind it a CTR of 0
pub header_is : (n : ℕ) → n ≤ 8192 → to_le_bytes w32 n ≡ two_bytes n ++ two_bytes 0
header_is n h =
    let third : n / 65536 % 256 ≡ 0 = omega (arith, h) in
    let fourth : n / 16777216 % 256 ≡ 0 = omega (arith, h) in
    ap (λ c. n % 256 ∷ n / 256 % 256 ∷ c ∷ n / 16777216 % 256 ∷ []) third ∙ ap (λ d. n % 256 ∷ n / 256 % 256 ∷ 0 ∷ d ∷ []) fourth

-- three parts were written, each behind the one before
pub put_in_turn : (a b c d x y z : List ℕ) → b ≡ a ++ x → c ≡ b ++ y → d ≡ c ++ z → d ≡ a ++ (x ++ (y ++ z))
put_in_turn a b c d x y z e f g = g ∙ ap (λ l. l ++ z) (f ∙ ap (λ l. l ++ y) e) ∙ append_assoc (a ++ x) y z ∙ append_assoc a x (y ++ z)

-- a packet was written, and then its header in front of it
pub framed : (old packed framed_by q header : List ℕ) (at end : ℕ) → length header ≡ 4 → end ≡ at + 4 + length q → at + 4 ≤ length old
    → take end packed ≡ take (at + 4) old ++ q → take (at + 4) framed_by ≡ take at packed ++ header → drop (at + 4) framed_by ≡ drop (at + 4) packed
    → take end framed_by ≡ take at old ++ (header ++ q)
framed old packed framed_by q header at end four is fits body front back =
    let n = length q in
    let long : length (take (at + 4) old) ≡ at + 4 = length-take (at + 4) old ∙ omega (arith, fits) in
    let packet : take n (drop (at + 4) packed) ≡ q =
    sym (drop-take (at + 4) n packed) ∙ ap (λ m. drop (at + 4) (take m packed)) (sym is) ∙ ap (drop (at + 4)) body ∙ drop_at (take (at + 4) old) q (at + 4) long in
    let before : take at packed ≡ take at old =
    sym (take-take at end packed (omega (arith, is))) ∙ ap (take at) body ∙ take-append-le at (take (at + 4) old) q (omega (arith, long)) ∙ take-take at (at + 4) old (omega arith) in
    ap (λ m. take m framed_by) is ∙ take-add (at + 4) n framed_by
    ∙ ap (λ a. a ++ take n (drop (at + 4) framed_by)) (front ∙ ap (λ b. b ++ header) before)
    ∙ ap (λ b. (take at old ++ header) ++ b) (ap (take n) back ∙ packet)
    ∙ append_assoc (take at old) header q

pub upto_more : (plan : ListPlan) (k : ℕ) → frames_upto plan (k + 1) ≡ frames_upto plan k + frame_len plan k
upto_more plan k =
    let on : k + 1 ≡ suc k = omega arith in
    ap (frames_upto plan) on

upto_by : (plan : ListPlan) (m d : ℕ) → frames_upto plan m ≤ frames_upto plan (d + m)
upto_by plan m zero =
    let on : zero + m ≡ m = omega arith in
    omega (arith, ap (frames_upto plan) on)
upto_by plan m (suc d) =
    let on : suc d + m ≡ suc (d + m) = omega arith in
    omega (arith, upto_by plan m d, ap (frames_upto plan) on)

-- the frame of an ODT is one of all
pub upto_within : (plan : ListPlan) (k : ℕ) → k < length plan.odts → frames_upto plan k + frame_len plan k ≤ frames_len plan
upto_within plan k h =
    let d = length plan.odts - (k + 1) in
    let all : d + (k + 1) ≡ length plan.odts = omega (arith, h) in
    omega (arith, upto_by plan (k + 1) d, upto_more plan k, ap (frames_upto plan) all)

-- the frames of the first ODTs are as long as that
upto_long : (plan : ListPlan) (image : List ℕ) (stamp : ℕ) (overload : Bool) → length image ≡ image_len plan.segments → IsPlan plan → (k : ℕ) → k ≤ length plan.odts
    → length (unnumbered (map (packet plan image stamp overload) (range_with_len 0 k))) ≡ frames_upto plan k
upto_long plan image stamp overload fit is zero h = refl
upto_long plan image stamp overload fit is (suc k) h =
    let f = packet plan image stamp overload in
    let on : k + 1 ≡ suc k = omega arith in
    let before = upto_long plan image stamp overload fit is k (omega (arith, h)) in
    let one = packet_has_len plan image stamp k overload fit is (omega (arith, h)) in
    ap (λ n. length (unnumbered (map f (range_with_len 0 n)))) (sym on) ∙ ap length (one_frame_more f k)
    ∙ omega (arith, length-append (unnumbered (map f (range_with_len 0 k))) (frame 0 (f k)), before, one)

pub frames_long : (plan : ListPlan) (image : List ℕ) (stamp : ℕ) (overload : Bool) → length image ≡ image_len plan.segments → IsPlan plan
    → length (unnumbered (packets plan image stamp overload)) ≡ frames_len plan
unfolding packets
frames_long plan image stamp overload fit is = upto_long plan image stamp overload fit is (length plan.odts) (omega arith)
