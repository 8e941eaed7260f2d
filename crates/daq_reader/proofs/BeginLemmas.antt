-- Packets that fit the ODTs of a list begin those of a sample, and the other way round.
use Rattle.std.proofs.Common.{◌≡◌, ℕ, ◌+◌, ◌<◌, List, [], ◌∷◌, ◌++◌, length, get_or, refl, sym, ap, ◌∙◌, arith, append_assoc, length-append, None}
use Rattle.std.proofs.Math.Seq.{get_or-append_seam}
use Rattle.std.proofs.lemmas.List.FromFn.{get_or-map-range_with_len, length-map-range_with_len}
use Rattle.xcp_base.specs.Packets.{stamp_len}
use Rattle.copy_plan.specs.Config.{IsPlan, ListPlan}
use Rattle.daq_reader.specs.Faults.{fault_of}
use Rattle.daq_reader.specs.Recorded.{Begin, IsRecorded, Recorded, elements_part, packet_of, packets_of, stamp_part}
use Rattle.daq_reader.specs.Inner.Fitting.{Fits}
use Rattle.daq_reader.proofs.CutLemmas.{length-joined, length-stamp_part, sizes_at}
use Rattle.daq_reader.proofs.FieldLemmas.{no_fault}

-- the packet of ODT k of a sample fits
pub packet_fits : (plan : ListPlan) (r : Recorded) (k : ℕ) → IsRecorded plan r → Fits plan k (packet_of plan r k)
unfolding packet_of
packet_fits plan r k is = record {
  overload = r.overload;
  rest = stamp_part plan.form.stamp k r.stamp ++ elements_part r k;
  is = refl;
  len = length-append (stamp_part plan.form.stamp k r.stamp) (elements_part r k)
      ∙ ap (λ n. n + length (elements_part r k)) (length-stamp_part plan.form.stamp plan.stamped k r.stamp is.stamp)
      ∙ ap (λ n. stamp_len plan.form.stamp plan.stamped k + n) (length-joined (get_or r.elements k []) (get_or plan.odts k []) (sizes_at r.elements plan.odts k is.elements));
}

pub get-packets_of : (plan : ListPlan) (r : Recorded) (k : ℕ) → k < length plan.odts → get_or (packets_of plan r) k [] ≡ packet_of plan r k
unfolding packets_of
get-packets_of plan r k here = get_or-map-range_with_len (packet_of plan r) 0 (length plan.odts) k k [] here (omega arith)

pub length-packets_of : (plan : ListPlan) (r : Recorded) → length (packets_of plan r) ≡ length plan.odts
unfolding packets_of
length-packets_of plan r = length-map-range_with_len (packet_of plan r) 0 (length plan.odts)

-- a packet with which packets begin a sample has no fault
next : (plan : ListPlan) (qs : List (List ℕ)) (q : List ℕ) (r : Recorded) (behind : List (List ℕ)) → IsPlan plan → IsRecorded plan r → (qs ++ q ∷ []) ++ behind ≡ packets_of plan r → fault_of plan (length qs) q ≡ None
next plan qs q r behind is of whole =
    let regrouped : qs ++ q ∷ behind ≡ packets_of plan r = sym (append_assoc qs (q ∷ []) behind) ∙ whole in
    let here : length qs < length plan.odts = omega (arith, ap length regrouped, length-append qs (q ∷ behind), length-packets_of plan r) in
    let at : q ≡ packet_of plan r (length qs) = sym (get_or-append_seam qs q behind []) ∙ ap (λ ps. get_or ps (length qs) []) regrouped ∙ get-packets_of plan r (length qs) here in
    no_fault plan (length qs) q is here (rw at (packet_fits plan r (length qs) of))

pub begun_without_fault : (plan : ListPlan) (qs : List (List ℕ)) (q : List ℕ) → IsPlan plan → Begin plan (qs ++ q ∷ []) → fault_of plan (length qs) q ≡ None
begun_without_fault plan qs q is h = next plan qs q h.sample h.front.0 is h.is h.front.1
