-- No packet of a sample that a sampler sent begins as a reply does.
use Rattle.std.proofs.Common.{◌≡◌, ℕ, ◌+◌, ◌<◌, ◌≤◌, ◌==◌, Bool, true, false, ◌&&◌, ◌||◌, if◌then◌else◌, List, [], ◌∷◌, ◌++◌, length, sym, subst, arith, length-append, length-take, length-drop}
use Rattle.std.specs.Prelude.{sum_by, slice_range}
use Rattle.std.specs.List.{AllByRecursion}
use mathlib.Core.List.{IsPrefix}
use Rattle.std.proofs.lemmas.Bool.Decides.{nat_tests}
use Rattle.std.proofs.lemmas.List.Sums.{sum_by-cons}
use Rattle.xcp_base.specs.Samples.{SampleParts}
use Rattle.xcp_base.specs.declared.item.Item.{Item}
use Rattle.xcp_base.specs.declared.item.Item.TheVariants.{Marker, Sample}
use Rattle.xcp_base.proofs.FormLemmas.{length-id_field}
use Rattle.copy_plan.specs.Config.{IsPlan, ListPlan, OdtEntry, odt}
use Rattle.copy_plan.specs.Packet.{elements, packet, packets, timestamp}
use Rattle.copy_plan.specs.Pids.{field}
use Rattle.copy_plan.proofs.PacketLemmas.{length-timestamp}
use Rattle.sampler.specs.History.{Event, Opening}
use Rattle.sampler.specs.Decisions.{overload_bit}
use Rattle.sampler.specs.Items.{sample}
use Rattle.sampler.specs.Past.{Past as SamplerPast}
use Rattle.daq_engine.specs.Order.{items_of}
use Rattle.daq_engine.proofs.PidLemmas.{all-append, all-front, all-indexed, all-items, all-map_range}
use Rattle.slave_outbox.specs.Accounts.{HasPlans}
use Rattle.slave_outbox.specs.Deeds.{Deed, Started, Stopped, Took, Unsent, passed, passes, taken}
use Rattle.frame_writer.specs.Split.{Fits}
use Rattle.session.specs.Fields.{begins_reply}

-- it begins otherwise, and finds room in a frame
abbrev pub IsDaq : List ℕ → Type 0
IsDaq q = (begins_reply q ≡ false) × Fits q

no-reply : (n : ℕ) → n ≤ 0xFB → (n == 0xFF || n == 0xFE) ≡ false
no-reply n low = grind (arith, nat_tests)

low-pid : (f k : ℕ) (b : Bool) → f + k ≤ 0x7B → f + k + (if b then 128 else 0) ≤ 0xFB
low-pid f k true low = omega (arith, low)
low-pid f k false low = omega (arith, low)

range-short : (xs : List ℕ) (a n : ℕ) → length (slice_range xs a (a + n)) ≤ n
range-short xs a n = simp (length-take, length-drop) (omega arith)

elements-short : (image : List ℕ) (es : List OdtEntry) → length (elements image es) ≤ sum_by (λ (e : OdtEntry). e.1) es
elements-short image [] = omega arith
elements-short image (e ∷ es) =
    omega (arith, length-append (slice_range image e.0 (e.0 + e.1)) (elements image es), range-short image e.0 e.1, elements-short image es, sum_by-cons (λ (x : OdtEntry). x.1) e es)

daq-packet : (plan : ListPlan) (image : List ℕ) (stamp : ℕ) (o : Bool) (k : ℕ) → IsPlan plan → k < length plan.odts → IsDaq (packet plan image stamp o k)
unfolding packet
daq-packet plan image stamp o k is here = (
  no-reply (plan.first_pid + k + (if k == 0 && o then 128 else 0)) (low-pid plan.first_pid k (k == 0 && o) (omega (arith, is.pids, here))),
  (
    omega arith,
    omega (arith, is.short k here, length-append (field plan k o) (timestamp plan k stamp ++ elements image (odt plan k)), length-append (timestamp plan k stamp) (elements image (odt plan k)), length-id_field plan.form.id plan.first_pid plan.list k o, length-timestamp plan k stamp, elements-short image (odt plan k)),
  ),
)

-- each packet of the item is so
abbrev pub HasDaq : Item → Type 0
HasDaq (Sample s) = AllByRecursion IsDaq s.packets
HasDaq (Marker m) = Unit {0}

daq-sample : (o : Opening) (h : List Event) (d : List Bool) (j stamp : ℕ) (image : List ℕ) (plan : ListPlan) → IsPlan plan → HasDaq (sample o h d j plan image stamp)
unfolding sample packets
daq-sample o h d j stamp image plan is =
    all-map_range IsDaq (packet plan image stamp (overload_bit o h d j)) 0 (length plan.odts) (λ k low high. daq-packet plan image stamp (overload_bit o h d j) k is (omega (arith, high)))

-- all items that a sampler sent
pub items-daq : (past : SamplerPast) → HasPlans past → AllByRecursion HasDaq (items_of past)
items-daq past plans =
    all-items past.opening past.history past.decisions IsPlan HasDaq (daq-sample past.opening past.history past.decisions) (λ l. tt) (all-indexed IsPlan past.opening.plans plans)

pub all-last : {X : Type 0} (P : X → Type 0) (xs : List X) (x : X) → AllByRecursion P (xs ++ x ∷ []) → P x
all-last P [] x all = all.0
all-last P (y ∷ xs) x all = all-last P xs x all.1

abbrev pub HasPackets : SampleParts → Type 0
HasPackets s = AllByRecursion IsDaq s.packets

-- so those that passed
pub passed-daq : (deeds : List Deed) → AllByRecursion HasDaq (taken deeds) → AllByRecursion HasPackets (passed deeds)
passed-daq [] all = tt
passed-daq (Started k ∷ deeds) all = passed-daq deeds all
passed-daq (Stopped k ∷ deeds) all = passed-daq deeds all
passed-daq (Unsent k ∷ deeds) all = passed-daq deeds all
passed-daq (Took (Marker m) ∷ deeds) all = passed-daq deeds (all-front HasDaq (taken deeds) (Marker m ∷ []) all)
passed-daq (Took (Sample s) ∷ deeds) all =
    let before = passed-daq deeds (all-front HasDaq (taken deeds) (Sample s ∷ []) all) in
    let own = all-last HasDaq (taken deeds) (Sample s) all in
    elim (passes deeds s.list) as (λ b. AllByRecursion HasPackets (if b then passed deeds ++ s ∷ [] else passed deeds)) [
      | true ↦ all-append HasPackets (passed deeds) (s ∷ []) before (own, tt)
      | false ↦ before
    ]

-- of what was taken of a ring whose sampler came back
pub taken-daq : (past : SamplerPast) (deeds : List Deed) → HasPlans past → IsPrefix (taken deeds) (items_of past) → AllByRecursion HasPackets (passed deeds)
taken-daq past deeds plans front =
    passed-daq deeds (all-front HasDaq (taken deeds) front.0 (subst (AllByRecursion HasDaq) (sym front.1) (items-daq past plans)))
