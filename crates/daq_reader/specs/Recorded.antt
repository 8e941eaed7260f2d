-- The samples of a DAQ list as a recording has them (ASAM MCD-1 XCP, protocol layer, DTO), and the
-- packets that each is written as. The timestamp and the overload indication stand in ODT 0 alone.
use Rattle.std.specs.Prelude.{◌≡◌, ℕ, ◌*◌, ◌<◌, ◌^◌, ◌==◌, Bool, true, false, if◌then◌else◌}
use Rattle.std.specs.Prelude.{List, [], ◌++◌, length, map, flat_map, slice_get, slice_index_or}
use Rattle.std.specs.Prelude.{Option, Some, None}
use Rattle.std.specs.List.{range_with_len}
use mathlib.Core.List.{IsPrefix}
use Rattle.xcp_base.specs.declared.stamp_size.StampSize.{StampSize}
use Rattle.xcp_base.specs.Forms.{names, stamp_bytes, stamp_field}
use Rattle.copy_plan.specs.Config.{ListPlan, OdtEntry}
use Rattle.copy_plan.specs.Pids.{field}

-- a sample: whether it has the overload indication, the ticks of its timestamp, if it has one, and
-- for each ODT the bytes of each entry
pub record Recorded : Type 0 where
  pub overload : Bool
  pub stamp : Option ℕ
  pub elements : List (List (List ℕ))

-- a sample has a timestamp exactly if its list is stamped, and its ticks fit its bytes
abbrev pub FitsStamp : StampSize → Bool → Option ℕ → Type 0
FitsStamp size true (Some ticks) = ticks < 2 ^ (8 * stamp_bytes size)
FitsStamp size true None = ⊥
FitsStamp size false (Some ticks) = ⊥
FitsStamp size false None = Unit {0}

-- the sizes of the entries, ODT by ODT
abbrev pub sizes_of : ListPlan → List (List ℕ)
sizes_of plan = map (λ (es : List OdtEntry). map (λ (e : OdtEntry). e.1) es) plan.odts

-- it is a sample of the list: each entry has as many bytes as the plan says
pub record IsRecorded (plan : ListPlan) (r : Recorded) : Type 0 where
  pub stamp : FitsStamp plan.form.stamp plan.stamped r.stamp
  pub elements : map (λ (bs : List (List ℕ)). map length bs) r.elements ≡ sizes_of plan

-- the bytes of entry e of ODT k
abbrev pub element : Recorded → ℕ → ℕ → Option (List ℕ)
element r k e = slice_get (slice_index_or r.elements k []) e

-- the timestamp in the packet of ODT k
abbrev pub stamp_part : StampSize → ℕ → Option ℕ → List ℕ
stamp_part size k None = []
stamp_part size k (Some ticks) = if k == 0 then stamp_field size ticks else []

-- the elements in the packet of ODT k, joined in order
abbrev pub elements_part : Recorded → ℕ → List ℕ
elements_part r k = flat_map (λ (bs : List ℕ). bs) (slice_index_or r.elements k [])

-- the packet of ODT k: identification field, timestamp, elements
unfoldable pub packet_of : ListPlan → Recorded → ℕ → List ℕ
packet_of plan r k =
    field plan k r.overload ++ (stamp_part plan.form.stamp k r.stamp ++ elements_part r k)

-- the packets of a sample: those of ODTs 0, 1, .. in order
unfoldable pub packets_of : ListPlan → Recorded → List (List ℕ)
packets_of plan r = map (packet_of plan r) (range_with_len 0 (length plan.odts))

-- the packets begin those of some sample of the list
pub record Begin (plan : ListPlan) (qs : List (List ℕ)) : Type 0 where
  -- any: of the packets that are still to come nothing is known
  pub sample : Recorded
  pub is : IsRecorded plan sample
  pub front : IsPrefix qs (packets_of plan sample)

-- the packets are those of this sample of the list
pub record AreOf (plan : ListPlan) (r : Recorded) (qs : List (List ℕ)) : Type 0 where
  pub is : IsRecorded plan r
  pub packets : qs ≡ packets_of plan r

-- the identification field names the list
abbrev pub is_of_list : ListPlan → List ℕ → Bool
is_of_list plan q = names plan.form.id plan.first_pid (length plan.odts) plan.list q
