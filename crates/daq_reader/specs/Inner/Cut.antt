-- The sample that packets are of, read off their bytes.
use Rattle.std.specs.Prelude.{ℕ, ◌+◌, nat_lt, nat_le, Bool, if◌then◌else◌}
use Rattle.std.specs.Prelude.{List, [], ◌∷◌, length, map, take, drop, replicate}
use Rattle.std.specs.Prelude.{slice_index, slice_index_or, slice_get}
use Rattle.std.specs.Prelude.{Option, Some, None, option_map}
use Rattle.std.specs.Int.{from_le_bytes, w16, w32}
use Rattle.std.specs.List.{range_with_len}
use Rattle.xcp_base.specs.declared.stamp_size.StampSize.{StampSize}
use Rattle.xcp_base.specs.declared.stamp_size.StampSize.TheVariants.{One, Two, Four}
use Rattle.xcp_base.specs.Forms.{field_len, stamp_bytes}
use Rattle.xcp_base.specs.Packets.{stamp_len}
use Rattle.copy_plan.specs.Config.{ListPlan, OdtEntry, elements_len, odt}
use Rattle.daq_reader.specs.Recorded.{Recorded}
use Rattle.daq_reader.specs.Inner.Slots.{bytes_of}

-- the ticks of a timestamp
abbrev pub ticks_of : StampSize → List ℕ → ℕ
ticks_of One bytes = slice_index bytes 0
ticks_of Two bytes = from_le_bytes w16 bytes
ticks_of Four bytes = from_le_bytes w32 bytes

-- bytes, cut by the sizes of the entries
abbrev pub cut : List OdtEntry → List ℕ → List (List ℕ)
cut [] bytes = []
cut (e ∷ es) bytes = take e.1 bytes ∷ cut es (drop e.1 bytes)

-- the bytes in front of the elements of ODT k
abbrev pub head_len : ListPlan → ℕ → ℕ
head_len plan k = field_len plan.form.id + stamp_len plan.form.stamp plan.stamped k

-- where entry e of ODT k stands in its packet, and its bytes
abbrev pub place_of : ListPlan → ℕ → ℕ → Option (ℕ × ℕ)
place_of plan k e =
    option_map (λ (x : OdtEntry). (head_len plan k + bytes_of (take e (odt plan k)), x.1))
    (slice_get (odt plan k) e)

-- the bytes of the elements of ODT k; if its packet isn't there, so many zeros
abbrev pub data_in : ListPlan → List (List ℕ) → ℕ → List ℕ
data_in plan qs k =
    if nat_lt k (length qs) then drop (head_len plan k) (slice_index_or qs k [])
    else replicate (elements_len plan k) 0

-- the bytes of the timestamp in the first packet
abbrev pub stamp_bytes_in : ListPlan → List (List ℕ) → List ℕ
stamp_bytes_in plan qs =
    take (stamp_bytes plan.form.stamp) (drop (field_len plan.form.id) (slice_index_or qs 0 []))

-- the timestamp, if the list is stamped
abbrev pub stamp_in : ListPlan → List (List ℕ) → Option ℕ
stamp_in plan qs =
    if plan.stamped then Some (ticks_of plan.form.stamp (stamp_bytes_in plan qs)) else None

-- the first packet has the overload indication
abbrev pub overload_in : List (List ℕ) → Bool
overload_in qs = nat_le 128 (slice_index (slice_index_or qs 0 []) 0)

-- the bytes of the elements, ODT by ODT and entry by entry
abbrev pub elements_in : ListPlan → List (List ℕ) → List (List (List ℕ))
elements_in plan qs =
    map (λ (k : ℕ). cut (odt plan k) (data_in plan qs k)) (range_with_len 0 (length plan.odts))

-- the sample
abbrev pub recorded_in : ListPlan → List (List ℕ) → Recorded
recorded_in plan qs = record {
  overload = overload_in qs;
  stamp = stamp_in plan qs;
  elements = elements_in plan qs;
}
