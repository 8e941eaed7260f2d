-- The DAQ packets of a sample (ASAM MCD-1 XCP, protocol layer, DTO): identification field,
-- timestamp, elements, in the form of the store's packets. The timestamp stands in ODT 0 alone.
use Rattle.std.specs.Prelude.{ℕ, ◌+◌, ◌==◌, ◌&&◌, Bool, if◌then◌else◌, List, [], ◌++◌, length}
use Rattle.std.specs.Prelude.{map, slice_range, flat_map}
use Rattle.std.specs.List.{range_with_len}
use Rattle.xcp_base.specs.Forms.{stamp_field}
use Rattle.copy_plan.specs.Config.{ListPlan, OdtEntry, odt}
use Rattle.copy_plan.specs.Pids.{field}

-- the timestamp in the packet of ODT k: there is one in ODT 0 of a stamped list
abbrev pub timestamp : ListPlan → ℕ → ℕ → List ℕ
timestamp plan k stamp =
    if k == 0 && plan.stamped then stamp_field plan.form.stamp stamp else []

-- the elements: each entry's slice of the image, joined in order
abbrev pub elements : List ℕ → List OdtEntry → List ℕ
elements image entries = flat_map (λ (e : OdtEntry). slice_range image e.0 (e.0 + e.1)) entries

-- the packet of ODT k: identification field, timestamp, elements
unfoldable pub packet : ListPlan → List ℕ → ℕ → Bool → ℕ → List ℕ
packet plan image stamp overload k =
    field plan k overload ++ (timestamp plan k stamp ++ elements image (odt plan k))

-- the packets of a sample: those of ODTs 0, 1, .. in order, all of one image and one timestamp
unfoldable pub packets : ListPlan → List ℕ → ℕ → Bool → List (List ℕ)
packets plan image stamp overload =
    map (packet plan image stamp overload) (range_with_len 0 (length plan.odts))
