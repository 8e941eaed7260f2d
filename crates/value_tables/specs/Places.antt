-- The bytes of all entries of a sample, joined in the order of the ODTs and of their entries, and
-- where the values of columns stand among them.
use Rattle.std.specs.Prelude.{◌≡◌, ℕ, ◌+◌, ◌*◌, ◌≤◌, List, [], length, take, sum_by, flat_map}
use Rattle.std.specs.Prelude.{Option, Some, option_map, slice_range, unwrap_or}
use Rattle.std.specs.List.{range_with_len}
use Rattle.copy_plan.specs.Config.{ListPlan, OdtEntry, odt}
use Rattle.daq_reader.specs.Recorded.{IsRecorded, Recorded, element}
use Rattle.value_tables.specs.Values.{bytes_at, source_for, width_of}
use Rattle.value_tables.specs.declared.column.Column.{Column}
use Rattle.value_tables.specs.declared.source.Source.{Source}

-- the bytes of some entries, joined in order
abbrev pub joined_entries : List (List ℕ) → List ℕ
joined_entries bs = flat_map (λ (b : List ℕ). b) bs

-- the bytes of all entries of a sample
abbrev pub joined : Recorded → List ℕ
joined r = flat_map joined_entries r.elements

-- the bytes of entry e of ODT k, none if there is no such entry
abbrev pub entry_bytes : Recorded → ℕ → ℕ → List ℕ
entry_bytes r k e = unwrap_or (element r k e) []

-- the bytes of the entries that a list has in ODT k, joined in order
abbrev pub listed_in : ListPlan → Recorded → ℕ → List ℕ
listed_in plan r k = flat_map (entry_bytes r k) (range_with_len 0 (length (odt plan k)))

-- the bytes of all entries that a list has; those of its samples have no others
abbrev pub listed : ListPlan → Recorded → List ℕ
listed plan r = flat_map (listed_in plan r) (range_with_len 0 (length plan.odts))

-- how many bytes some entries have
abbrev pub entries_len : List OdtEntry → ℕ
entries_len es = sum_by (λ (e : OdtEntry). e.1) es

-- how many bytes the entries of some ODTs have
abbrev pub odts_len : List (List OdtEntry) → ℕ
odts_len odts = sum_by entries_len odts

-- how many bytes of entries a sample of a list has
abbrev pub sample_len : ListPlan → ℕ
sample_len plan = odts_len plan.odts

-- the most bytes that the entries of an ODT have: MAX_PACKET, those of the longest packet
abbrev pub most_of_odt : ℕ
most_of_odt = 8192

-- the most bytes that the entries of a sample have, of MAX_ODTS_IN_ALL ODTs
abbrev pub most_of_sample : ℕ
most_of_sample = 124 * most_of_odt

-- how many bytes of entries stand in front of those at a source
abbrev pub place_of : ListPlan → Source → ℕ
place_of plan source =
    odts_len (take source.odt plan.odts) + entries_len (take source.entry (odt plan source.odt))
    + source.offset

-- where the bytes of a column stand, if the samples of a list have them
abbrev pub place_for : ListPlan → Column → Option ℕ
place_for plan column = option_map (place_of plan) (source_for plan column)

-- so many bytes at a source are those that stand at its place
pub record StandAtPlace (plan : ListPlan) (r : Recorded) (size : ℕ) (source : Source)
    : Type 0 where
  pub within : place_of plan source + size ≤ sample_len plan
  pub bytes :
      bytes_at r size (Some source)
      ≡ Some (slice_range (joined r) (place_of plan source) (place_of plan source + size))

-- a sample has as many bytes as its list says
abbrev pub JoinedHaveLength : Type 0
JoinedHaveLength =
    (plan : ListPlan) (r : Recorded) → IsRecorded plan r → length (joined r) ≡ sample_len plan

-- the entries that its list has are all of its entries
abbrev pub ListedAreJoined : Type 0
ListedAreJoined =
    (plan : ListPlan) (r : Recorded) → IsRecorded plan r → listed plan r ≡ joined r

-- the bytes of a column stand at its place
abbrev pub ValuesStandAtPlaces : Type 0
ValuesStandAtPlaces =
    (plan : ListPlan) (r : Recorded) (column : Column) (source : Source) → IsRecorded plan r
    → source_for plan column ≡ Some source → StandAtPlace plan r (width_of column) source
