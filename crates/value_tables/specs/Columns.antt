-- Which measurements of a description are shown.
use Rattle.std.specs.Prelude.{◌≡◌, ◌≢◌, ◌&&◌, ◌==◌, ℕ, Bool, true, not, List, [], slice_get, filter}
use Rattle.std.specs.Prelude.{Option, None, Some, option_map, bytes_eq, codes}
use Rattle.std.specs.Prelude.{string_bytes}
use Rattle.std.specs.List.{AllZip, find, list_any, slice_split}
use Rattle.std.specs.Option.{option_copied}
use Rattle.a2l.specs.Described.{description_seen}
use Rattle.a2l.specs.Resolved.{described_measurement}
use Rattle.a2l.specs.Units.{unit_of}
use Rattle.a2l.specs.declared.description.Description.{Description}
use Rattle.a2l.specs.declared.description.Measurement.{Measurement}
use Rattle.a2l.specs.declared.description.Method.{Method}
use Rattle.measured_values.specs.Encodings.{size_of}
use Rattle.measured_values.specs.declared.conversion.Conversion.{Conversion}
use Rattle.measured_values.specs.declared.conversion.Conversion.TheVariants.{Identical, Linear}
use Rattle.measured_values.specs.declared.conversion.Conversion.TheVariants.{Other}
use Rattle.measured_values.specs.declared.conversion.Conversion.TheVariants.{Rational, Texts}
use Rattle.value_tables.specs.declared.column.Column.{Column}

-- the method at a place, if there is one
abbrev pub method_at : List Method → Option ℕ → Option Method
method_at methods None = None
method_at methods (Some place) = slice_get methods place

-- what is made of the raw values of a measurement, if it has a method
abbrev pub conversion_in : Description → Measurement → Option Conversion
conversion_in d m = option_map (λ (it : Method). it.conversion) (method_at d.methods.items m.method)

-- of a method that isn't carried out the raw values are shown, and not in its unit
abbrev pub unit_with : Option Conversion → List ℕ → List ℕ
unit_with None unit = unit
unit_with (Some Identical) unit = unit
unit_with (Some (Linear factor offset)) unit = unit
unit_with (Some (Rational b c f)) unit = unit
unit_with (Some (Texts table)) unit = unit
unit_with (Some Other) unit = codes "raw"

-- the unit that is shown of a measurement
abbrev pub unit_shown : Description → Measurement → List ℕ
unit_shown d m =
    unit_with (conversion_in d m) (unit_of (description_seen d) (described_measurement m))

-- a column is that of a measurement
pub record IsColumnOf (d : Description) (m : Measurement) (column : Column) : Type 0 where
  pub name : column.name.now ≡ string_bytes m.name
  pub identifier : column.identifier.now ≡ string_bytes m.identifier
  pub unit : column.unit.now ≡ unit_shown d m
  pub encoding : column.encoding ≡ m.encoding
  pub address : column.address ≡ m.address
  pub conversion : option_copied column.conversion ≡ conversion_in d m
  pub limits : column.limits ≡ m.limits

-- who has these bytes has all of a measurement
abbrev pub is_held : (ℕ → ℕ → Bool) → Measurement → Bool
is_held held m = held m.address (size_of m.encoding.data_type)

-- the names of a text that has commas, 44, between them
abbrev pub names_in : List ℕ → List (List ℕ)
names_in text = slice_split (λ b. b == 44) text

-- whether a name is chosen: it is one of those with commas between them; without any, each is
abbrev pub is_chosen : Option (List ℕ) → List ℕ → Bool
is_chosen None name = true
is_chosen (Some text) name = list_any (λ word. bytes_eq word name) (names_in text)

-- whether a measurement is shown of who has these bytes: it is chosen, and all of it is there
abbrev pub is_shown : Option (List ℕ) → (ℕ → ℕ → Bool) → Measurement → Bool
is_shown only held m = is_chosen only (string_bytes m.name) && is_held held m

-- the measurements that are shown, in the order of the description
abbrev pub shown_of : Description → (ℕ → ℕ → Bool) → Option (List ℕ) → List Measurement
shown_of d held only = filter (is_shown only held) d.measurements.items

-- the columns are those of the measurements that are shown, one for each
abbrev pub AreColumns :
    Description → (ℕ → ℕ → Bool) → Option (List ℕ) → List Column → Type 0
AreColumns d held only columns = AllZip (IsColumnOf d) (shown_of d held only) columns

-- whether all of a measurement of this name is there
abbrev pub is_known : Description → (ℕ → ℕ → Bool) → List ℕ → Bool
is_known d held name =
    list_any (λ (m : Measurement). bytes_eq (string_bytes m.name) name && is_held held m)
    d.measurements.items

-- the first of the names with commas between them that isn't known
abbrev pub unknown_in :
    Description → (ℕ → ℕ → Bool) → Option (List ℕ) → Option (List ℕ)
unknown_in d held None = None
unknown_in d held (Some text) = find (λ name. not (is_known d held name)) (names_in text)

-- each name is known, and some measurement is shown
abbrev pub HasChosen : Description → (ℕ → ℕ → Bool) → Option (List ℕ) → Type 0
HasChosen d held only = (unknown_in d held only ≡ None) × (shown_of d held only ≢ [])
