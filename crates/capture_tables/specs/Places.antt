-- Where the bytes of a value stand in the samples of a DAQ list.
use Rattle.std.specs.Prelude.{◌≡◌, ℕ, ◌+◌, ◌-◌, ◌==◌, ◌&&◌, nat_le, Bool, true, false}
use Rattle.std.specs.Prelude.{List, ◌∷◌, ◌++◌, Option, None, Some, option_map}
use Rattle.std.specs.List.{flat_map, list_any}
use Rattle.captured_samples.specs.Places.{size_of}
use Rattle.captured_session.specs.Lists.{ListOf}
use Rattle.captured_session.specs.declared.element.Element.{Element}
use Rattle.measured_values.specs.Encodings.{size_of as encoded_size}
use Rattle.measured_values.specs.Raws.{raw_value}
use Rattle.measured_values.specs.declared.encoding.Encoding.{Encoding}
use Rattle.measured_values.specs.declared.raw.Raw.{Raw}
use Rattle.value_tables.specs.Values.{part_of}

-- an entry has all of so many bytes at an address: it is of address extension 0, and not one bit
abbrev pub holds : ℕ → ℕ → Element → Bool
holds address size e =
    (e.extension == 0) && (e.bit == 255) && nat_le e.address address
    && nat_le (address + size) (e.address + e.size)

-- some entry has them
abbrev pub entries_hold : List Element → ℕ → ℕ → Bool
entries_hold entries address size = list_any (holds address size) entries

-- so many bytes at an address stand at this place in the bytes of entries: in the first one that
-- has all of them, behind those of the entries before it
pub record IsPlace (entries : List Element) (address size place : ℕ) : Type 0 where
  -- fixed by `split`, `none` and `first`
  pub before : List Element
  pub entry : Element
  pub behind : List Element
  pub split : entries ≡ before ++ entry ∷ behind
  pub none : entries_hold before address size ≡ false
  pub first : holds address size entry ≡ true
  pub at : place ≡ size_of before + (address - entry.address)

-- the entries of a list, ODT by ODT
abbrev pub entries_of : ListOf → List Element
entries_of list = flat_map (λ odt. odt) list.odts

-- they stand at this place in the samples of a list; or, at none, no entry has all of them
abbrev pub IsPlaceIn : ListOf → ℕ → ℕ → Option ℕ → Type 0
IsPlaceIn list address size None = entries_hold (entries_of list) address size ≡ false
IsPlaceIn list address size (Some place) = IsPlace (entries_of list) address size place

-- the raw value of so encoded bytes at a place, if they are there
abbrev pub raw_in : Encoding → Option ℕ → List ℕ → Option Raw
raw_in encoding None bytes = None
raw_in encoding (Some place) bytes =
    option_map (raw_value encoding) (part_of place (encoded_size encoding.data_type) (Some bytes))
