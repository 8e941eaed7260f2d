-- A description with the elements of its arrays.
use Rattle.std.specs.Prelude.{ℕ, zero, suc, Bool, List, [], ◌∷◌, ◌++◌}
use Rattle.std.specs.Prelude.{Option, Some, None, if◌then◌else◌}
use Rattle.std.specs.List.{flat_map}
use Rattle.measured_values.specs.Encodings.{size_of}
use Rattle.a2l.specs.Described.{Described}
use Rattle.a2l.specs.Elements.{element_address, element_at, elements_in}
use Rattle.a2l.specs.Resolved.{Value}

-- element k at its address, if it has one and who has these bytes has all of its
abbrev pub element_if : (ℕ → ℕ → Bool) → Value → ℕ → Option ℕ → List Value
element_if held v k None = []
element_if held v k (Some address) =
    if held address (size_of v.encoding.data_type) then element_at v k address ∷ [] else []

-- of the first so many elements those that are there, one after another
unfoldable pub elements_below : (ℕ → ℕ → Bool) → Value → ℕ → List Value
elements_below held v zero = []
elements_below held v (suc k) =
    elements_below held v k ++ element_if held v k (element_address v k)

abbrev pub parts_by : (ℕ → ℕ → Bool) → Value → List ℕ → List Value
parts_by held v [] = v ∷ []
parts_by held v (d ∷ ds) = elements_below held v (elements_in v)

-- what stands in the place of a measurement: itself, or of an array the elements that are there
abbrev pub parts_of : (ℕ → ℕ → Bool) → Value → List Value
parts_of held v = parts_by held v v.dims

abbrev pub name_unless : Value → List Value → List (List ℕ)
name_unless v [] = v.name ∷ []
name_unless v (part ∷ parts) = []

-- the name of an array of which no element is there
abbrev pub name_if_none : (ℕ → ℕ → Bool) → Value → List (List ℕ)
name_if_none held v = name_unless v (parts_of held v)

-- a description with the elements in the places of its arrays. The arrays that have none are left
-- out.
abbrev pub with_elements : (ℕ → ℕ → Bool) → Described → Described
with_elements held d = record d {
  values = flat_map (parts_of held) d.values;
  left_out = d.left_out ++ flat_map (name_if_none held) d.values;
}
