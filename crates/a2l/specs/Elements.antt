-- The elements of an array (ASAM MCD-2 MC, MATRIX_DIM, ARRAY_SIZE and LAYOUT): each is a value of
-- its own, and they stand one behind another.
use Rattle.std.specs.Prelude.{ℕ, ◌+◌, ◌*◌, ◌/◌, ◌%◌, ◌^◌, ◌==◌, nat_lt, List, [], ◌∷◌, ◌++◌, codes}
use Rattle.std.specs.Prelude.{Option, Some, None, if◌then◌else◌}
use Rattle.std.specs.Fmt.{decimal}
use Rattle.std.specs.Option.{unwrap_or}
use Rattle.measured_values.specs.Encodings.{size_of}
use Rattle.a2l_entries.specs.Dimensions.{element_count}
use Rattle.a2l_entries.specs.declared.layout.Layout.{Layout}
use Rattle.a2l_entries.specs.declared.layout.Layout.TheVariants.{Columns, Rows}
use Rattle.a2l.specs.Resolved.{Value}

-- how many elements it has; of a single value, itself
abbrev pub elements_in : Value → ℕ
elements_in v = unwrap_or (element_count v.dims) 0

-- the index of element k along a dimension that runs fastest, and that of its row among the rows;
-- a dimension of 0 has none
abbrev pub index_in : ℕ → ℕ → ℕ
index_in k d = if d == 0 then 0 else k % d

abbrev pub row_of : ℕ → ℕ → ℕ
row_of k d = if d == 0 then 0 else k / d

-- the indices of element k along dimensions, of which the first runs fastest
abbrev pub indices_by_rows : ℕ → List ℕ → List ℕ
indices_by_rows k [] = []
indices_by_rows k (d ∷ ds) = index_in k d ∷ indices_by_rows (row_of k d) ds

-- of two dimensions the second runs fastest, if the elements stand column by column
abbrev pub indices_of : Layout → ℕ → List ℕ → List ℕ
indices_of Rows k dims = indices_by_rows k dims
indices_of Columns k [] = []
indices_of Columns k (d ∷ []) = index_in k d ∷ []
indices_of Columns k (d ∷ e ∷ es) = row_of k e ∷ index_in k e ∷ []

-- indices as they stand behind a name: [1][2]
abbrev pub indices_text : List ℕ → List ℕ
indices_text [] = []
indices_text (i ∷ is) = codes "[" ++ decimal i ++ codes "]" ++ indices_text is

abbrev pub element_name : Value → ℕ → List ℕ
element_name v k = v.name ++ indices_text (indices_of v.layout k v.dims)

abbrev pub element_at : Value → ℕ → ℕ → Value
element_at v k address = record v { name = element_name v k; address = address; dims = [] }

-- the address of element k, if there is one of 32 bits
abbrev pub element_address : Value → ℕ → Option ℕ
element_address v k =
    if nat_lt (v.address + k * size_of v.encoding.data_type) (2 ^ 32)
    then Some (v.address + k * size_of v.encoding.data_type) else None
