-- A row of CSV that is written field by field (RFC 4180).
use Rattle.std.specs.Prelude.{◌≡◌, ℕ, ◌-◌, ◌^◌, ◌<◌, List, [], ◌∷◌, ◌++◌, length, Option}
use Rattle.std.specs.Io.KnownBytes.{Appends}
use Rattle.csv.specs.Writing.{fields_written, row_body, text_written, writer_setup}
use Rattle.csv.specs.declared.writer.Writer.{Writer}
use Rattle.sample_tables.specs.Rows.{rfc_4180}

-- behind what stood there before, these fields of a row were written, and its end wasn't
pub record HasFields {W : Type 0} (contents : W → Option (List ℕ)) (before : Option (List ℕ))
    (fields : List (List ℕ)) (rows : Writer W)
    : Type 0 where
  pub setup : writer_setup rows ≡ rfc_4180
  pub count : fields_written rows ≡ length fields
  pub text : Appends before (text_written contents rows) (row_body rfc_4180 fields)

-- a field more, while they can be counted
abbrev pub HasFieldMore :
    {W : Type 0} → (W → Option (List ℕ)) → Writer W → Writer W → List ℕ → Type 0
HasFieldMore contents old now field =
    (before : Option (List ℕ)) (fields : List (List ℕ)) → HasFields contents before fields old
    → length fields < 2 ^ 64 - 1 → HasFields contents before (fields ++ field ∷ []) now
