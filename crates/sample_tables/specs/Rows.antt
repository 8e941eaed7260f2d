-- The CSV text: the names of its columns, and a row for each element of each sample (RFC 4180).
use Rattle.std.specs.Prelude.{◌≡◌, ◌==◌, ℕ, ◌+◌, ◌*◌, Bool, false, if◌then◌else◌, List, [], ◌∷◌}
use Rattle.std.specs.Prelude.{◌++◌, length, codes, flat_map, reverse, slice_get}
use Rattle.std.specs.Prelude.{Option, Some, None}
use Rattle.std.specs.Fmt.{decimal}
use Rattle.std.specs.List.{enumerate_from}
use Rattle.csv.specs.Writing.{default_writer, fields_written, has_written, row_text, text_written}
use Rattle.csv.specs.Writing.{with_terminator, writer_setup}
use Rattle.csv.specs.declared.parser.Terminator.TheVariants.{CRLF}
use Rattle.csv.specs.declared.writer.Writer.{Writer}
use Rattle.csv.specs.declared.writer.WriterBuilder.{WriterBuilder}
use Rattle.hex.specs.Hex.{encode_lower}
use Rattle.std.specs.Io.KnownBytes.{Appends}
use Rattle.copy_plan.specs.Config.{ListPlan, OdtEntry}
use Rattle.daq_reader.specs.Recorded.{Recorded, element}
use Rattle.sample_tables.specs.Spots.{spot_of}
use Rattle.sample_tables.specs.declared.spot.Spot.{Spot}

-- a number of bytes, the least significant first
abbrev pub number_of : List ℕ → ℕ
number_of [] = 0
number_of (b ∷ bytes) = b + 256 * number_of bytes

-- the number of 1, 2, 4 or 8 bytes
abbrev pub unsigned_of : List ℕ → Option ℕ
unsigned_of (a ∷ []) = Some (number_of (a ∷ []))
unsigned_of (a ∷ b ∷ []) = Some (number_of (a ∷ b ∷ []))
unsigned_of (a ∷ b ∷ c ∷ d ∷ []) = Some (number_of (a ∷ b ∷ c ∷ d ∷ []))
unsigned_of (a ∷ b ∷ c ∷ d ∷ e ∷ f ∷ g ∷ h ∷ []) =
    Some (number_of (a ∷ b ∷ c ∷ d ∷ e ∷ f ∷ g ∷ h ∷ []))
unsigned_of _ = None

-- commas between fields, quotes only if a field needs them, and CRLF behind each row
abbrev pub rfc_4180 : WriterBuilder
rfc_4180 = with_terminator default_writer CRLF

-- a number, or nothing if there is none
abbrev pub if_some : Option ℕ → List ℕ
if_some None = []
if_some (Some number) = decimal number

-- 1 or 0
abbrev pub one_or_zero : Bool → List ℕ
one_or_zero holds = if holds then codes "1" else codes "0"

-- the names of the columns
abbrev pub column_names : List (List ℕ)
column_names = codes "time" ∷ codes "ticks" ∷ codes "list" ∷ codes "sample" ∷ codes "odt"
    ∷ codes "entry" ∷ codes "address" ∷ codes "size" ∷ codes "hex" ∷ codes "unsigned"
    ∷ codes "overload" ∷ []

-- the fields of a row: of the bytes of entry e of ODT k of a sample of a list, which stands here
-- and has these ticks; they stood at an address of the image
abbrev pub row_fields : Spot → Option ℕ → ℕ → ℕ → ℕ → ℕ → List ℕ → Bool → List (List ℕ)
row_fields at ticks list k e address bytes overload =
    if_some at.time ∷ if_some ticks ∷ decimal list ∷ decimal at.number ∷ decimal k ∷ decimal e
    ∷ decimal address ∷ decimal (length bytes) ∷ encode_lower bytes ∷ if_some (unsigned_of bytes)
    ∷ one_or_zero overload ∷ []

-- the row of entry e of ODT k, if the sample has as many bytes there as the entry
abbrev pub bytes_text :
    ListPlan → Spot → Recorded → ℕ → ℕ → OdtEntry → Option (List ℕ) → List ℕ
bytes_text plan at r k e entry None = []
bytes_text plan at r k e entry (Some bytes) =
    if length bytes == entry.1
    then row_text rfc_4180 (row_fields at r.stamp plan.list k e entry.0 bytes r.overload) else []

abbrev pub entry_text : ListPlan → Spot → Recorded → ℕ → ℕ × OdtEntry → List ℕ
entry_text plan at r k (e, entry) = bytes_text plan at r k e entry (element r k e)

-- the rows of ODT k, entry by entry
abbrev pub odt_text : ListPlan → Spot → Recorded → ℕ × List OdtEntry → List ℕ
odt_text plan at r (k, entries) = flat_map (entry_text plan at r k) (enumerate_from 0 entries)

-- the rows of a sample of a list, which stands here, ODT by ODT
abbrev pub sample_text : ListPlan → Spot → Recorded → List ℕ
sample_text plan at r = flat_map (odt_text plan at r) (enumerate_from 0 plan.odts)

-- the same, if there is a list
abbrev pub text_at : Option ListPlan → Spot → Recorded → List ℕ
text_at None at r = []
text_at (Some plan) at r = sample_text plan at r

-- the rows of samples, the newest first: those of the earlier ones, and behind them its own
abbrev pub rows_of : List ListPlan → List (ℕ × Recorded) → List ℕ
rows_of plans [] = []
rows_of plans (s ∷ earlier) =
    rows_of plans earlier ++ text_at (slice_get plans s.0) (spot_of plans earlier s.0 s.1) s.1

-- the names of the columns, and the rows of each sample, in the order in which they were given back
abbrev pub csv_text : List ListPlan → List (ℕ × Recorded) → List ℕ
csv_text plans samples = row_text rfc_4180 column_names ++ rows_of plans (reverse samples)

-- a writer of rows stands between two rows
pub record IsBetweenRows {W : Type 0} (rows : Writer W) : Type 0 where
  pub setup : writer_setup rows ≡ rfc_4180
  pub fields : fields_written rows ≡ 0
  pub blank : has_written rows ≡ false

-- behind what the writer had before, the rows of the samples were written
pub record HasRows {W : Type 0} (contents : W → Option (List ℕ)) (plans : List ListPlan)
    (start : Option (List ℕ)) (samples : List (ℕ × Recorded)) (rows : Writer W)
    : Type 0 where
  pub between : IsBetweenRows rows
  pub text : Appends start (text_written contents rows) (csv_text plans samples)

-- the lists, and what the writer had before
pub record RowsStart : Type 0 where
  pub plans : List ListPlan
  pub start : Option (List ℕ)

-- these, and the samples that were handed over
pub record RowsState : Type 0 where
  pub plans : List ListPlan
  pub start : Option (List ℕ)
  pub samples : List (ℕ × Recorded)
