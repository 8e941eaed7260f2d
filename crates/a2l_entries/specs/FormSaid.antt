-- How packets look, as the words of a PROTOCOL_LAYER, a DAQ or a TIMESTAMP_SUPPORTED tell it (ASAM
-- MCD-1 XCP, IF_DATA). The numbers are those that a slave answers to CONNECT,
-- GET_DAQ_PROCESSOR_INFO and GET_DAQ_RESOLUTION_INFO.
use Rattle.std.specs.Prelude.{ℕ, ◌+◌, ◌*◌, ◌==◌, Bool, true, false, List, [], ◌∷◌, codes, Option}
use Rattle.std.specs.Prelude.{Some, None, if◌then◌else◌}
use Rattle.a2l_text.specs.Keywords.{meaning}
use Rattle.a2l_text.specs.Tokens.{Token}
use Rattle.a2l_entries.specs.declared.told.Told.{Told}
use Rattle.a2l_entries.specs.declared.told.Told.TheVariants.{Nothing, Number, Unclear}
use Rattle.a2l_entries.specs.declared.packet_form.PacketForm.{PacketForm}
use Rattle.a2l_entries.specs.declared.form_block.FormKeyword.{FormKeyword}
use Rattle.a2l_entries.specs.declared.form_block.FormKeyword.TheVariants as keyword
use Rattle.a2l_entries.specs.Gives.{◌>>=◌}
use Rattle.a2l_entries.specs.Said.{plain_said}
use Rattle.a2l_entries.specs.Keywords.{behind_keyword, is_keyword}
use Rattle.a2l_entries.specs.TickSaid.{ticks_said}

-- ---- what several blocks tell

-- one number, if no other is told
abbrev pub told_and : Told → Told → Told
told_and Nothing other = other
told_and (Number n) Nothing = Number n
told_and (Number n) (Number m) = if n == m then Number n else Unclear
told_and (Number n) Unclear = Unclear
told_and Unclear other = Unclear

abbrev pub number_told : Told → Option ℕ
number_told Nothing = None
number_told (Number n) = Some n
number_told Unclear = None

abbrev pub nothing_told : PacketForm
nothing_told = record {
  order = Nothing;
  granularity = Nothing;
  field = Nothing;
  overload = Nothing;
  stamp = Nothing;
  ticks = Nothing;
}

abbrev pub form_and : PacketForm → PacketForm → PacketForm
form_and a b = record {
  order = told_and a.order b.order;
  granularity = told_and a.granularity b.granularity;
  field = told_and a.field b.field;
  overload = told_and a.overload b.overload;
  stamp = told_and a.stamp b.stamp;
  ticks = told_and a.ticks b.ticks;
}

-- ---- TIMESTAMP_SUPPORTED

-- how many bytes a timestamp has
abbrev pub sizes : List (List ℕ × ℕ)
sizes =
    (codes "NO_TIME_STAMP", 0)
    ∷ (codes "SIZE_BYTE", 1)
    ∷ (codes "SIZE_WORD", 2)
    ∷ (codes "SIZE_DWORD", 4)
    ∷ []

unfoldable pub size_said : Token → Option ℕ
size_said w = plain_said w >>= meaning sizes

-- the numbers of the units of a timestamp
abbrev pub unit_numbers : List (List ℕ × ℕ)
unit_numbers =
    (codes "UNIT_1NS", 0)
    ∷ (codes "UNIT_10NS", 1)
    ∷ (codes "UNIT_100NS", 2)
    ∷ (codes "UNIT_1US", 3)
    ∷ (codes "UNIT_10US", 4)
    ∷ (codes "UNIT_100US", 5)
    ∷ (codes "UNIT_1MS", 6)
    ∷ (codes "UNIT_10MS", 7)
    ∷ (codes "UNIT_100MS", 8)
    ∷ (codes "UNIT_1S", 9)
    ∷ (codes "UNIT_1PS", 10)
    ∷ (codes "UNIT_10PS", 11)
    ∷ (codes "UNIT_100PS", 12)
    ∷ []

unfoldable pub unit_number : Token → Option ℕ
unit_number w = plain_said w >>= meaning unit_numbers

-- TIMESTAMP_MODE: bytes, whether every list has a timestamp, and the unit
abbrev pub mode_with : ℕ → Bool → ℕ → ℕ
mode_with size fixed unit = size + (if fixed then 8 else 0) + 16 * unit

-- the mode and the ticks; without timestamps there is no unit
unfoldable pub stamp_by : Token → ℕ → Token → Bool → Option (ℕ × ℕ)
stamp_by ticks size unit fixed =
    if size == 0 then Some (0, 0)
    else (ticks_said ticks >>= λ n. unit_number unit >>= λ u. Some (mode_with size fixed u, n))

abbrev pub is_there : Option (List Token) → Bool
is_there None = false
is_there (Some ws) = true

abbrev pub is_fixed : List Token → Bool
is_fixed ws = is_there (behind_keyword (codes "TIMESTAMP_FIXED") ws)

-- ticks, size and unit, in this order, and TIMESTAMP_FIXED anywhere behind them
unfoldable pub stamp_said : List Token → Option (ℕ × ℕ)
stamp_said (ticks ∷ size ∷ unit ∷ ws) =
    size_said size >>= λ bytes. stamp_by ticks bytes unit (is_fixed ws)
stamp_said ws = None

abbrev pub stamps_by : Option (ℕ × ℕ) → PacketForm
stamps_by (Some s) = record nothing_told { stamp = Number s.0; ticks = Number s.1 }
stamps_by None = record nothing_told { stamp = Unclear; ticks = Unclear }

-- what the words of a TIMESTAMP_SUPPORTED tell
abbrev pub stamps_said : List Token → PacketForm
stamps_said ws = stamps_by (stamp_said ws)

-- ---- PROTOCOL_LAYER and DAQ

abbrev pub form_keywords : List (List ℕ × FormKeyword)
form_keywords =
    (codes "BYTE_ORDER_MSB_LAST", keyword.Order 0)
    ∷ (codes "BYTE_ORDER_MSB_FIRST", keyword.Order 1)
    ∷ (codes "ADDRESS_GRANULARITY_BYTE", keyword.Granularity 0)
    ∷ (codes "ADDRESS_GRANULARITY_WORD", keyword.Granularity 1)
    ∷ (codes "ADDRESS_GRANULARITY_DWORD", keyword.Granularity 2)
    ∷ (codes "IDENTIFICATION_FIELD_TYPE_ABSOLUTE", keyword.Field 0)
    ∷ (codes "IDENTIFICATION_FIELD_TYPE_RELATIVE_BYTE", keyword.Field 1)
    ∷ (codes "IDENTIFICATION_FIELD_TYPE_RELATIVE_WORD", keyword.Field 2)
    ∷ (codes "IDENTIFICATION_FIELD_TYPE_RELATIVE_WORD_ALIGNED", keyword.Field 3)
    ∷ (codes "NO_OVERLOAD_INDICATION", keyword.Overload 0)
    ∷ (codes "OVERLOAD_INDICATION_PID", keyword.Overload 1)
    ∷ (codes "OVERLOAD_INDICATION_EVENT", keyword.Overload 2)
    ∷ []

unfoldable pub form_keyword : Token → Option FormKeyword
form_keyword w = plain_said w >>= meaning form_keywords

-- what a keyword tells
abbrev pub tells : Option FormKeyword → PacketForm
tells (Some (keyword.Order n)) = record nothing_told { order = Number n }
tells (Some (keyword.Granularity n)) = record nothing_told { granularity = Number n }
tells (Some (keyword.Field n)) = record nothing_told { field = Number n }
tells (Some (keyword.Overload n)) = record nothing_told { overload = Number n }
tells None = nothing_told

-- what a word tells, with those behind it
abbrev pub told_by : Token → List Token → PacketForm
told_by w ws =
    if is_keyword (codes "TIMESTAMP_SUPPORTED") w then stamps_said ws else tells (form_keyword w)

-- what words tell, behind what was told before
unfoldable pub form_with : PacketForm → List Token → PacketForm
form_with form [] = form
form_with form (w ∷ ws) = form_with (form_and form (told_by w ws)) ws
