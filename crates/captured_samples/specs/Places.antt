-- Of which ODT of a DAQ list a packet is, and where its bytes stand (ASAM MCD-1 XCP, protocol
-- layer, identification field).
use Rattle.std.specs.Prelude.{ℕ, ◌+◌, ◌-◌, ◌%◌, ◌==◌, ◌&&◌, nat_le, nat_lt, Bool, false, suc, zero}
use Rattle.std.specs.Prelude.{if◌then◌else◌, List, [], ◌∷◌, drop, length, slice_index_or, sum_by}
use Rattle.std.specs.Prelude.{take}
use Rattle.std.specs.Prelude.{Option, Some, None}
use Rattle.captured_session.specs.Commands.{word}
use Rattle.captured_session.specs.Lists.{ListOf, stamp_len}
use Rattle.captured_session.specs.declared.element.Element.{Element}
use Rattle.captured_session.specs.declared.form.Form.{Form}
use Rattle.captured_session.specs.declared.id_field.IdField.{IdField}
use Rattle.captured_session.specs.declared.id_field.IdField.TheVariants.{Absolute, RelativeByte}
use Rattle.captured_session.specs.declared.id_field.IdField.TheVariants.{RelativeWord}
use Rattle.captured_session.specs.declared.id_field.IdField.TheVariants.{RelativeWordAligned}

-- the bytes of the identification field
abbrev pub field_len : IdField → ℕ
field_len Absolute = 1
field_len RelativeByte = 2
field_len RelativeWord = 3
field_len RelativeWordAligned = 4

-- a PID without the overload indication
abbrev pub plain_pid : Form → ℕ → ℕ
plain_pid form pid = if form.has_overload then pid % 128 else pid

abbrev pub below : ℕ → ℕ → Option ℕ
below n k = if nat_lt k n then Some k else None

-- the ODT of an absolute number, of a list whose PIDs begin here
abbrev pub odt_by_pid : ℕ → ℕ → Option ℕ → Option ℕ
odt_by_pid n pid None = None
odt_by_pid n pid (Some first) = if nat_le first pid then below n (pid - first) else None

-- the same of a relative one, where this is the list's number
abbrev pub odt_of_list : ℕ → ℕ → ℕ → ℕ → Option ℕ
odt_of_list list n pid told = if told == list then below n pid else None

abbrev pub odt_by_field : ListOf → IdField → ℕ → List ℕ → Option ℕ
odt_by_field l Absolute pid rest = odt_by_pid (length l.odts) pid l.first_pid
odt_by_field l RelativeByte pid (a ∷ _) = odt_of_list l.list (length l.odts) pid a
odt_by_field l RelativeWord pid (a ∷ b ∷ _) =
    odt_of_list l.list (length l.odts) pid (word l.form.order a b)
odt_by_field l RelativeWordAligned pid (_ ∷ a ∷ b ∷ _) =
    odt_of_list l.list (length l.odts) pid (word l.form.order a b)
odt_by_field l _ pid rest = None

-- of which ODT of a list a packet is, if it is of the list; PIDs from 0xFC on are those of no ODT
abbrev pub odt_in : ListOf → List ℕ → Option ℕ
odt_in l [] = None
odt_in l (pid ∷ rest) =
    if nat_le 0xFC pid then None else odt_by_field l l.form.field (plain_pid l.form pid) rest

-- whether it has the overload indication
abbrev pub has_overload : ListOf → List ℕ → Bool
has_overload l [] = false
has_overload l (pid ∷ rest) = l.form.has_overload && nat_le 128 pid

-- what stands in front of the entries in the packet of ODT k: the identification field, and in the
-- first one the timestamp
abbrev pub head_len : ListOf → ℕ → ℕ
head_len l zero = field_len l.form.field + stamp_len l.form l.mode
head_len l (suc k) = field_len l.form.field

-- the bytes of the entries of an ODT
abbrev pub size_of : List Element → ℕ
size_of entries = sum_by (λ (x : Element). x.size) entries

abbrev pub body_len : ListOf → ℕ → ℕ
body_len l k = size_of (slice_index_or l.odts k [])

-- a packet of ODT k has all bytes of the entries; more may stand behind them
abbrev pub fits : ListOf → ℕ → List ℕ → Bool
fits l k packet = nat_le (head_len l k + body_len l k) (length packet)

abbrev pub body_of : ListOf → ℕ → List ℕ → List ℕ
body_of l k packet = take (body_len l k) (drop (head_len l k) packet)
