-- The form of DAQ packets (ASAM MCD-1 XCP, protocol layer, identification field and timestamp
-- field): which of the three identification fields they begin with, how many bytes a timestamp has,
-- and a packet at most. One form holds for all packets of a slave.
use Rattle.std.specs.Prelude.{◌≡◌, ℕ, ◌+◌, ◌-◌, ◌*◌, ◌/◌, ◌%◌, ◌≤◌, ◌==◌, ◌&&◌, nat_le, nat_lt, min}
use Rattle.std.specs.Prelude.{Bool}
use Rattle.std.specs.Prelude.{if◌then◌else◌, List, [], ◌∷◌, slice_index}
use Rattle.std.specs.Prelude.{Option, Some, None, option_map}
use Rattle.std.specs.Int.{bytes_low_first}
use Rattle.xcp_base.specs.declared.limits.TheConstants.{MAX_DTO, MAX_ENTRY_SIZE, MAX_LISTS}
use Rattle.xcp_base.specs.declared.limits.TheConstants.{MAX_ODTS_IN_ALL, MAX_PACKET, MIN_DTO}
use Rattle.xcp_base.specs.declared.id_kind.IdKind.{IdKind}
use Rattle.xcp_base.specs.declared.id_kind.IdKind.TheVariants.{Absolute, RelativeByte, RelativeWord}
use Rattle.xcp_base.specs.declared.stamp_size.StampSize.{StampSize}
use Rattle.xcp_base.specs.declared.stamp_size.StampSize.TheVariants.{One, Two, Four}
use Rattle.xcp_base.specs.declared.packet_form.PacketForm.{PacketForm}

-- the bytes of the identification field
abbrev pub field_len : IdKind → ℕ
field_len Absolute = 1
field_len RelativeByte = 2
field_len RelativeWord = 3

-- FIRST_PID of a list, by the number of the ODTs of the lists before it: 0 with a relative ODT
-- number
abbrev pub first_pid_behind : IdKind → ℕ → ℕ
first_pid_behind Absolute before = before
first_pid_behind RelativeByte before = 0
first_pid_behind RelativeWord before = 0

-- the most ODTs of all lists; with a relative ODT number as many as the lists may have
abbrev pub most_odts : IdKind → ℕ
most_odts Absolute = MAX_ODTS_IN_ALL
most_odts RelativeByte = MAX_LISTS * MAX_ODTS_IN_ALL
most_odts RelativeWord = MAX_LISTS * MAX_ODTS_IN_ALL

-- a list with so many ODTs may have this FIRST_PID
abbrev pub FitsFirstPid : IdKind → ℕ → ℕ → Type 0
FitsFirstPid Absolute odts first_pid = first_pid + odts ≤ MAX_ODTS_IN_ALL
FitsFirstPid RelativeByte odts first_pid = first_pid ≡ 0
FitsFirstPid RelativeWord odts first_pid = first_pid ≡ 0

-- the PID of ODT k: FIRST_PID plus k, and 128 more in ODT 0 where overload is indicated. With a
-- relative ODT number, where FIRST_PID is 0, it is k. The overload indication stands in ODT 0 alone
abbrev pub pid_byte : ℕ → ℕ → Bool → ℕ
pid_byte first_pid k overload = first_pid + k + (if k == 0 && overload then 128 else 0)

-- the number of list l as it stands behind the PID
abbrev pub list_field : IdKind → ℕ → List ℕ
list_field Absolute l = []
list_field RelativeByte l = l ∷ []
list_field RelativeWord l = l % 256 ∷ l / 256 ∷ []

-- the identification field of ODT k of list l
abbrev pub id_field : IdKind → ℕ → ℕ → ℕ → Bool → List ℕ
id_field id first_pid l k overload = pid_byte first_pid k overload ∷ list_field id l

-- the PID of a packet, without the overload indication
abbrev pub pid_of : List ℕ → ℕ
pid_of q = slice_index q 0 % 128

-- the identification field names list l, which has so many ODTs from FIRST_PID on: its PID is one
-- of theirs, or the list number behind it is l
abbrev pub names : IdKind → ℕ → ℕ → ℕ → List ℕ → Bool
names Absolute first_pid odts l q =
    nat_le first_pid (pid_of q) && nat_lt (pid_of q) (first_pid + odts)
names RelativeByte first_pid odts l q = slice_index q 1 == l
names RelativeWord first_pid odts l q = slice_index q 1 + 256 * slice_index q 2 == l

-- the bytes of a timestamp
abbrev pub stamp_bytes : StampSize → ℕ
stamp_bytes One = 1
stamp_bytes Two = 2
stamp_bytes Four = 4

-- a timestamp: the lowest bytes of its ticks, least significant first; so these modulo 256, 65536
-- or 2 ^ 32
abbrev pub stamp_field : StampSize → ℕ → List ℕ
stamp_field size ticks = bytes_low_first 0 (stamp_bytes size) ticks

-- the size of so many bytes, if there is one
abbrev pub size_of : ℕ → Option StampSize
size_of bytes =
    if bytes == 1 then Some One
    else if bytes == 2 then Some Two
    else if bytes == 4 then Some Four else None

-- the form with this identification field, timestamps of so many bytes and this MAX_DTO, if there
-- is one
abbrev pub form_with : IdKind → ℕ → ℕ → Option PacketForm
form_with id bytes max_dto =
    option_map (λ size. record { id = id; stamp = size; max_dto = max_dto }) (size_of bytes)

-- the same with MAX_DTO of a run
abbrev pub form_of : IdKind → ℕ → Option PacketForm
form_of id bytes = form_with id bytes MAX_DTO

-- the form that a store has where none is asked for: an absolute ODT number, timestamps of 4 bytes,
-- MAX_DTO of a run
abbrev pub usual_form : PacketForm
usual_form = record { id = Absolute; stamp = Four; max_dto = MAX_DTO }

-- what every form keeps to
abbrev pub IsForm : PacketForm → Type 0
IsForm form = (MIN_DTO ≤ form.max_dto) × (form.max_dto ≤ MAX_PACKET)

-- the most bytes of an entry: a packet has a byte before it
abbrev pub most_entry : PacketForm → ℕ
most_entry form = min (form.max_dto - 1) MAX_ENTRY_SIZE
