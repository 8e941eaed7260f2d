-- A DAQ list as the facts of a set-up tell it: of those that speak of the same thing the newest,
-- which stands at the end, counts.
use Rattle.std.specs.Prelude.{ℕ, ◌/◌, ◌%◌, ◌==◌, ◌&&◌, ◌||◌, not, Bool, true, false, if◌then◌else◌}
use Rattle.std.specs.Prelude.{List, [], ◌∷◌, map, Option, Some, None}
use Rattle.std.specs.List.{range_with_len}
use Rattle.std.specs.Option.{option_or}
use Rattle.captured_session.specs.declared.element.Element.{Element}
use Rattle.captured_session.specs.declared.entry.Entry.{Entry as KnownEntry}
use Rattle.captured_session.specs.declared.entry.Entry.TheVariants.{Is, Open, Unwritten}
use Rattle.captured_session.specs.declared.fact.Fact.{Fact}
use Rattle.captured_session.specs.declared.fact.Fact.TheVariants.{Cleared, Entries, Entry, FirstPid}
use Rattle.captured_session.specs.declared.fact.Fact.TheVariants.{LostAll, LostList, LostOdt, Mode}
use Rattle.captured_session.specs.declared.fact.Fact.TheVariants.{Odts}
use Rattle.captured_session.specs.SetUps.{SetUp}
use Rattle.captured_session.specs.declared.form.Form.{Form}
use Rattle.captured_session.specs.declared.id_field.IdField.{IdField}
use Rattle.captured_session.specs.declared.id_field.IdField.TheVariants.{Absolute}
use Rattle.captured_session.specs.declared.list_mode.ListMode.{ListMode}

-- what the newest fact says that says anything
abbrev pub newest : {A : Type 0} → (Fact → Option A) → List Fact → Option A
newest says [] = None
newest says (fact ∷ later) = option_or (newest says later) (says fact)

-- what is said of it, if it is known
abbrev pub known : {A : Type 0} → Option (Option A) → Option A
known (Some said) = said
known None = None

abbrev pub if_it_is : {A : Type 0} → Bool → A → Option A
if_it_is is a = if is then Some a else None

-- how many ODTs a list has
abbrev pub odts_said : ℕ → Fact → Option (Option ℕ)
odts_said list (Odts l n) = if_it_is (l == list) (Some n)
odts_said list (LostList l) = if_it_is (l == list) None
odts_said list LostAll = Some None
odts_said list _ = None

-- how many entries an ODT has: none where ODTs were allocated behind them
abbrev pub entries_said : ℕ → ℕ → Fact → Option (Option ℕ)
entries_said list odt (Entries l o n) = if_it_is (l == list && o == odt) (Some n)
entries_said list odt (Odts l n) = if_it_is (l == list) (Some 0)
entries_said list odt (LostList l) = if_it_is (l == list) None
entries_said list odt LostAll = Some None
entries_said list odt _ = None

-- what an entry is: not written where entries were allocated behind it, or the list cleared
abbrev pub entry_is : Option Element → KnownEntry
entry_is (Some x) = Is x
entry_is None = Open

abbrev pub entry_said : ℕ → ℕ → ℕ → Fact → Option KnownEntry
entry_said list odt e (Entry l o i x) =
    if_it_is (l == list && o == odt && i == e) (entry_is x)
entry_said list odt e (Entries l o n) = if_it_is (l == list && o == odt) Unwritten
entry_said list odt e (Odts l n) = if_it_is (l == list) Unwritten
entry_said list odt e (Cleared l) = if_it_is (l == list) Unwritten
entry_said list odt e (LostOdt l o) = if_it_is (l == list && o == odt) Open
entry_said list odt e (LostList l) = if_it_is (l == list) Open
entry_said list odt e LostAll = Some Open
entry_said list odt e _ = None

abbrev pub mode_said : ℕ → Fact → Option (Option ListMode)
mode_said list (Mode l mode) = if_it_is (l == list) mode
mode_said list _ = None

abbrev pub first_pid_said : ℕ → Fact → Option ℕ
first_pid_said list (FirstPid l pid) = if_it_is (l == list) pid
first_pid_said list _ = None

-- an entry of which nothing is said isn't known
abbrev pub entry_or_open : Option KnownEntry → KnownEntry
entry_or_open (Some entry) = entry
entry_or_open None = Open

abbrev pub entry_at : List Fact → ℕ → ℕ → ℕ → KnownEntry
entry_at facts list odt e = entry_or_open (newest (entry_said list odt e) facts)

-- entries in their order, if each is known and written
abbrev pub with_entry : KnownEntry → Option (List Element) → Option (List Element)
with_entry Open later = None
with_entry Unwritten later = None
with_entry (Is x) None = None
with_entry (Is x) (Some xs) = Some (x ∷ xs)

abbrev pub written : List KnownEntry → Option (List Element)
written [] = Some []
written (entry ∷ later) = with_entry entry (written later)

-- those of an ODT, by its number of entries; of one without entries it isn't known that it has none
abbrev pub elements_of : List Fact → ℕ → ℕ → Option ℕ → Option (List Element)
elements_of facts list odt None = None
elements_of facts list odt (Some n) =
    if n == 0 then None else written (map (entry_at facts list odt) (range_with_len 0 n))

abbrev pub odt_at : List Fact → ℕ → ℕ → Option (List Element)
odt_at facts list odt = elements_of facts list odt (known (newest (entries_said list odt) facts))

-- all of some, if each is there
abbrev pub with_one : {A : Type 0} → Option A → Option (List A) → Option (List A)
with_one (Some a) (Some later) = Some (a ∷ later)
with_one _ _ = None

abbrev pub all_of : {A : Type 0} → List (Option A) → Option (List A)
all_of [] = Some []
all_of (a ∷ later) = with_one a (all_of later)

-- the ODTs of a list, if each of their entries is known
abbrev pub odts_of : List Fact → ℕ → Option ℕ → Option (List (List Element))
odts_of facts list None = None
odts_of facts list (Some n) = all_of (map (odt_at facts list) (range_with_len 0 n))

abbrev pub odts_at : List Fact → ℕ → Option (List (List Element))
odts_at facts list = odts_of facts list (known (newest (odts_said list) facts))

-- a DAQ list whose packets can be read: the numbers of its set-up, and its entries
pub record ListOf : Type 0 where
  pub list : ℕ
  pub form : Form
  pub mode : ListMode
  pub first_pid : Option ℕ
  pub odts : List (List Element)

-- a bit of a mode: the bit of this value
abbrev pub has_bit : ℕ → ℕ → Bool
has_bit bits value = bits / value % 2 == 1

-- the bytes of a timestamp, in the first packet of a sample: where it is fixed or chosen, as many
-- as TIMESTAMP_MODE says
abbrev pub stamp_len : Form → ListMode → ℕ
stamp_len form mode =
    if has_bit form.stamp 8 || has_bit mode.bits 16 then form.stamp % 8 else 0

abbrev pub is_stamp_len : ℕ → Bool
is_stamp_len n = n == 0 || n == 1 || n == 2 || n == 4

-- a list isn't read whose direction is STIM, or that has DTO counters or no PIDs; nor where an
-- address counts more than a byte
abbrev pub is_plain : Form → ListMode → Bool
is_plain form mode =
    not (has_bit mode.bits 2) && not (has_bit mode.bits 8) && not (has_bit mode.bits 32)
    && form.granularity == 0 && is_stamp_len (stamp_len form mode)

-- the slave told how its packets look, and how timestamps look if the list has them
abbrev pub is_told : Form → ListMode → Bool
is_told form mode =
    form.has_order && form.has_field && (form.has_stamp || not (has_bit mode.bits 16))

-- with an absolute ODT number it has to be known with which PID those of the list begin
abbrev pub has_pids : IdField → Option ℕ → Bool
has_pids Absolute None = false
has_pids _ _ = true

abbrev pub list_of :
    Form → ℕ → Option ListMode → Option ℕ → Option (List (List Element)) → Option ListOf
list_of form list (Some mode) first (Some odts) =
    if is_told form mode && is_plain form mode && has_pids form.field first
    then Some record { list = list; form = form; mode = mode; first_pid = first; odts = odts }
    else None
list_of form list _ first _ = None

-- a list of a set-up, if all is known of it and its packets can be read
abbrev pub list_at : SetUp → ℕ → Option ListOf
list_at s list =
    list_of s.form list (known (newest (mode_said list) s.facts))
    (newest (first_pid_said list) s.facts) (odts_at s.facts list)
