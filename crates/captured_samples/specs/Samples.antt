-- The samples of a DAQ list, in its packets.
use Rattle.std.specs.Prelude.{ℕ, ◌+◌, ◌==◌, ◌&&◌, ◌||◌, Bool, if◌then◌else◌, List, [], ◌∷◌, ◌++◌}
use Rattle.std.specs.Prelude.{drop, length, nat_lt, Option, Some, None}
use Rattle.std.specs.List.{list_any}
use Rattle.measured_values.specs.declared.byte_order.ByteOrder.{ByteOrder}
use Rattle.captured_session.specs.Commands.{dword, word}
use Rattle.captured_session.specs.Lists.{ListOf, stamp_len}
use Rattle.captured_samples.specs.Places.{body_of, field_len, fits, has_overload, odt_in}

-- the packets of a list that are under way behind those that were: one of ODT 0 begins a sample,
-- one of the next ODT goes on with it; one that is out of turn, or too short, breaks it off
abbrev pub behind_at : ListOf → List (List ℕ) → List ℕ → Option ℕ → List (List ℕ)
behind_at l before packet None = before
behind_at l before packet (Some k) =
    if fits l k packet && (k == 0 || k == length before)
    then (if k == 0 then [] else before) ++ packet ∷ []
    else []

abbrev pub behind : ListOf → List (List ℕ) → List ℕ → List (List ℕ)
behind l before packet = behind_at l before packet (odt_in l packet)

-- the same after a whole history, with the newest in front; `None` is a gap, behind which none is
-- under way
abbrev pub under_way : ListOf → List (Option (List ℕ)) → List (List ℕ)
under_way l [] = []
under_way l (None ∷ before) = []
under_way l (Some packet ∷ before) = behind l (under_way l before) packet

-- a number of the bytes in front
abbrev pub byte_in : List ℕ → Option ℕ
byte_in (a ∷ _) = Some a
byte_in _ = None

abbrev pub word_in : ByteOrder → List ℕ → Option ℕ
word_in order (a ∷ b ∷ _) = Some (word order a b)
word_in order _ = None

abbrev pub dword_in : ByteOrder → List ℕ → Option ℕ
dword_in order (a ∷ b ∷ c ∷ d ∷ _) = Some (dword order a b c d)
dword_in order _ = None

abbrev pub number_in : ByteOrder → ℕ → List ℕ → Option ℕ
number_in order n bytes =
    if n == 1 then byte_in bytes
    else if n == 2 then word_in order bytes
    else if n == 4 then dword_in order bytes
    else None

-- the timestamp of a first packet
abbrev pub ticks_in : ListOf → List ℕ → Option ℕ
ticks_in l packet =
    number_in l.form.order (stamp_len l.form l.mode) (drop (field_len l.form.field) packet)

abbrev pub ticks_of : ListOf → List (List ℕ) → Option ℕ
ticks_of l [] = None
ticks_of l (packet ∷ _) = ticks_in l packet

-- the bytes of the entries, ODT by ODT, of which this is the first
abbrev pub bytes_from : ListOf → ℕ → List (List ℕ) → List ℕ
bytes_from l k [] = []
bytes_from l k (packet ∷ later) = body_of l k packet ++ bytes_from l (k + 1) later

-- what packets from ODT 0 on show: how many they are, whether one has the overload indication, the
-- timestamp, the bytes of the entries. They are a whole sample if they are as many as there are
-- ODTs
pub record ShownOf : Type 0 where
  pub list : ListOf
  pub packets : ℕ
  pub overload : Bool
  pub ticks : Option ℕ
  pub bytes : List ℕ

abbrev pub shown_of : ListOf → List (List ℕ) → ShownOf
shown_of l packets = record {
  list = l;
  packets = length packets;
  overload = list_any (has_overload l) packets;
  ticks = ticks_of l packets;
  bytes = bytes_from l 0 packets;
}

-- whether some packets of a sample came, but not all
abbrev pub is_begun : ShownOf → Bool
is_begun shown = nat_lt 0 shown.packets && nat_lt shown.packets (length shown.list.odts)
