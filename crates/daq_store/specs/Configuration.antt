-- What is set of one DAQ list, and when that is enough to start it.
use Rattle.std.specs.Prelude.{◌<◌, ◌≤◌, IfSome, All, ℕ, ◌&&◌, nat_lt, nat_le, Bool}
use Rattle.std.specs.Prelude.{false, List, [], length, map, slice_get, sum_by}
use Rattle.std.specs.Prelude.{Option, Some, None, is_some, option_and_then, unwrap_or}
use Rattle.std.specs.List.{list_all}
use Rattle.xcp_base.specs.declared.limits.TheConstants.{MAX_CHANNELS, MAX_ENTRIES}
use Rattle.xcp_base.specs.declared.limits.TheConstants.{MAX_ENTRY_SIZE, MAX_ODTS_IN_ALL}
use Rattle.xcp_base.specs.declared.packet_form.PacketForm.{PacketForm}
use Rattle.xcp_base.specs.Forms.{IsForm}
use Rattle.xcp_base.specs.Packets.{packet_len}
use Rattle.segments.specs.declared.segment.Segment.{Segment}
use Rattle.segments.specs.Places.{is_readable}
use Rattle.daq_store.specs.declared.command.Command.{Command}
use Rattle.daq_store.specs.declared.mode.Mode.{Mode}
use Rattle.daq_store.specs.declared.entry.Entry.{Entry}
use Rattle.daq_store.specs.Calls.{Profile, numbers_below}
use Rattle.daq_store.specs.Shape.{odt_count}
use Rattle.daq_store.specs.Entries.{odt_of}
use Rattle.daq_store.specs.Modes.{mode_of}

-- a list as it is set: the form of its packets, its mode, if one was set, and for each ODT its
-- entries, of which some may be unwritten
pub record Configuration : Type 0 where
  pub form : PacketForm
  pub mode : Option Mode
  pub odts : List (List (Option Entry))

-- what is set of list l, in a store whose packets have this form
abbrev pub configuration : PacketForm → List Command → ℕ → Configuration
configuration form calls l =
    record {
      form = form;
      mode = mode_of calls l;
      odts = map (odt_of calls l) (numbers_below (odt_count calls l));
    }

-- a list as it is when it is allocated
abbrev pub fresh_conf : PacketForm → Configuration
fresh_conf form = record { form = form; mode = None; odts = [] }

-- the entries of ODT k; none where there is no such ODT
abbrev pub odt_entries : Configuration → ℕ → List (Option Entry)
odt_entries c k = unwrap_or (slice_get c.odts k) []

-- entry e of ODT k, where it is there and written
abbrev pub entry_of : Configuration → ℕ → ℕ → Option Entry
entry_of c k e = option_and_then (λ entry. entry) (slice_get (odt_entries c k) e)

-- what the mode of a list shows; 0 and false without a mode
abbrev pub channel_of : Option Mode → ℕ
channel_of (Some m) = m.channel
channel_of None = 0

abbrev pub prescaler_of : Option Mode → ℕ
prescaler_of (Some m) = m.prescaler
prescaler_of None = 0

abbrev pub is_stamped : Option Mode → Bool
is_stamped (Some m) = m.stamped
is_stamped None = false

abbrev pub priority_of : Option Mode → ℕ
priority_of (Some m) = m.priority
priority_of None = 0

-- the bytes of an entry
abbrev pub entry_len : Option Entry → ℕ
entry_len (Some entry) = entry.size
entry_len None = 0

-- the bytes of the entries of ODT k
abbrev pub entries_len : Configuration → ℕ → ℕ
entries_len c k = sum_by entry_len (odt_entries c k)

-- the entry is written and lies in a segment that event channel c may read
abbrev pub is_within : ℕ → List Segment → Option Entry → Bool
is_within c segments (Some entry) =
    is_readable c segments entry.extension entry.address entry.size
is_within c segments None = false

-- there are entries, and each is written and lies in a segment that event channel c may read
abbrev pub is_filled : ℕ → List Segment → List (Option Entry) → Bool
is_filled c segments entries =
    nat_lt 0 (length entries) && list_all (is_within c segments) entries

-- the packet of ODT k has at most MAX_DTO bytes
abbrev pub is_short : Configuration → ℕ → Bool
is_short c k = nat_le (packet_len c.form (is_stamped c.mode) k (entries_len c k)) c.form.max_dto

-- the packet of each ODT is short enough
abbrev pub are_short : Configuration → Bool
are_short c = list_all (is_short c) (numbers_below (length c.odts))

-- a mode was set, there is an ODT, each ODT is filled for the event channel of the mode, and each
-- packet is short enough
abbrev pub is_ready : List Segment → Configuration → Bool
is_ready segments c =
    is_some c.mode && nat_lt 0 (length c.odts)
    && list_all (is_filled (channel_of c.mode) segments) c.odts && are_short c

-- list l is ready
abbrev pub list_is_ready : Profile → List Command → ℕ → Bool
list_is_ready profile calls l = is_ready profile.segments (configuration profile.form calls l)

-- a mode names one of the channels that there may be, and a prescaler of at least 1
abbrev pub IsMode : Mode → Type 0
IsMode m = (m.channel < MAX_CHANNELS) × (0 < m.prescaler)

-- an entry, if it is written, has 1 to MAX_ENTRY_SIZE bytes
abbrev pub IsEntry : Option Entry → Type 0
IsEntry entry = IfSome entry (λ x. (0 < x.size) × (x.size ≤ MAX_ENTRY_SIZE))

-- an ODT has at most MAX_ENTRIES entries
pub record IsOdt (entries : List (Option Entry)) : Type 0 where
  pub count : length entries ≤ MAX_ENTRIES
  pub sizes : All IsEntry entries

-- what every list keeps to, ready or not
pub record IsWithinLimits (c : Configuration) : Type 0 where
  pub mode : IfSome c.mode IsMode
  pub form : IsForm c.form
  pub count : length c.odts ≤ MAX_ODTS_IN_ALL
  pub odts : All IsOdt c.odts
