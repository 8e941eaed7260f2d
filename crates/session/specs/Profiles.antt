-- What a slave is opened with, and its limits.
use Rattle.std.specs.Prelude.{◌≡◌, ℕ, ◌+◌, ◌≤◌, ◌==◌, ◌||◌, ◌%◌, nat_lt, not, Bool}
use Rattle.std.specs.Prelude.{if◌then◌else◌, All}
use Rattle.std.specs.Prelude.{List, [], ◌∷◌, length, Option, Some, None, is_none}
use Rattle.std.specs.Prelude.{option_map, unwrap_or}
use Rattle.std.specs.List.{list_any}
use Rattle.xcp_base.specs.declared.limits.TheConstants.{MAX_CHANNELS, MAX_CTO, MAX_ENTRIES}
use Rattle.xcp_base.specs.declared.limits.TheConstants.{MAX_NAME, MAX_ODTS_IN_ALL, MAX_PACKET}
use Rattle.xcp_base.specs.declared.limits.TheConstants.{MAX_UNIT, MIN_CTO, MIN_DTO}
use Rattle.frame_ring.specs.declared.limits.TheConstants.{MAX_FRAME_RING, MIN_FRAME_RING}
use Rattle.xcp_base.specs.Forms.{form_with, size_of, usual_form}
use Rattle.daq_store.specs.Calls.{Profile as ListsProfile}
use Rattle.session.specs.declared.profile.Profile.{Profile}
use Rattle.segments.specs.declared.segment.Segment.{Segment}
use Rattle.segments.specs.Faults.{segments_fault}
use Rattle.session.specs.declared.profile.TheConstants.{MAX_TEXT}
use Rattle.session.specs.declared.event_channel.EventChannel.{EventChannel}
use Rattle.session.specs.declared.profile.ProfileFault.{ProfileFault}
use Rattle.session.specs.declared.profile.ProfileFault.TheVariants as fault

-- a byte that is not printable ASCII
abbrev pub is_unprintable : ℕ → Bool
is_unprintable b = nat_lt b 0x20 || nat_lt 0x7E b

-- bytes that are not printable ASCII, or too many
abbrev pub is_bad_name : List ℕ → Bool
is_bad_name name =
    nat_lt MAX_NAME (length name) || list_any is_unprintable name

-- a capacity in bytes that a ring may not have: its unit is a block of eight bytes
abbrev pub is_bad_capacity : ℕ → Bool
is_bad_capacity n = nat_lt n MIN_FRAME_RING || nat_lt MAX_FRAME_RING n || not (n % 8 == 0)

-- the first limit that an event channel is out of, and that event channels are
abbrev pub event_fault : EventChannel → Option ProfileFault
event_fault e =
    if is_bad_name e.name.items then Some fault.EventName
    else if nat_lt MAX_UNIT e.cycle_unit then Some fault.CycleUnit else None

abbrev pub or_else : Option ProfileFault → Option ProfileFault → Option ProfileFault
or_else (Some first) next = Some first
or_else None next = next

abbrev pub events_fault : List EventChannel → Option ProfileFault
events_fault [] = None
events_fault (e ∷ more) = or_else (event_fault e) (events_fault more)

-- its memory
abbrev pub segments_of : Profile → List Segment
segments_of d = d.segments.items

-- the first limit that the numbers of a profile are out of, and its names
abbrev pub numbers_fault : Profile → Option ProfileFault
numbers_fault d =
    if length d.events.items == 0 || nat_lt MAX_CHANNELS (length d.events.items)
    then Some fault.Channels
    else if is_none (size_of d.stamp_size) then Some fault.StampSize
    else if nat_lt MAX_UNIT d.unit then Some fault.Unit
    else if d.ticks == 0 then Some fault.Ticks
    else if list_any (λ e. is_bad_capacity e.capacity) d.events.items
    then Some fault.Capacity else None

abbrev pub names_fault : Profile → Option ProfileFault
names_fault d =
    if is_bad_name d.name.items then Some fault.Name else events_fault d.events.items

-- the first limit that its segments are out of, where there are so many event channels as it has
abbrev pub memory_fault : Profile → Option ProfileFault
memory_fault d = option_map fault.Segments (segments_fault (length d.events.items) (segments_of d))

-- MAX_CTO is out of its limits, or the reply to GET_ID, which has eight bytes before the name, has
-- no room for it
abbrev pub cto_fault : Profile → Option ProfileFault
cto_fault d =
    if nat_lt d.max_cto MIN_CTO || nat_lt MAX_CTO d.max_cto then Some fault.MaxCto
    else if nat_lt d.max_cto (8 + length d.name.items) then Some fault.Name else None

-- a MAX_DTO that a slave may not have
abbrev pub is_bad_dto : ℕ → Bool
is_bad_dto n = nat_lt n MIN_DTO || nat_lt MAX_PACKET n

abbrev pub dto_fault : Profile → Option ProfileFault
dto_fault d = if is_bad_dto d.max_dto then Some fault.MaxDto else None

-- the first limit that its texts of identification are out of
abbrev pub texts_fault : Profile → Option ProfileFault
texts_fault d =
    if is_bad_name d.a2l_name.items then Some fault.A2lName
    else if is_bad_name d.epk.items then Some fault.Epk
    else if nat_lt MAX_TEXT (length d.a2l.items) then Some fault.A2l else None

-- the first limit that a profile is out of
abbrev pub profile_fault : Profile → Option ProfileFault
profile_fault d =
    or_else (numbers_fault d)
    (or_else (names_fault d)
    (or_else (memory_fault d)
    (or_else (cto_fault d) (or_else (dto_fault d) (texts_fault d)))))

-- what its store is made for
abbrev pub lists_of : Profile → ListsProfile
lists_of d =
    record {
      channels = length d.events.items;
      most_odts = MAX_ODTS_IN_ALL;
      most_entries = MAX_ENTRIES;
      segments = segments_of d;
      form = unwrap_or (form_with d.id d.stamp_size d.max_dto) usual_form;
    }

-- the text of GET_ID that UPLOAD reads
abbrev pub id_text : Profile → ℕ → Option (List ℕ)
id_text d kind =
    if kind == 1 then Some d.a2l_name.items
    else if kind == 4 then Some d.a2l.items
    else if kind == 5 then Some d.epk.items
    else None

-- the name of an event channel is short enough
abbrev pub HasShortName : EventChannel → Type 0
HasShortName e = length e.name.items ≤ MAX_NAME

-- a profile within the limits that replies depend on
pub record IsProfile (d : Profile) : Type 0 where
  pub channels : length d.events.items ≤ MAX_CHANNELS
  pub unit : d.unit ≤ MAX_UNIT
  pub stamp : d.stamp_size ≤ 4
  pub name : length d.name.items ≤ MAX_NAME
  pub a2l_name : length d.a2l_name.items ≤ MAX_NAME
  pub epk : length d.epk.items ≤ MAX_NAME
  pub a2l : length d.a2l.items ≤ MAX_TEXT
  pub names : All HasShortName d.events.items
  pub segments : segments_fault (length d.events.items) (segments_of d) ≡ None
  pub least : MIN_CTO ≤ d.max_cto
  pub most : d.max_cto ≤ MAX_CTO
  pub reply : 8 + length d.name.items ≤ d.max_cto
  pub least_dto : MIN_DTO ≤ d.max_dto
  pub most_dto : d.max_dto ≤ MAX_PACKET
