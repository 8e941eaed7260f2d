-- Worked exchanges of slaves whose memory has several segments. Each has one event channel, an absolute ODT number and timestamps
-- of 4 bytes.
use Rattle.std.proofs.Common.{◌≡◌, ◌<◌, ℕ, List, [], ◌∷◌, length, map, replicate, Option, Some, None, true, false, lit<, refl}
use Rattle.std.specs.declared.alloc.Global.{Global}
use Rattle.std.specs.declared.vec.Vec.{Vec}
use Rattle.std.proofs.Math.Nat.{le_refl}
use Rattle.xcp_base.specs.declared.id_kind.IdKind.TheVariants.{Absolute}
use Rattle.segments.specs.declared.segment.Segment.{Segment}
use Rattle.session.specs.declared.event_channel.EventChannel.{EventChannel}
use Rattle.session.specs.declared.profile.Profile.{Profile}
use Rattle.session.specs.declared.profile.ProfileFault.TheVariants.{Capacity, Channels, Name, Segments}
use Rattle.segments.specs.declared.fault.SegmentFault.TheVariants.{Events, Number}
use Rattle.session.specs.Exchanges.{master_reply, past_after_packet}
use Rattle.session.specs.Past.{Past, new_past}
use Rattle.session.specs.Profiles.{is_bad_capacity, profile_fault}

-- the replies to packets, with this memory at each of them
abbrev pub replies : Profile → List (List ℕ) → Past → List (List ℕ) → List (Option (List ℕ))
replies d memory past [] = []
replies d memory past (packet ∷ more) =
    master_reply d past (record { clock = 0; memory = memory }) packet
    ∷ replies d memory (past_after_packet d past (record { clock = 0; memory = memory }) packet) more

abbrev pub connected : Past
connected = record new_past { connected = true }

-- a vector of these items, at the place of another
abbrev pub with : {X : Type 0} → Vec X Global → (xs : List X) → length xs < 9223372036854775808 → Vec X Global
with v xs small = record { ptr = v.ptr; len = length xs; cap = length xs; alloc = v.alloc; items = xs; ok = (refl, le_refl (length xs)); small = small }

-- the profile of these segments, with the places of another
abbrev pub over : Profile → (xs : List Segment) → length xs < 9223372036854775808 → Profile
over d xs small =
    record {
      segments = with d.segments xs small;
      id = Absolute;
      stamp_size = 4;
      unit = 3;
      ticks = 1;
      max_cto = 64;
      max_dto = 64;
      name = with d.name [] (lit< tt);
      events = with d.events (record { capacity = 4096; name = with d.name (0x65 ∷ 0x30 ∷ []) (lit< tt); cycle = 0; cycle_unit = 0; priority = 0 } ∷ []) (lit< tt);
      a2l_name = with d.a2l_name [] (lit< tt);
      epk = with d.epk (0x76 ∷ 0x31 ∷ []) (lit< tt);
      a2l = with d.a2l [] (lit< tt);
    }

-- two segments of extension 0, of which the event channel may read the first, and one of extension 1
abbrev pub over_three : Profile → Profile
over_three d = over d (
    record { extension = 0; base = 0x1000; len = 16; events = 0x01 }
    ∷ record { extension = 0; base = 0x2000; len = 8; events = 0x00 }
    ∷ record { extension = 1; base = 0; len = 4; events = 0x01 } ∷ []
    ) (lit< tt)

abbrev pub three_parts : List (List ℕ)
three_parts =
    (0x00 ∷ 0x01 ∷ 0x02 ∷ 0x03 ∷ 0x04 ∷ 0x05 ∷ 0x06 ∷ 0x07 ∷ 0x08 ∷ 0x09 ∷ 0x0A ∷ 0x0B ∷ 0x0C ∷ 0x0D ∷ 0x0E ∷ 0x0F ∷ [])
    ∷ (0x20 ∷ 0x21 ∷ 0x22 ∷ 0x23 ∷ 0x24 ∷ 0x25 ∷ 0x26 ∷ 0x27 ∷ []) ∷ (0xA0 ∷ 0xA1 ∷ 0xA2 ∷ 0xA3 ∷ []) ∷ []

abbrev without_the_second : List (List ℕ)
without_the_second = [] ∷ [] ∷ (0xA0 ∷ 0xA1 ∷ 0xA2 ∷ 0xA3 ∷ []) ∷ []

three_are_within : (d : Profile) → profile_fault (over_three d) ≡ None
three_are_within d = refl

-- segments that touch, at the first and last addresses, and of two extensions
abbrev over_six : Profile → Profile
over_six d = over d (
    record { extension = 0; base = 0; len = 1; events = 0x01 }
    ∷ record { extension = 0; base = 0x1000; len = 2; events = 0x01 }
    ∷ record { extension = 0; base = 0x1002; len = 2; events = 0x01 }
    ∷ record { extension = 0; base = 0xFFFFFFFF; len = 1; events = 0x01 }
    ∷ record { extension = 1; base = 0; len = 1; events = 0x01 }
    ∷ record { extension = 1; base = 0x1000; len = 4; events = 0x01 } ∷ []
    ) (lit< tt)

abbrev six_parts : List (List ℕ)
six_parts =
    (0x77 ∷ []) ∷ (0x10 ∷ 0x11 ∷ []) ∷ (0x12 ∷ 0x13 ∷ []) ∷ (0xFF ∷ []) ∷ (0xB0 ∷ [])
    ∷ (0xB1 ∷ 0xB2 ∷ 0xB3 ∷ 0xB4 ∷ []) ∷ []

six_are_within : (d : Profile) → profile_fault (over_six d) ≡ None
six_are_within d = refl

-- the EPK is named, and read
texts : (d : Profile) →
    replies (over_three d) three_parts new_past
    ((0xFF ∷ 0x00 ∷ [])
    ∷ (0xFA ∷ 0x05 ∷ [])
    ∷ (0xF5 ∷ 0x02 ∷ []) ∷ [])
    ≡ map Some ((0xFF ∷ 0x04 ∷ 0x80 ∷ 0x40 ∷ 0x40 ∷ 0x00 ∷ 0x01 ∷ 0x01 ∷ [])
    ∷ (0xFF ∷ 0x00 ∷ 0x00 ∷ 0x00 ∷ 0x02 ∷ 0x00 ∷ 0x00 ∷ 0x00 ∷ [])
    ∷ (0xFF ∷ 0x76 ∷ 0x31 ∷ []) ∷ [])
texts d = refl

-- memory is read from an address on, and UPLOAD goes on behind it; at the end of a segment nothing is left
reading : (d : Profile) →
    replies (over_three d) three_parts connected
    ((0xF4 ∷ 0x04 ∷ 0x00 ∷ 0x00 ∷ 0x04 ∷ 0x10 ∷ 0x00 ∷ 0x00 ∷ [])
    ∷ (0xF5 ∷ 0x02 ∷ [])
    ∷ (0xF4 ∷ 0x04 ∷ 0x00 ∷ 0x00 ∷ 0x01 ∷ 0x00 ∷ 0x00 ∷ 0x00 ∷ [])
    ∷ (0xF4 ∷ 0x02 ∷ 0x00 ∷ 0x01 ∷ 0x02 ∷ 0x00 ∷ 0x00 ∷ 0x00 ∷ [])
    ∷ (0xF5 ∷ 0x01 ∷ [])
    ∷ (0xF6 ∷ 0x00 ∷ 0x00 ∷ 0x00 ∷ 0x0F ∷ 0x10 ∷ 0x00 ∷ 0x00 ∷ [])
    ∷ (0xF5 ∷ 0x01 ∷ [])
    ∷ (0xF6 ∷ 0x00 ∷ 0x00 ∷ 0x00 ∷ 0x0E ∷ 0x20 ∷ 0x00 ∷ 0x00 ∷ [])
    ∷ (0xF4 ∷ 0x02 ∷ 0x00 ∷ 0x00 ∷ 0x00 ∷ 0x20 ∷ 0x00 ∷ 0x00 ∷ []) ∷ [])
    ≡ map Some ((0xFF ∷ 0x04 ∷ 0x05 ∷ 0x06 ∷ 0x07 ∷ [])
    ∷ (0xFF ∷ 0x08 ∷ 0x09 ∷ [])
    ∷ (0xFE ∷ 0x22 ∷ [])
    ∷ (0xFF ∷ 0xA2 ∷ 0xA3 ∷ [])
    ∷ (0xFE ∷ 0x22 ∷ [])
    ∷ (0xFF ∷ [])
    ∷ (0xFF ∷ 0x0F ∷ [])
    ∷ (0xFE ∷ 0x22 ∷ [])
    ∷ (0xFF ∷ 0x20 ∷ 0x21 ∷ []) ∷ [])
reading d = refl

-- a command that is refused leaves what UPLOAD reads
reading_on : (d : Profile) →
    replies (over_three d) three_parts connected
    ((0xF6 ∷ 0x00 ∷ 0x00 ∷ 0x00 ∷ 0x0E ∷ 0x10 ∷ 0x00 ∷ 0x00 ∷ [])
    ∷ (0xF5 ∷ 0x03 ∷ [])
    ∷ (0xF5 ∷ 0x02 ∷ [])
    ∷ (0xF5 ∷ 0x01 ∷ [])
    ∷ (0xF6 ∷ 0x00 ∷ 0x00 ∷ 0x00 ∷ 0x0F ∷ 0x10 ∷ 0x00 ∷ 0x00 ∷ [])
    ∷ (0xF4 ∷ 0x04 ∷ 0x00 ∷ 0x00 ∷ 0x01 ∷ 0x00 ∷ 0x00 ∷ 0x00 ∷ [])
    ∷ (0xF5 ∷ 0x01 ∷ []) ∷ [])
    ≡ map Some ((0xFF ∷ [])
    ∷ (0xFE ∷ 0x22 ∷ [])
    ∷ (0xFF ∷ 0x0E ∷ 0x0F ∷ [])
    ∷ (0xFE ∷ 0x22 ∷ [])
    ∷ (0xFF ∷ [])
    ∷ (0xFE ∷ 0x22 ∷ [])
    ∷ (0xFF ∷ 0x0F ∷ []) ∷ [])
reading_on d = refl

-- a segment that isn't there is told from bytes that lie in none
not_there : (d : Profile) →
    replies (over_three d) without_the_second connected
    ((0xF4 ∷ 0x02 ∷ 0x00 ∷ 0x00 ∷ 0x00 ∷ 0x20 ∷ 0x00 ∷ 0x00 ∷ [])
    ∷ (0xF4 ∷ 0x02 ∷ 0x00 ∷ 0x00 ∷ 0x00 ∷ 0x30 ∷ 0x00 ∷ 0x00 ∷ []) ∷ [])
    ≡ map Some ((0xFE ∷ 0x24 ∷ [])
    ∷ (0xFE ∷ 0x22 ∷ []) ∷ [])
not_there d = refl

-- that bytes are too many is told first
nothing_there : (d : Profile) →
    replies (over_three d) [] connected
    ((0xF4 ∷ 0x40 ∷ 0x00 ∷ 0x00 ∷ 0x00 ∷ 0x10 ∷ 0x00 ∷ 0x00 ∷ [])
    ∷ (0xF4 ∷ 0x3F ∷ 0x00 ∷ 0x00 ∷ 0x00 ∷ 0x10 ∷ 0x00 ∷ 0x00 ∷ [])
    ∷ (0xF4 ∷ 0x02 ∷ 0x00 ∷ 0x00 ∷ 0x00 ∷ 0x10 ∷ 0x00 ∷ 0x00 ∷ []) ∷ [])
    ≡ map Some ((0xFE ∷ 0x22 ∷ [])
    ∷ (0xFE ∷ 0x22 ∷ [])
    ∷ (0xFE ∷ 0x24 ∷ []) ∷ [])
nothing_there d = refl

-- entries in two segments that the event channel may read, and READ_DAQ of the first
starting : (d : Profile) →
    replies (over_three d) [] connected
    ((0xD5 ∷ 0x00 ∷ 0x01 ∷ 0x00 ∷ [])
    ∷ (0xD4 ∷ 0x00 ∷ 0x00 ∷ 0x00 ∷ 0x01 ∷ [])
    ∷ (0xD3 ∷ 0x00 ∷ 0x00 ∷ 0x00 ∷ 0x00 ∷ 0x02 ∷ [])
    ∷ (0xE2 ∷ 0x00 ∷ 0x00 ∷ 0x00 ∷ 0x00 ∷ 0x00 ∷ [])
    ∷ (0xE1 ∷ 0xFF ∷ 0x02 ∷ 0x01 ∷ 0x02 ∷ 0x00 ∷ 0x00 ∷ 0x00 ∷ [])
    ∷ (0xE1 ∷ 0xFF ∷ 0x04 ∷ 0x00 ∷ 0x04 ∷ 0x10 ∷ 0x00 ∷ 0x00 ∷ [])
    ∷ (0xE0 ∷ 0x00 ∷ 0x00 ∷ 0x00 ∷ 0x00 ∷ 0x00 ∷ 0x01 ∷ 0x00 ∷ [])
    ∷ (0xDE ∷ 0x01 ∷ 0x00 ∷ 0x00 ∷ [])
    ∷ (0xDE ∷ 0x00 ∷ 0x00 ∷ 0x00 ∷ [])
    ∷ (0xE2 ∷ 0x00 ∷ 0x00 ∷ 0x00 ∷ 0x00 ∷ 0x00 ∷ [])
    ∷ (0xDB ∷ []) ∷ [])
    ≡ map Some ((0xFF ∷ [])
    ∷ (0xFF ∷ [])
    ∷ (0xFF ∷ [])
    ∷ (0xFF ∷ [])
    ∷ (0xFF ∷ [])
    ∷ (0xFF ∷ [])
    ∷ (0xFF ∷ [])
    ∷ (0xFF ∷ 0x00 ∷ [])
    ∷ (0xFF ∷ 0x00 ∷ [])
    ∷ (0xFF ∷ [])
    ∷ (0xFF ∷ 0xFF ∷ 0x02 ∷ 0x01 ∷ 0x02 ∷ 0x00 ∷ 0x00 ∷ 0x00 ∷ []) ∷ [])
starting d = refl

-- an entry in a segment that it may not read, and entries that lie in none
not_starting : (d : Profile) →
    replies (over_three d) [] connected
    ((0xD5 ∷ 0x00 ∷ 0x01 ∷ 0x00 ∷ [])
    ∷ (0xD4 ∷ 0x00 ∷ 0x00 ∷ 0x00 ∷ 0x01 ∷ [])
    ∷ (0xD3 ∷ 0x00 ∷ 0x00 ∷ 0x00 ∷ 0x00 ∷ 0x01 ∷ [])
    ∷ (0xE2 ∷ 0x00 ∷ 0x00 ∷ 0x00 ∷ 0x00 ∷ 0x00 ∷ [])
    ∷ (0xE1 ∷ 0xFF ∷ 0x01 ∷ 0x00 ∷ 0x10 ∷ 0x10 ∷ 0x00 ∷ 0x00 ∷ [])
    ∷ (0xE1 ∷ 0xFF ∷ 0x01 ∷ 0x00 ∷ 0xFF ∷ 0x0F ∷ 0x00 ∷ 0x00 ∷ [])
    ∷ (0xE1 ∷ 0xFF ∷ 0x01 ∷ 0x02 ∷ 0x00 ∷ 0x00 ∷ 0x00 ∷ 0x00 ∷ [])
    ∷ (0xE1 ∷ 0xFF ∷ 0x01 ∷ 0x00 ∷ 0x00 ∷ 0x20 ∷ 0x00 ∷ 0x00 ∷ [])
    ∷ (0xE0 ∷ 0x00 ∷ 0x00 ∷ 0x00 ∷ 0x00 ∷ 0x00 ∷ 0x01 ∷ 0x00 ∷ [])
    ∷ (0xDE ∷ 0x01 ∷ 0x00 ∷ 0x00 ∷ []) ∷ [])
    ≡ map Some ((0xFF ∷ [])
    ∷ (0xFF ∷ [])
    ∷ (0xFF ∷ [])
    ∷ (0xFF ∷ [])
    ∷ (0xFE ∷ 0x22 ∷ [])
    ∷ (0xFE ∷ 0x22 ∷ [])
    ∷ (0xFE ∷ 0x22 ∷ [])
    ∷ (0xFF ∷ [])
    ∷ (0xFF ∷ [])
    ∷ (0xFE ∷ 0x2A ∷ []) ∷ [])
not_starting d = refl

-- where two segments touch no command crosses, but the next one goes on; behind the last address is nothing
seams : (d : Profile) →
    replies (over_six d) six_parts connected
    ((0xF4 ∷ 0x03 ∷ 0x00 ∷ 0x00 ∷ 0x00 ∷ 0x10 ∷ 0x00 ∷ 0x00 ∷ [])
    ∷ (0xF4 ∷ 0x02 ∷ 0x00 ∷ 0x00 ∷ 0x00 ∷ 0x10 ∷ 0x00 ∷ 0x00 ∷ [])
    ∷ (0xF5 ∷ 0x02 ∷ [])
    ∷ (0xF4 ∷ 0x01 ∷ 0x00 ∷ 0x00 ∷ 0xFF ∷ 0xFF ∷ 0xFF ∷ 0xFF ∷ [])
    ∷ (0xF5 ∷ 0x01 ∷ []) ∷ [])
    ≡ map Some ((0xFE ∷ 0x22 ∷ [])
    ∷ (0xFF ∷ 0x10 ∷ 0x11 ∷ [])
    ∷ (0xFF ∷ 0x12 ∷ 0x13 ∷ [])
    ∷ (0xFF ∷ 0xFF ∷ [])
    ∷ (0xFE ∷ 0x22 ∷ []) ∷ [])
seams d = refl

-- nor does an entry
entries_at_seams : (d : Profile) →
    replies (over_six d) [] connected
    ((0xD5 ∷ 0x00 ∷ 0x01 ∷ 0x00 ∷ [])
    ∷ (0xD4 ∷ 0x00 ∷ 0x00 ∷ 0x00 ∷ 0x01 ∷ [])
    ∷ (0xD3 ∷ 0x00 ∷ 0x00 ∷ 0x00 ∷ 0x00 ∷ 0x04 ∷ [])
    ∷ (0xE2 ∷ 0x00 ∷ 0x00 ∷ 0x00 ∷ 0x00 ∷ 0x00 ∷ [])
    ∷ (0xE1 ∷ 0xFF ∷ 0x02 ∷ 0x00 ∷ 0x01 ∷ 0x10 ∷ 0x00 ∷ 0x00 ∷ [])
    ∷ (0xE1 ∷ 0xFF ∷ 0x02 ∷ 0x00 ∷ 0x00 ∷ 0x10 ∷ 0x00 ∷ 0x00 ∷ [])
    ∷ (0xE1 ∷ 0xFF ∷ 0x02 ∷ 0x00 ∷ 0x02 ∷ 0x10 ∷ 0x00 ∷ 0x00 ∷ [])
    ∷ (0xE1 ∷ 0xFF ∷ 0x02 ∷ 0x01 ∷ 0x02 ∷ 0x10 ∷ 0x00 ∷ 0x00 ∷ [])
    ∷ (0xE1 ∷ 0xFF ∷ 0x01 ∷ 0x01 ∷ 0x00 ∷ 0x00 ∷ 0x00 ∷ 0x00 ∷ [])
    ∷ (0xE0 ∷ 0x00 ∷ 0x00 ∷ 0x00 ∷ 0x00 ∷ 0x00 ∷ 0x01 ∷ 0x00 ∷ [])
    ∷ (0xDE ∷ 0x01 ∷ 0x00 ∷ 0x00 ∷ [])
    ∷ (0xDE ∷ 0x00 ∷ 0x00 ∷ 0x00 ∷ [])
    ∷ (0xE2 ∷ 0x00 ∷ 0x00 ∷ 0x00 ∷ 0x00 ∷ 0x00 ∷ [])
    ∷ (0xDB ∷ [])
    ∷ (0xDB ∷ [])
    ∷ (0xDB ∷ [])
    ∷ (0xDB ∷ []) ∷ [])
    ≡ map Some ((0xFF ∷ [])
    ∷ (0xFF ∷ [])
    ∷ (0xFF ∷ [])
    ∷ (0xFF ∷ [])
    ∷ (0xFE ∷ 0x22 ∷ [])
    ∷ (0xFF ∷ [])
    ∷ (0xFF ∷ [])
    ∷ (0xFF ∷ [])
    ∷ (0xFF ∷ [])
    ∷ (0xFF ∷ [])
    ∷ (0xFF ∷ 0x00 ∷ [])
    ∷ (0xFF ∷ 0x00 ∷ [])
    ∷ (0xFF ∷ [])
    ∷ (0xFF ∷ 0xFF ∷ 0x02 ∷ 0x00 ∷ 0x00 ∷ 0x10 ∷ 0x00 ∷ 0x00 ∷ [])
    ∷ (0xFF ∷ 0xFF ∷ 0x02 ∷ 0x00 ∷ 0x02 ∷ 0x10 ∷ 0x00 ∷ 0x00 ∷ [])
    ∷ (0xFF ∷ 0xFF ∷ 0x02 ∷ 0x01 ∷ 0x02 ∷ 0x10 ∷ 0x00 ∷ 0x00 ∷ [])
    ∷ (0xFF ∷ 0xFF ∷ 0x01 ∷ 0x01 ∷ 0x00 ∷ 0x00 ∷ 0x00 ∷ 0x00 ∷ []) ∷ [])
entries_at_seams d = refl

-- WRITE_DAQ_MULTIPLE writes extensions too, up to the entry that lies in no segment
many_at_once : (d : Profile) →
    replies (over_six d) [] connected
    ((0xD5 ∷ 0x00 ∷ 0x01 ∷ 0x00 ∷ [])
    ∷ (0xD4 ∷ 0x00 ∷ 0x00 ∷ 0x00 ∷ 0x01 ∷ [])
    ∷ (0xD3 ∷ 0x00 ∷ 0x00 ∷ 0x00 ∷ 0x00 ∷ 0x03 ∷ [])
    ∷ (0xE2 ∷ 0x00 ∷ 0x00 ∷ 0x00 ∷ 0x00 ∷ 0x00 ∷ [])
    ∷ (0xC7 ∷ 0x03 ∷ 0xFF ∷ 0x02 ∷ 0x00 ∷ 0x10 ∷ 0x00 ∷ 0x00 ∷ 0x01 ∷ 0x00 ∷ 0xFF ∷ 0x01 ∷ 0x00 ∷ 0x00 ∷ 0x00 ∷ 0x00 ∷ 0x01 ∷ 0x00 ∷ 0xFF ∷ 0x02 ∷ 0x01 ∷ 0x10 ∷ 0x00 ∷ 0x00 ∷ 0x00 ∷ 0x00 ∷ [])
    ∷ (0xE2 ∷ 0x00 ∷ 0x00 ∷ 0x00 ∷ 0x00 ∷ 0x00 ∷ [])
    ∷ (0xDB ∷ [])
    ∷ (0xDB ∷ [])
    ∷ (0xDB ∷ []) ∷ [])
    ≡ map Some ((0xFF ∷ [])
    ∷ (0xFF ∷ [])
    ∷ (0xFF ∷ [])
    ∷ (0xFF ∷ [])
    ∷ (0xFE ∷ 0x22 ∷ [])
    ∷ (0xFF ∷ [])
    ∷ (0xFF ∷ 0xFF ∷ 0x02 ∷ 0x01 ∷ 0x00 ∷ 0x10 ∷ 0x00 ∷ 0x00 ∷ [])
    ∷ (0xFF ∷ 0xFF ∷ 0x01 ∷ 0x01 ∷ 0x00 ∷ 0x00 ∷ 0x00 ∷ 0x00 ∷ [])
    ∷ (0xFF ∷ 0xFF ∷ 0x00 ∷ 0x00 ∷ 0x00 ∷ 0x00 ∷ 0x00 ∷ 0x00 ∷ []) ∷ [])
many_at_once d = refl

-- the faults of segments stand behind those of names, and before those of the texts
abbrev pub without_segments : Profile → Profile
without_segments d = over d [] (lit< tt)

no_segments : (d : Profile) → profile_fault (without_segments d) ≡ Some (Segments Number)
no_segments d = refl

the_name_first : (d : Profile) → profile_fault (record (without_segments d) { name = with d.name (0x00 ∷ []) (lit< tt) }) ≡ Some Name
the_name_first d = refl

the_texts_behind : (d : Profile) → profile_fault (record (without_segments d) { epk = with d.epk (0x00 ∷ []) (lit< tt) }) ≡ Some (Segments Number)
the_texts_behind d = refl

-- an event channel that isn't there may read no segment
no_such_reader : (d : Profile) → profile_fault (over d (record { extension = 0; base = 0; len = 1; events = 0x02 } ∷ []) (lit< tt)) ≡ Some (Segments (Events 0))
no_such_reader d = refl

-- an ODT has up to 255 entries, of which SET_DAQ_PTR finds the last
most_entries : (d : Profile) →
    replies (over_three d) three_parts connected
    ((0xD5 ∷ 0x00 ∷ 0x01 ∷ 0x00 ∷ [])
    ∷ (0xD4 ∷ 0x00 ∷ 0x00 ∷ 0x00 ∷ 0x01 ∷ [])
    ∷ (0xD3 ∷ 0x00 ∷ 0x00 ∷ 0x00 ∷ 0x00 ∷ 0xFF ∷ [])
    ∷ (0xE2 ∷ 0x00 ∷ 0x00 ∷ 0x00 ∷ 0x00 ∷ 0xFE ∷ [])
    ∷ (0xE2 ∷ 0x00 ∷ 0x00 ∷ 0x00 ∷ 0x00 ∷ 0xFF ∷ []) ∷ [])
    ≡ map Some ((0xFF ∷ []) ∷ (0xFF ∷ []) ∷ (0xFF ∷ []) ∷ (0xFF ∷ []) ∷ (0xFE ∷ 0x22 ∷ []) ∷ [])
most_entries d = refl

-- a slave has up to 16 event channels
abbrev event_of : Profile → EventChannel
event_of d = record { capacity = 4096; name = with d.name [] (lit< tt); cycle = 0; cycle_unit = 0; priority = 0 }

sixteen_channels : (d : Profile) → profile_fault (record (over_three d) { events = with d.events (replicate 16 (event_of d)) (lit< tt) }) ≡ None
sixteen_channels d = refl

seventeen_channels : (d : Profile) → profile_fault (record (over_three d) { events = with d.events (replicate 17 (event_of d)) (lit< tt) }) ≡ Some Channels
seventeen_channels d = refl

-- a ring has 64 to 16,777,216 bytes, a multiple of 8
good_capacities : map is_bad_capacity (64 ∷ 72 ∷ 32256 ∷ 16777216 ∷ []) ≡ replicate 4 false
good_capacities = refl

bad_capacities : map is_bad_capacity (0 ∷ 4 ∷ 56 ∷ 65 ∷ 68 ∷ 532 ∷ 16777217 ∷ 16777224 ∷ []) ≡ replicate 8 true
bad_capacities = refl

bad_ring : (d : Profile) → profile_fault (record (over_three d) { events = with d.events (event_of d ∷ record (event_of d) { capacity = 4 } ∷ []) (lit< tt) }) ≡ Some Capacity
bad_ring d = refl
