-- Worked exchanges of slaves by their MAX_CTO and MAX_DTO.
use Rattle.std.proofs.Common.{◌≡◌, ℕ, true, false, [], ◌∷◌, map, Some, None, lit<, refl}
use Rattle.segments.specs.declared.fault.SegmentFault.TheVariants.{Number}
use Rattle.session.specs.declared.profile.Profile.{Profile}
use Rattle.session.specs.declared.profile.ProfileFault.TheVariants.{MaxCto, MaxDto, Name, Segments}
use Rattle.session.specs.Past.{new_past}
use Rattle.session.specs.Profiles.{profile_fault}
use Rattle.session.specs.Requests.{is_bad_entry_count}
use Rattle.session.proofs.MemoryFacts.{over_three, replies, three_parts, with, without_segments}

abbrev at_most : ℕ → Profile → Profile
at_most n d = record (over_three d) { max_cto = n }

abbrev named : ℕ → Profile → Profile
named n d = record (at_most n d) { name = with d.name (0x6E ∷ []) (lit< tt) }

-- the least: a reply has seven bytes behind its first, and no entry of WRITE_DAQ_MULTIPLE finds room
least : (d : Profile) →
    replies (at_most 8 d) three_parts new_past
    ((0xFF ∷ 0x00 ∷ [])
    ∷ (0xF6 ∷ 0x00 ∷ 0x00 ∷ 0x00 ∷ 0x00 ∷ 0x10 ∷ 0x00 ∷ 0x00 ∷ [])
    ∷ (0xF5 ∷ 0x08 ∷ [])
    ∷ (0xF5 ∷ 0x07 ∷ [])
    ∷ (0xF4 ∷ 0x08 ∷ 0x00 ∷ 0x00 ∷ 0x00 ∷ 0x10 ∷ 0x00 ∷ 0x00 ∷ [])
    ∷ (0xC7 ∷ 0x01 ∷ []) ∷ [])
    ≡ map Some ((0xFF ∷ 0x04 ∷ 0x80 ∷ 0x08 ∷ 0x40 ∷ 0x00 ∷ 0x01 ∷ 0x01 ∷ [])
    ∷ (0xFF ∷ [])
    ∷ (0xFE ∷ 0x22 ∷ [])
    ∷ (0xFF ∷ 0x00 ∷ 0x01 ∷ 0x02 ∷ 0x03 ∷ 0x04 ∷ 0x05 ∷ 0x06 ∷ [])
    ∷ (0xFE ∷ 0x22 ∷ [])
    ∷ (0xFE ∷ 0x22 ∷ []) ∷ [])
least d = refl

-- the greatest
greatest : (d : Profile) →
    replies (at_most 255 d) three_parts new_past
    ((0xFF ∷ 0x00 ∷ [])
    ∷ (0xF4 ∷ 0x10 ∷ 0x00 ∷ 0x00 ∷ 0x00 ∷ 0x10 ∷ 0x00 ∷ 0x00 ∷ []) ∷ [])
    ≡ map Some ((0xFF ∷ 0x04 ∷ 0x80 ∷ 0xFF ∷ 0x40 ∷ 0x00 ∷ 0x01 ∷ 0x01 ∷ [])
    ∷ (0xFF ∷ 0x00 ∷ 0x01 ∷ 0x02 ∷ 0x03 ∷ 0x04 ∷ 0x05 ∷ 0x06 ∷ 0x07 ∷ 0x08 ∷ 0x09 ∷ 0x0A ∷ 0x0B ∷ 0x0C ∷ 0x0D ∷ 0x0E ∷ 0x0F ∷ []) ∷ [])
greatest d = refl

-- the most entries of WRITE_DAQ_MULTIPLE find room, and one more doesn't
entries_of_8 : is_bad_entry_count 8 1 ≡ true
entries_of_8 = refl

entries_of_17 : map (is_bad_entry_count 17) (1 ∷ 2 ∷ []) ≡ false ∷ true ∷ []
entries_of_17 = refl

entries_of_18 : map (is_bad_entry_count 18) (2 ∷ 3 ∷ []) ≡ false ∷ true ∷ []
entries_of_18 = refl

entries_of_64 : map (is_bad_entry_count 64) (7 ∷ 8 ∷ []) ≡ false ∷ true ∷ []
entries_of_64 = refl

entries_of_255 : map (is_bad_entry_count 255) (31 ∷ 32 ∷ []) ≡ false ∷ true ∷ []
entries_of_255 = refl

-- the limits of MAX_CTO, and of the name by it
the_least_is_within : (d : Profile) → profile_fault (at_most 8 d) ≡ None
the_least_is_within d = refl

the_greatest_is_within : (d : Profile) → profile_fault (at_most 255 d) ≡ None
the_greatest_is_within d = refl

too_small : (d : Profile) → profile_fault (at_most 7 d) ≡ Some MaxCto
too_small d = refl

no_room_for_the_name : (d : Profile) → profile_fault (named 8 d) ≡ Some Name
no_room_for_the_name d = refl

room_for_the_name : (d : Profile) → profile_fault (named 9 d) ≡ None
room_for_the_name d = refl

-- its fault stands behind those of segments, and before those of the texts
the_segments_first : (d : Profile) → profile_fault (record (without_segments d) { max_cto = 7 }) ≡ Some (Segments Number)
the_segments_first d = refl

the_texts_behind : (d : Profile) → profile_fault (record (named 8 d) { epk = with d.epk (0x00 ∷ []) (lit< tt) }) ≡ Some Name
the_texts_behind d = refl

-- the limits of MAX_DTO, whose fault stands behind those of MAX_CTO and before those of the texts
abbrev packets_of : ℕ → Profile → Profile
packets_of n d = record (over_three d) { max_dto = n }

the_least_packets : (d : Profile) → profile_fault (packets_of 8 d) ≡ None
the_least_packets d = refl

the_greatest_packets : (d : Profile) → profile_fault (packets_of 8192 d) ≡ None
the_greatest_packets d = refl

packets_too_short : (d : Profile) → profile_fault (packets_of 7 d) ≡ Some MaxDto
packets_too_short d = refl

packets_too_long : (d : Profile) → profile_fault (packets_of 8193 d) ≡ Some MaxDto
packets_too_long d = refl

max_cto_first : (d : Profile) → profile_fault (record (packets_of 7 d) { max_cto = 7 }) ≡ Some MaxCto
max_cto_first d = refl

the_texts_behind_packets : (d : Profile) → profile_fault (record (packets_of 7 d) { epk = with d.epk (0x00 ∷ []) (lit< tt) }) ≡ Some MaxDto
the_texts_behind_packets d = refl

-- MAX_DTO, and the greatest entry: one byte less, and at most 255
packets_are_told : (d : Profile) →
    map (λ n. replies (packets_of n d) three_parts new_past ((0xFF ∷ 0x00 ∷ []) ∷ (0xD9 ∷ []) ∷ [])) (8 ∷ 255 ∷ 256 ∷ 1400 ∷ [])
    ≡ map (map Some)
    (((0xFF ∷ 0x04 ∷ 0x80 ∷ 0x40 ∷ 0x08 ∷ 0x00 ∷ 0x01 ∷ 0x01 ∷ []) ∷ (0xFF ∷ 0x01 ∷ 0x07 ∷ 0x01 ∷ 0x00 ∷ 0x34 ∷ 0x01 ∷ 0x00 ∷ []) ∷ [])
    ∷ ((0xFF ∷ 0x04 ∷ 0x80 ∷ 0x40 ∷ 0xFF ∷ 0x00 ∷ 0x01 ∷ 0x01 ∷ []) ∷ (0xFF ∷ 0x01 ∷ 0xFE ∷ 0x01 ∷ 0x00 ∷ 0x34 ∷ 0x01 ∷ 0x00 ∷ []) ∷ [])
    ∷ ((0xFF ∷ 0x04 ∷ 0x80 ∷ 0x40 ∷ 0x00 ∷ 0x01 ∷ 0x01 ∷ 0x01 ∷ []) ∷ (0xFF ∷ 0x01 ∷ 0xFF ∷ 0x01 ∷ 0x00 ∷ 0x34 ∷ 0x01 ∷ 0x00 ∷ []) ∷ [])
    ∷ ((0xFF ∷ 0x04 ∷ 0x80 ∷ 0x40 ∷ 0x78 ∷ 0x05 ∷ 0x01 ∷ 0x01 ∷ []) ∷ (0xFF ∷ 0x01 ∷ 0xFF ∷ 0x01 ∷ 0x00 ∷ 0x34 ∷ 0x01 ∷ 0x00 ∷ []) ∷ []) ∷ [])
packets_are_told d = refl

-- an entry is shorter than a packet
an_entry_is_shorter : (d : Profile) →
    map (λ n. replies (packets_of n d) three_parts new_past
    ((0xFF ∷ 0x00 ∷ [])
    ∷ (0xD5 ∷ 0x00 ∷ 0x01 ∷ 0x00 ∷ [])
    ∷ (0xD4 ∷ 0x00 ∷ 0x00 ∷ 0x00 ∷ 0x01 ∷ [])
    ∷ (0xD3 ∷ 0x00 ∷ 0x00 ∷ 0x00 ∷ 0x00 ∷ 0x01 ∷ [])
    ∷ (0xE2 ∷ 0x00 ∷ 0x00 ∷ 0x00 ∷ 0x00 ∷ 0x00 ∷ [])
    ∷ (0xE1 ∷ 0xFF ∷ 0x08 ∷ 0x00 ∷ 0x00 ∷ 0x10 ∷ 0x00 ∷ 0x00 ∷ []) ∷ [])) (8 ∷ 9 ∷ [])
    ≡ map (map Some)
    (((0xFF ∷ 0x04 ∷ 0x80 ∷ 0x40 ∷ 0x08 ∷ 0x00 ∷ 0x01 ∷ 0x01 ∷ []) ∷ (0xFF ∷ []) ∷ (0xFF ∷ []) ∷ (0xFF ∷ []) ∷ (0xFF ∷ []) ∷ (0xFE ∷ 0x22 ∷ []) ∷ [])
    ∷ ((0xFF ∷ 0x04 ∷ 0x80 ∷ 0x40 ∷ 0x09 ∷ 0x00 ∷ 0x01 ∷ 0x01 ∷ []) ∷ (0xFF ∷ []) ∷ (0xFF ∷ []) ∷ (0xFF ∷ []) ∷ (0xFF ∷ []) ∷ (0xFF ∷ []) ∷ []) ∷ [])
an_entry_is_shorter d = refl
