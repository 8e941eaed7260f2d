-- A profile without a fault is within its limits.
use Rattle.std.proofs.Common.{◌≡◌, ◌≤◌, ◌∙◌, ℕ, ◌+◌, Bool, true, false, List, [], ◌∷◌, length, Option, Some, None, is_none, unwrap_or, lit≤, refl, sym, ap, arith}
use Rattle.std.specs.Prelude.{All, IsSome, option_map, ◌==◌, ◌||◌, nat_lt, if◌then◌else◌}
use Rattle.std.specs.List.{list_any}
use Rattle.std.proofs.lemmas.Bool.Decides.{nat_tests}
use Rattle.std.proofs.lemmas.List.Elements.{All-nil, All-cons}
use Rattle.daq_store.specs.Calls.{Profile as ListsProfile}
use Rattle.daq_store.specs.Limited.{AreAllowed, slave_limits}
use Rattle.xcp_base.specs.Forms.{form_with, size_of, usual_form}
use Rattle.xcp_base.specs.declared.packet_form.PacketForm.{PacketForm}
use Rattle.session.specs.declared.profile.Profile.{Profile}
use Rattle.session.specs.declared.event_channel.EventChannel.{EventChannel}
use Rattle.session.specs.declared.profile.ProfileFault.{ProfileFault}
use Rattle.session.specs.declared.profile.ProfileFault.TheVariants as fault
use Rattle.segments.specs.declared.fault.SegmentFault.{SegmentFault}
use Rattle.segments.specs.declared.segment.Segment.{Segment}
use Rattle.xcp_base.specs.declared.limits.TheConstants.{MAX_CHANNELS, MAX_CTO, MAX_ENTRIES, MAX_ODTS_IN_ALL, MAX_PACKET, MIN_CTO, MIN_DTO}
use Rattle.segments.specs.Faults.{segments_fault}
use Rattle.session.specs.Profiles.{profile_fault, numbers_fault, names_fault, event_fault, events_fault, or_else, is_bad_name, is_unprintable, IsProfile, HasShortName, cto_fault, dto_fault, is_bad_dto, lists_of, memory_fault, segments_of, texts_fault}
use Rattle.session.specs.declared.profile.TheConstants.{MAX_TEXT}

-- a test that names no fault
not_named : {X : Type 0} (b : Bool) (x : X) (next : Option X) → (if b then Some x else next) ≡ None → (b ≡ false) × (next ≡ None)
not_named true x next h = absurd (cc)
not_named false x next h = (refl, h)

neither : (first next : Option ProfileFault) → or_else first next ≡ None → (first ≡ None) × (next ≡ None)
neither (Some x) next h = absurd (cc)
neither None next h = (refl, h)

first_false : (a b : Bool) → (a || b) ≡ false → (a ≡ false) × (b ≡ false)
first_false true b h = absurd (cc)
first_false false b h = (refl, h)

at_most : (n m : ℕ) → nat_lt n m ≡ false → m ≤ n
at_most n m h = grind (arith, nat_tests)

not_zero : (n : ℕ) → (n == 0) ≡ false → 1 ≤ n
not_zero n h = grind (arith, nat_tests)

small_size : (n : ℕ) → is_none (size_of n) ≡ false → n ≤ 4
small_size n h = grind (arith, nat_tests)

short_name : (name : List ℕ) → is_bad_name name ≡ false → length name ≤ 56
short_name name h = at_most 56 (length name) (first_false (nat_lt 56 (length name)) (list_any is_unprintable name) h).0

short_names : (events : List EventChannel) → events_fault events ≡ None → All HasShortName events
short_names [] h = All-nil HasShortName
short_names (e ∷ more) h =
    let both = neither (event_fault e) (events_fault more) h in
    let name = not_named (is_bad_name e.name.items) _ _ both.0 in
    All-cons HasShortName e more (short_name e.name.items name.0) (short_names more both.1)

-- what the numbers of a profile without a fault keep to
pub record HasNumbers (d : Profile) : Type 0 where
  pub some : 1 ≤ length d.events.items
  pub channels : length d.events.items ≤ MAX_CHANNELS
  pub stamp : is_none (size_of d.stamp_size) ≡ false
  pub unit : d.unit ≤ 9

pub numbers_within : (d : Profile) → profile_fault d ≡ None → HasNumbers d
numbers_within d h =
    let numbers = (neither (numbers_fault d) (or_else (names_fault d) (or_else (memory_fault d) (or_else (cto_fault d) (or_else (dto_fault d) (texts_fault d))))) h).0 in
    let channels = not_named (length d.events.items == 0 || nat_lt MAX_CHANNELS (length d.events.items)) _ _ numbers in
    let stamp = not_named (is_none (size_of d.stamp_size)) _ _ channels.1 in
    let unit = not_named (nat_lt 9 d.unit) _ _ stamp.1 in
    let c = first_false (length d.events.items == 0) (nat_lt MAX_CHANNELS (length d.events.items)) channels.0 in
    record {
      some = not_zero (length d.events.items) c.0;
      channels = at_most MAX_CHANNELS (length d.events.items) c.1;
      stamp = stamp.0;
      unit = at_most 9 d.unit unit.0;
    }

-- the faults behind those of the numbers: of the names, of the segments, of MAX_CTO, of MAX_DTO, of the texts
behind_numbers : (d : Profile) → profile_fault d ≡ None → (names_fault d ≡ None) × (memory_fault d ≡ None) × (cto_fault d ≡ None) × (dto_fault d ≡ None) × (texts_fault d ≡ None)
behind_numbers d h =
    let more = neither (names_fault d) (or_else (memory_fault d) (or_else (cto_fault d) (or_else (dto_fault d) (texts_fault d)))) (neither (numbers_fault d) (or_else (names_fault d) (or_else (memory_fault d) (or_else (cto_fault d) (or_else (dto_fault d) (texts_fault d))))) h).1 in
    let memory = neither (memory_fault d) (or_else (cto_fault d) (or_else (dto_fault d) (texts_fault d))) more.1 in
    let cto = neither (cto_fault d) (or_else (dto_fault d) (texts_fault d)) memory.1 in
    let last = neither (dto_fault d) (texts_fault d) cto.1 in
    (more.0, memory.0, cto.0, last.0, last.1)

-- its segments have no fault
pub no_segments_fault : (d : Profile) → profile_fault d ≡ None → (f : SegmentFault) → segments_fault (length d.events.items) (segments_of d) ≡ Some f → ⊥
no_segments_fault d h f is =
    let none : memory_fault d ≡ None = (behind_numbers d h).1 in
    let told : memory_fault d ≡ Some (fault.Segments f) = ap (option_map fault.Segments) is in
    cc (none, told)

-- no fault comes from no fault of the segments alone
of_segments : (first : Option SegmentFault) → option_map fault.Segments first ≡ None → first ≡ None
of_segments None h = refl
of_segments (Some x) h = absurd (cc)

pub profile_within : (d : Profile) → profile_fault d ≡ None → IsProfile d
profile_within d h =
    let n = numbers_within d h in
    let named = behind_numbers d h in
    let names = named.0 in
    let cto = not_named (nat_lt d.max_cto MIN_CTO || nat_lt MAX_CTO d.max_cto) _ _ named.2 in
    let limits = first_false (nat_lt d.max_cto MIN_CTO) (nat_lt MAX_CTO d.max_cto) cto.0 in
    let room = not_named (nat_lt d.max_cto (8 + length d.name.items)) _ _ cto.1 in
    let dto = not_named (is_bad_dto d.max_dto) _ _ named.3 in
    let packets = first_false (nat_lt d.max_dto MIN_DTO) (nat_lt MAX_PACKET d.max_dto) dto.0 in
    let a2l_name = not_named (is_bad_name d.a2l_name.items) _ _ named.4 in
    let epk = not_named (is_bad_name d.epk.items) _ _ a2l_name.1 in
    let a2l = not_named (nat_lt MAX_TEXT (length d.a2l.items)) _ _ epk.1 in
    let name = not_named (is_bad_name d.name.items) _ _ names in
    record {
      channels = n.channels;
      unit = n.unit;
      stamp = small_size d.stamp_size n.stamp;
      name = short_name d.name.items name.0;
      a2l_name = short_name d.a2l_name.items a2l_name.0;
      epk = short_name d.epk.items epk.0;
      a2l = at_most MAX_TEXT (length d.a2l.items) a2l.0;
      names = short_names d.events.items name.1;
      segments = of_segments (segments_fault (length d.events.items) (segments_of d)) named.1;
      least = at_most d.max_cto MIN_CTO limits.0;
      most = at_most MAX_CTO d.max_cto limits.1;
      reply = at_most d.max_cto (8 + length d.name.items) room.0;
      least_dto = at_most d.max_dto MIN_DTO packets.0;
      most_dto = at_most MAX_PACKET d.max_dto packets.1;
    }

-- such limits are those of a store
pub limits_allowed : (d : Profile) → profile_fault d ≡ None → AreAllowed (slave_limits d.max_dto)
limits_allowed d h =
    let within = profile_within d h in
    record { odts = lit≤ tt; least = within.least_dto; most = within.most_dto }

some_mapped : {X Y : Type 0} (f : X → Y) (o : Option X) → is_none o ≡ false → IsSome (option_map f o)
some_mapped f (Some x) h = refl
some_mapped f None h = absurd (cc)

-- its packets have a form
pub has_form : (d : Profile) → profile_fault d ≡ None → IsSome (form_with d.id d.stamp_size d.max_dto)
has_form d h = some_mapped (λ size. record { id = d.id; stamp = size; max_dto = d.max_dto }) (size_of d.stamp_size) (numbers_within d h).stamp

-- what a store is made for, field by field
pub lists_same : (p : ListsProfile) (d : Profile) → p.channels ≡ length d.events.items → p.most_odts ≡ MAX_ODTS_IN_ALL → p.most_entries ≡ MAX_ENTRIES
    → p.segments ≡ segments_of d → form_with d.id d.stamp_size d.max_dto ≡ Some p.form → p ≡ lists_of d
lists_same p d channels odts most segments form =
    let is : p.form ≡ unwrap_or (form_with d.id d.stamp_size d.max_dto) usual_form = sym (ap (λ (o : Option PacketForm). unwrap_or o usual_form) form) in
    let A : ℕ → ListsProfile = λ n. record { channels = n; most_odts = p.most_odts; most_entries = p.most_entries; segments = p.segments; form = p.form } in
    let O : ℕ → ListsProfile = λ n. record { channels = length d.events.items; most_odts = n; most_entries = p.most_entries; segments = p.segments; form = p.form } in
    let B : ℕ → ListsProfile = λ n. record { channels = length d.events.items; most_odts = MAX_ODTS_IN_ALL; most_entries = n; segments = p.segments; form = p.form } in
    let C : List Segment → ListsProfile = λ ss. record { channels = length d.events.items; most_odts = MAX_ODTS_IN_ALL; most_entries = MAX_ENTRIES; segments = ss; form = p.form } in
    let D : PacketForm → ListsProfile = λ f. record { channels = length d.events.items; most_odts = MAX_ODTS_IN_ALL; most_entries = MAX_ENTRIES; segments = segments_of d; form = f } in
    let one : p ≡ O p.most_odts = ap A channels in
    let few : O p.most_odts ≡ B p.most_entries = ap O odts in
    let two : B p.most_entries ≡ C p.segments = ap B most in
    let three : C p.segments ≡ D p.form = ap C segments in
    one ∙ few ∙ two ∙ three ∙ ap D is
