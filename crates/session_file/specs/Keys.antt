-- The keys of a session file, and their values as the table of the document has them.
use Rattle.std.specs.Prelude.{◌≡◌, ◌&&◌, ◌||◌, ℕ, suc, Bool, true, if◌then◌else◌, List, [], ◌∷◌}
use Rattle.std.specs.Prelude.{codes, Option, Some, None, is_some, option_map}
use Rattle.toml.specs.Data.{Data, Items, no_items, item, Members, no_members, member, get_member}
use Rattle.toml.specs.Data.{as_array, as_str}
use Rattle.xcp_base.specs.declared.id_kind.IdKind.{IdKind}
use Rattle.xcp_base.specs.declared.stamp_size.StampSize.{StampSize}
use Rattle.xcp_base.specs.declared.limits.TheConstants.{MAX_CTO, MAX_PACKET, MAX_UNIT, MIN_CTO}
use Rattle.xcp_base.specs.declared.limits.TheConstants.{MIN_DTO}
use Rattle.run_file.specs.Keys.{at_key, id_of, image_len_of, is_among, number_in, stamp_of}
use Rattle.run_file.specs.Keys.{texts_at}
use Rattle.session_file.specs.declared.limits.TheConstants.{MAX_LINES, USUAL_PACKET}

-- the keys of a session file, and of an event channel
abbrev pub keys : List (List ℕ)
keys =
    codes "image_len" ∷ codes "id" ∷ codes "stamp_size" ∷ codes "unit" ∷ codes "ticks"
    ∷ codes "max_cto" ∷ codes "max_dto" ∷ codes "base" ∷ codes "name" ∷ codes "a2l_name"
    ∷ codes "epk" ∷ codes "a2l" ∷ codes "segments" ∷ codes "events" ∷ codes "script" ∷ []

abbrev pub event_keys : List (List ℕ)
event_keys =
    codes "capacity" ∷ codes "name" ∷ codes "cycle" ∷ codes "cycle_unit" ∷ codes "priority" ∷ []

-- each key of the table is one of these
abbrev pub only_keys : List (List ℕ) → Members → Bool
only_keys ks no_members = true
only_keys ks (member key d ms) = is_among ks key && only_keys ks ms

-- the place of the first item that can't be read
abbrev pub or_behind : {X : Type 0} → Option X → Option ℕ → Option ℕ
or_behind None behind = Some 0
or_behind (Some x) behind = option_map suc behind

abbrev pub first_none : {X : Type 0} → (Data → Option X) → Items → Option ℕ
first_none f no_items = None
first_none f (item d ds) = or_behind (f d) (first_none f ds)

-- the integer of a value, if it is no more than `most`; 0 if there is none
abbrev pub number_or : ℕ → Option Data → Option ℕ
number_or most None = Some 0
number_or most (Some d) = number_in 0 most d

abbrev pub number_or_0 : ℕ → List ℕ → Members → Option ℕ
number_or_0 most key ms = number_or most (get_member key ms)

-- the most bytes of a packet, from `least` to `most`; 64 if there is no value
abbrev pub packet_or : ℕ → ℕ → Option Data → Option ℕ
packet_or least most None = Some USUAL_PACKET
packet_or least most (Some d) = number_in least most d

abbrev pub packet_limit : ℕ → ℕ → List ℕ → Members → Option ℕ
packet_limit least most key ms = packet_or least most (get_member key ms)

-- the string of a value; the empty one if there is none
abbrev pub text_or : Option Data → Option (List ℕ)
text_or None = Some []
text_or (Some d) = as_str d

abbrev pub text_or_empty : List ℕ → Members → Option (List ℕ)
text_or_empty key ms = text_or (get_member key ms)

-- the key is there
abbrev pub has_key : List ℕ → Members → Bool
has_key key ms = is_some (get_member key ms)

-- the memory of a slave: an image of so many bytes, which begins at an address; or the items of
-- `segments`
pub data MemoryData : Type 0 where
  image : ℕ → ℕ → MemoryData
  segments : Items → MemoryData

abbrev pub image_with : Option ℕ → Option ℕ → Option MemoryData
image_with (Some len) (Some base) = Some (image len base)
image_with _ _ = None

abbrev pub image_at : Members → Option MemoryData
image_at ms = image_with (image_len_of ms) (number_or_0 4294967295 (codes "base") ms)

-- beside `segments` neither `image_len` nor `base` may be there
abbrev pub segments_at : Members → Option MemoryData
segments_at ms =
    if has_key (codes "image_len") ms || has_key (codes "base") ms
    then None else option_map segments (at_key as_array (codes "segments") ms)

abbrev pub memory_of : Members → Option MemoryData
memory_of ms = if has_key (codes "segments") ms then segments_at ms else image_at ms

-- the values of the keys, with the items of `events` and the texts of `script`
pub record KeyValues : Type 0 where
  pub memory : MemoryData
  pub id : IdKind
  pub stamp : StampSize
  pub unit : ℕ
  pub ticks : ℕ
  pub max_cto : ℕ
  pub max_dto : ℕ
  pub name : List ℕ
  pub a2l_name : List ℕ
  pub epk : List ℕ
  pub a2l : List ℕ
  pub events : Items
  pub script : List (List ℕ)

-- in the table these are the values, and no other key is there
pub record AreKeyValues (ms : Members) (v : KeyValues) : Type 0 where
  pub known : only_keys keys ms ≡ true
  pub memory_is : memory_of ms ≡ Some v.memory
  pub id_is : id_of ms ≡ Some v.id
  pub stamp_is : stamp_of ms ≡ Some v.stamp
  pub unit_is : at_key (number_in 0 MAX_UNIT) (codes "unit") ms ≡ Some v.unit
  pub ticks_are : at_key (number_in 1 65535) (codes "ticks") ms ≡ Some v.ticks
  pub max_cto_is : packet_limit MIN_CTO MAX_CTO (codes "max_cto") ms ≡ Some v.max_cto
  pub max_dto_is : packet_limit MIN_DTO MAX_PACKET (codes "max_dto") ms ≡ Some v.max_dto
  pub name_is : text_or_empty (codes "name") ms ≡ Some v.name
  pub a2l_name_is : text_or_empty (codes "a2l_name") ms ≡ Some v.a2l_name
  pub epk_is : text_or_empty (codes "epk") ms ≡ Some v.epk
  pub a2l_is : text_or_empty (codes "a2l") ms ≡ Some v.a2l
  pub events_are : at_key as_array (codes "events") ms ≡ Some v.events
  pub script_is : texts_at MAX_LINES (codes "script") ms ≡ Some v.script

-- a key isn't known, is missing, or has no value as it has to be: no values are those of the table
abbrev pub HasBadKey : Members → Type 0
HasBadKey ms = (v : KeyValues) → ¬ (AreKeyValues ms v)
