-- The keys of a run file, and their values as the table of the document has them.
use Rattle.std.specs.Prelude.{◌≡◌, ◌==◌, ◌&&◌, ◌||◌, nat_le, ℕ, ℤ, pos, Bool, true, false}
use Rattle.std.specs.Prelude.{if◌then◌else◌, List, [], ◌∷◌, length, codes, Option, Some, None}
use Rattle.std.specs.Prelude.{option_and_then}
use Rattle.std.specs.Str.{bytes_eq}
use Rattle.toml.specs.Data.{Data, Items, no_items, item, Members, no_members, member, get_member}
use Rattle.toml.specs.Data.{as_str, as_integer, as_bool, as_array}
use Rattle.xcp_base.specs.declared.id_kind.IdKind.{IdKind}
use Rattle.xcp_base.specs.declared.id_kind.IdKind.TheVariants.{Absolute, RelativeByte, RelativeWord}
use Rattle.xcp_base.specs.declared.stamp_size.StampSize.{StampSize}
use Rattle.xcp_base.specs.declared.stamp_size.StampSize.TheVariants.{Four}
use Rattle.xcp_base.specs.declared.packet_form.PacketForm.{PacketForm}
use Rattle.xcp_base.specs.Forms.{size_of}
use Rattle.xcp_base.specs.Rings.{least_cap, most_cap}
use Rattle.xcp_base.specs.declared.limits.TheConstants.{MAX_DTO, MAX_IMAGE_LEN, MAX_STAMP}
use Rattle.xcp_base.specs.declared.limits.TheConstants.{RUN_CHANNELS}
use Rattle.run_file.specs.declared.limits.TheConstants.{MAX_PACKETS, MAX_STEPS}
use Rattle.xcp_base.specs.declared.ring_kind.RingKind.{RingKind}
use Rattle.xcp_base.specs.declared.ring_kind.RingKind.TheVariants.{Bytes, Samples}

-- the keys of a run file
abbrev pub keys : List (List ℕ)
keys =
    codes "channels" ∷ codes "image_len" ∷ codes "caps" ∷ codes "setup" ∷ codes "steps"
    ∷ codes "drain" ∷ codes "ring" ∷ codes "id" ∷ codes "stamp_size" ∷ []

-- a word is one of these
abbrev pub is_among : List (List ℕ) → List ℕ → Bool
is_among [] key = false
is_among (k ∷ ks) key = bytes_eq key k || is_among ks key

-- each key of the table is one of a run file
abbrev pub are_keys : Members → Bool
are_keys no_members = true
are_keys (member key d ms) = is_among keys key && are_keys ms

-- the number of an integer, if it is within the bounds
abbrev pub bounded : ℕ → ℕ → ℤ → Option ℕ
bounded least most (pos n) = if nat_le least n && nat_le n most then Some n else None
bounded least most _ = None

abbrev pub number_in : ℕ → ℕ → Data → Option ℕ
number_in least most d = option_and_then (bounded least most) (as_integer d)

-- all of them, if each is there
abbrev pub onto : {X : Type 0} → Option X → Option (List X) → Option (List X)
onto (Some x) (Some xs) = Some (x ∷ xs)
onto _ _ = None

abbrev pub all_of : {X : Type 0} → (Data → Option X) → Items → Option (List X)
all_of f no_items = Some []
all_of f (item d ds) = onto (f d) (all_of f ds)

-- the list, if its length passes
abbrev pub if_length : {X : Type 0} → (ℕ → Bool) → List X → Option (List X)
if_length test xs = if test (length xs) then Some xs else None

-- the value of a key, and the items of an array there
abbrev pub at_key : {X : Type 0} → (Data → Option X) → List ℕ → Members → Option X
at_key f key ms = option_and_then f (get_member key ms)

-- each item of an array read, if the array is as long as the test wants it
abbrev pub read_items : {X : Type 0} → (Data → Option X) → (ℕ → Bool) → Items → Option (List X)
read_items f test ds = option_and_then (if_length test) (all_of f ds)

abbrev pub texts_in : ℕ → Items → Option (List (List ℕ))
texts_in most ds = read_items as_str (λ n. nat_le n most) ds

abbrev pub cap_in : RingKind → Data → Option ℕ
cap_in kind d = number_in (least_cap kind) (most_cap kind) d

abbrev pub caps_in : RingKind → ℕ → Items → Option (List ℕ)
caps_in kind channels ds = read_items (cap_in kind) (λ n. n == channels) ds

-- the kind of ring that a word names
abbrev pub ring_named : List ℕ → Option RingKind
ring_named word =
    if bytes_eq word (codes "samples") then Some Samples
    else (if bytes_eq word (codes "bytes") then Some Bytes else None)

abbrev pub ring_in : Data → Option RingKind
ring_in d = option_and_then ring_named (as_str d)

-- the value of `ring`: a ring of samples where the key is absent
abbrev pub ring_value : Option Data → Option RingKind
ring_value None = Some Samples
ring_value (Some d) = ring_in d

-- the identification field that a word names
abbrev pub id_named : List ℕ → Option IdKind
id_named word =
    if bytes_eq word (codes "absolute") then Some Absolute
    else (if bytes_eq word (codes "byte") then Some RelativeByte
    else (if bytes_eq word (codes "word") then Some RelativeWord else None))

abbrev pub id_in : Data → Option IdKind
id_in d = option_and_then id_named (as_str d)

-- the value of `id`: an absolute ODT number where the key is absent
abbrev pub id_value : Option Data → Option IdKind
id_value None = Some Absolute
id_value (Some d) = id_in d

-- the size of a timestamp, if there is one of so many bytes
abbrev pub stamp_in : Data → Option StampSize
stamp_in d = option_and_then size_of (number_in 1 MAX_STAMP d)

-- the value of `stamp_size`: 4 bytes where the key is absent
abbrev pub stamp_value : Option Data → Option StampSize
stamp_value None = Some Four
stamp_value (Some d) = stamp_in d

-- the form of the packets by both
abbrev pub form_with : Option IdKind → Option StampSize → Option PacketForm
form_with (Some id) (Some stamp) =
    Some (record { id = id; stamp = stamp; max_dto = MAX_DTO })
form_with _ _ = None

-- the value of `drain`: true where the key is absent
abbrev pub drain_value : Option Data → Option Bool
drain_value None = Some true
drain_value (Some d) = as_bool d

abbrev pub channels_of : Members → Option ℕ
channels_of ms = at_key (number_in 1 RUN_CHANNELS) (codes "channels") ms

abbrev pub image_len_of : Members → Option ℕ
image_len_of ms = at_key (number_in 1 MAX_IMAGE_LEN) (codes "image_len") ms

abbrev pub ring_of : Members → Option RingKind
ring_of ms = ring_value (get_member (codes "ring") ms)

abbrev pub id_of : Members → Option IdKind
id_of ms = id_value (get_member (codes "id") ms)

abbrev pub stamp_of : Members → Option StampSize
stamp_of ms = stamp_value (get_member (codes "stamp_size") ms)

-- the form of the packets
abbrev pub packet_form : Members → Option PacketForm
packet_form ms = form_with (id_of ms) (stamp_of ms)

abbrev pub caps_of : RingKind → ℕ → Members → Option (List ℕ)
caps_of kind channels ms =
    option_and_then (caps_in kind channels) (at_key as_array (codes "caps") ms)

-- the strings of an array, if they aren't too many
abbrev pub texts_at : ℕ → List ℕ → Members → Option (List (List ℕ))
texts_at most key ms = option_and_then (texts_in most) (at_key as_array key ms)

abbrev pub setup_of : Members → Option (List (List ℕ))
setup_of ms = texts_at MAX_PACKETS (codes "setup") ms

abbrev pub steps_of : Members → Option (List (List ℕ))
steps_of ms = texts_at MAX_STEPS (codes "steps") ms

abbrev pub drain_of : Members → Option Bool
drain_of ms = drain_value (get_member (codes "drain") ms)

-- the values of the keys, with the texts of packets and steps
pub record KeyValues : Type 0 where
  pub channels : ℕ
  pub image_len : ℕ
  pub form : PacketForm
  pub ring : RingKind
  pub caps : List ℕ
  pub setup : List (List ℕ)
  pub steps : List (List ℕ)
  pub drain : Bool

-- in the table these are the values, and no other key is there
pub record AreKeyValues (ms : Members) (v : KeyValues) : Type 0 where
  pub known : are_keys ms ≡ true
  pub channels_is : channels_of ms ≡ Some v.channels
  pub image_len_is : image_len_of ms ≡ Some v.image_len
  pub form_is : packet_form ms ≡ Some v.form
  pub ring_is : ring_of ms ≡ Some v.ring
  pub caps_are : caps_of v.ring v.channels ms ≡ Some v.caps
  pub setup_is : setup_of ms ≡ Some v.setup
  pub steps_are : steps_of ms ≡ Some v.steps
  pub drain_is : drain_of ms ≡ Some v.drain

-- a key isn't known, is missing, or has no value as it has to be: no values are those of the table
abbrev pub HasBadKey : Members → Type 0
HasBadKey ms = (v : KeyValues) → ¬ (AreKeyValues ms v)
