-- Items, read off bytes: the longest list of items whose records stand at the front.
use Rattle.std.specs.Prelude.{ℕ, zero, suc, ◌+◌, ◌^◌, ◌&&◌, ◌==◌, Bool, true, false, List, []}
use Rattle.std.specs.Prelude.{◌∷◌, length, take, drop, nat_lt, slice_index, Option, Some, None}
use Rattle.std.specs.Prelude.{if◌then◌else◌}
use Rattle.std.specs.List.{list_all}
use Rattle.std.specs.Int.{from_le_bytes, w64}
use Rattle.xcp_base.specs.Bodies.{packets_of_body}
use Rattle.xcp_base.specs.declared.item.Item.{Item}
use Rattle.xcp_base.specs.declared.item.Item.TheVariants.{Sample, Marker}
use Rattle.xcp_base.specs.declared.limits.TheConstants.{MAX_CHANNELS, MAX_DTO, MAX_LISTS, MAX_ODTS}
use Rattle.byte_ring.specs.Records.{record_of}

-- whether some bytes are a packet
abbrev pub is_packet : List ℕ → Bool
is_packet q =
    nat_lt 0 (length q) && nat_lt (length q) (MAX_DTO + 1) && list_all (λ b. nat_lt b 256) q

-- whether it is a sample or a stop marker within the limits
unfoldable pub is_item : Item → Bool
is_item (Sample s) =
    nat_lt s.channel MAX_CHANNELS && nat_lt s.list MAX_LISTS && nat_lt s.number (2 ^ 64)
    && nat_lt 0 (length s.packets) && nat_lt (length s.packets) (MAX_ODTS + 1)
    && list_all is_packet s.packets
is_item (Marker m) = nat_lt m.channel MAX_CHANNELS && nat_lt m.list MAX_LISTS

-- the one item whose record may stand at the front of some bytes
unfoldable pub candidate : List ℕ → Item
candidate bytes =
    if slice_index bytes 0 == 2
    then Marker (record { channel = slice_index bytes 1; list = slice_index bytes 2 })
    else Sample (record {
      channel = slice_index bytes 1;
      list = slice_index bytes 2;
      number = from_le_bytes w64 (take 8 (drop 3 bytes));
      packets = packets_of_body (slice_index bytes 11) (drop 12 bytes);
    })

-- whether the second list begins with the first
abbrev pub is_front : List ℕ → List ℕ → Bool
is_front [] bytes = true
is_front (a ∷ front) [] = false
is_front (a ∷ front) (b ∷ bytes) = (a == b) && is_front front bytes

-- the item whose record stands at the front
unfoldable pub item_at : List ℕ → Option Item
item_at bytes =
    if is_item (candidate bytes) && is_front (record_of (candidate bytes)) bytes
    then Some (candidate bytes)
    else None

-- an item, and those that follow
abbrev pub then_items : Option Item → (Item → List Item) → List Item
then_items None more = []
then_items (Some x) more = x ∷ more x

-- the items whose records stand at the front, of which there are at most n
abbrev pub items_from : ℕ → List ℕ → List Item
items_from zero bytes = []
items_from (suc n) bytes =
    then_items (item_at bytes) (λ x. items_from n (drop (length (record_of x)) bytes))

-- the longest list of items whose records, one behind another, stand at the front
unfoldable pub items_in : List ℕ → List Item
items_in bytes = items_from (length bytes) bytes
