-- Worked examples, on literals: a wrong rule in specs/ does not check here.
use Rattle.std.specs.Prelude.{◌≡◌, [], ◌∷◌, ◌++◌, refl}
use Rattle.xcp_base.specs.declared.item.Item.{Item}
use Rattle.xcp_base.specs.declared.item.Item.TheVariants.{Sample, Marker}
use Rattle.frame_ring.specs.Reading.{blocks_of, item_of, items_from, items_in, packets_in}
use Rattle.frame_ring.specs.Records.{bytes_of, record_of, records_of}

-- a sample of list 2 of event channel 1: two packets, of three bytes and of one
two_packets : Item
two_packets = Sample (record { channel = 1; list = 2; number = 0x0102030405060708; packets = (0x00 ∷ 0xAA ∷ 0xBB ∷ []) ∷ (0x01 ∷ []) ∷ [] })

marker : Item
marker = Marker (record { channel = 7; list = 15 })

-- twelve bytes of frames take two blocks, the second of which is filled
record_of-two_packets : record_of two_packets
    ≡ (0x01 ∷ 0x01 ∷ 0x02 ∷ 0x02 ∷ 0x0C ∷ 0x00 ∷ 0x00 ∷ 0x00 ∷ [])
    ∷ (0x08 ∷ 0x07 ∷ 0x06 ∷ 0x05 ∷ 0x04 ∷ 0x03 ∷ 0x02 ∷ 0x01 ∷ [])
    ∷ (0x03 ∷ 0x00 ∷ 0x00 ∷ 0x00 ∷ 0x00 ∷ 0xAA ∷ 0xBB ∷ 0x01 ∷ [])
    ∷ (0x00 ∷ 0x00 ∷ 0x00 ∷ 0x01 ∷ 0x00 ∷ 0x00 ∷ 0x00 ∷ 0x00 ∷ []) ∷ []
unfolding two_packets bytes_of
record_of-two_packets = refl

record_of-marker : record_of marker ≡ (0x02 ∷ 0x07 ∷ 0x0F ∷ 0x00 ∷ 0x00 ∷ 0x00 ∷ 0x00 ∷ 0x00 ∷ []) ∷ []
unfolding marker bytes_of
record_of-marker = refl

-- a part of a record behind two whole ones is left
two_items_are_read : items_in (records_of (two_packets ∷ marker ∷ []) ++ (0x01 ∷ 0x01 ∷ 0x02 ∷ 0x02 ∷ 0x0C ∷ 0x00 ∷ 0x00 ∷ 0x00 ∷ []) ∷ []) ≡ two_packets ∷ marker ∷ []
unfolding two_packets marker bytes_of items_in items_from item_of blocks_of packets_in
two_items_are_read = refl
