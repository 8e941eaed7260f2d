-- Worked examples, on literals: a wrong rule in specs/ does not check here.
use Rattle.std.specs.Prelude.{◌≡◌, [], ◌∷◌, ◌++◌, replicate, refl}
use Rattle.xcp_base.specs.Bodies.{body_of, packets_of_body}
use Rattle.xcp_base.specs.declared.item.Item.{Item}
use Rattle.xcp_base.specs.declared.item.Item.TheVariants.{Sample, Marker}
use Rattle.byte_ring.specs.Records.{records_of, record_len, record_of}
use Rattle.byte_ring.specs.Reading.{candidate, is_item, item_at, items_in}
use Rattle.channel_ring.specs.Room.{units}

-- a sample of list 2 of channel 1 with one packet of three bytes
one_packet : Item
one_packet = Sample (record { channel = 1; list = 2; number = 0x0102030405060708; packets = (0x00 ∷ 0xAA ∷ 0xBB ∷ []) ∷ [] })

marker : Item
marker = Marker (record { channel = 7; list = 15 })

-- eight packets of 64 bytes
longest : Item
longest = Sample (record { channel = 0; list = 0; number = 0; packets = replicate 8 (replicate 64 0) })

record_of-one_packet : record_of one_packet ≡ 0x01 ∷ 0x01 ∷ 0x02 ∷ 0x08 ∷ 0x07 ∷ 0x06 ∷ 0x05 ∷ 0x04 ∷ 0x03 ∷ 0x02 ∷ 0x01 ∷ 0x01 ∷ 0x03 ∷ 0x00 ∷ 0xAA ∷ 0xBB ∷ []
unfolding one_packet record_of body_of
record_of-one_packet = refl

record_of-marker : record_of marker ≡ 0x02 ∷ 0x07 ∷ 0x0F ∷ []
unfolding marker record_of
record_of-marker = refl

-- 33 samples of one packet of three bytes and a marker take 531 bytes
a_ring_of_532_bytes_is_full : units record_len (marker ∷ replicate 33 one_packet) ≡ 531
unfolding marker one_packet record_of body_of
a_ring_of_532_bytes_is_full = refl

the_longest_record : record_len longest ≡ 532
unfolding longest record_of body_of
the_longest_record = refl

-- a part of a record behind two whole ones is left
two_items_are_read : items_in (records_of (one_packet ∷ marker ∷ []) ++ 0x01 ∷ 0x01 ∷ 0x02 ∷ []) ≡ one_packet ∷ marker ∷ []
unfolding one_packet marker record_of body_of items_in item_at candidate is_item packets_of_body
two_items_are_read = refl

-- an event channel over 15 is no record's
no_item_of_channel_16 : items_in (0x02 ∷ 0x10 ∷ 0x00 ∷ []) ≡ []
unfolding record_of body_of items_in item_at candidate is_item packets_of_body
no_item_of_channel_16 = refl
