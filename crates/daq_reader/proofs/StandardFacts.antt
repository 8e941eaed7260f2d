-- Worked examples, on literals: a wrong rule in specs/ does not check here.
use Rattle.std.specs.Prelude.{◌≡◌, true, [], ◌∷◌, Some, None, refl}
use Rattle.xcp_base.specs.declared.id_kind.IdKind.TheVariants.{Absolute, RelativeWord}
use Rattle.xcp_base.specs.declared.stamp_size.StampSize.TheVariants.{One, Four}
use Rattle.xcp_base.specs.declared.packet_form.PacketForm.{PacketForm}
use Rattle.segments.specs.Image.{image_segments}
use Rattle.copy_plan.specs.Config.{ListPlan}
use Rattle.daq_reader.specs.declared.packet_fault.PacketFault.TheVariants.{OtherList, OutOfTurn, WrongLength}
use Rattle.daq_reader.specs.Faults.{fault_of}
use Rattle.daq_reader.specs.Recorded.{Recorded, packet_of, packets_of}

-- a stamped list of two ODTs, list 1 behind a list of one ODT
stamped_list : PacketForm → ListPlan
stamped_list form = record {
  list = 1;
  channel = 0;
  prescaler = 1;
  first_pid = 1;
  form = form;
  stamped = true;
  odts = ((0, 1) ∷ []) ∷ ((1, 1) ∷ []) ∷ [];
  segments = image_segments 2;
}

-- its sample, marked
marked : Recorded
marked = record { overload = true; stamp = Some 0x01020304; elements = ((0xAA ∷ []) ∷ []) ∷ ((0xBB ∷ []) ∷ []) ∷ [] }

packets-marked : packets_of (stamped_list (record { id = Absolute; stamp = Four; max_dto = 64 })) marked ≡ (0x81 ∷ 0x04 ∷ 0x03 ∷ 0x02 ∷ 0x01 ∷ 0xAA ∷ []) ∷ (0x02 ∷ 0xBB ∷ []) ∷ []
unfolding packets_of packet_of stamped_list marked
packets-marked = refl

-- the second packet is awaited: a short one, one of another list, the first once more, one too long
fault-none : fault_of (stamped_list (record { id = Absolute; stamp = Four; max_dto = 64 })) 1 (0x02 ∷ 0xBB ∷ []) ≡ None
unfolding stamped_list
fault-none = refl

fault-no_field : fault_of (stamped_list (record { id = RelativeWord; stamp = One; max_dto = 64 })) 1 (0x01 ∷ 0x01 ∷ []) ≡ Some OtherList
unfolding stamped_list
fault-no_field = refl

fault-other_list : fault_of (stamped_list (record { id = Absolute; stamp = Four; max_dto = 64 })) 1 (0x03 ∷ 0xBB ∷ []) ≡ Some OtherList
unfolding stamped_list
fault-other_list = refl

fault-out_of_turn : fault_of (stamped_list (record { id = Absolute; stamp = Four; max_dto = 64 })) 1 (0x82 ∷ 0xBB ∷ []) ≡ Some OutOfTurn
unfolding stamped_list
fault-out_of_turn = refl

fault-wrong_length : fault_of (stamped_list (record { id = Absolute; stamp = Four; max_dto = 64 })) 1 (0x02 ∷ 0xBB ∷ 0x00 ∷ []) ≡ Some WrongLength
unfolding stamped_list
fault-wrong_length = refl
