-- Worked examples, on literals: a wrong rule in specs/ does not check here.
use Rattle.std.specs.Prelude.{◌≡◌, true, false, List, [], ◌∷◌, Some, map, refl}
use Rattle.xcp_base.specs.declared.id_kind.IdKind.{IdKind}
use Rattle.xcp_base.specs.declared.id_kind.IdKind.TheVariants.{RelativeByte, RelativeWord}
use Rattle.xcp_base.specs.declared.stamp_size.StampSize.{StampSize}
use Rattle.xcp_base.specs.declared.stamp_size.StampSize.TheVariants.{One, Two}
use Rattle.xcp_base.specs.Forms.{usual_form}
use Rattle.segments.specs.Image.{image_of, image_segments}
use Rattle.segments.specs.declared.segment.Segment.{Segment}
use Rattle.daq_store.specs.Configuration.{Configuration, is_ready}
use Rattle.copy_plan.specs.Config.{ListPlan, OdtEntry, odt, plan_of}
use Rattle.copy_plan.specs.Packet.{packet, packets}
use Rattle.copy_plan.specs.Pids.{pid}
use Rattle.copy_plan.specs.Copies.{copies_needed}
use Rattle.copy_plan.specs.Inner.Joined.{joined_spans}

-- a list of two ODTs with a timestamp, as it is set in the store
two_odts : Configuration
two_odts = record {
  form = usual_form;
  mode = Some (record { channel = 0; prescaler = 1; stamped = true; priority = 0 });
  odts = (Some (record { extension = 0; address = 0; size = 1 }) ∷ []) ∷ (Some (record { extension = 0; address = 1; size = 1 }) ∷ []) ∷ [];
}

two_odts-ready : is_ready (image_segments 2) two_odts ≡ true
unfolding two_odts
two_odts-ready = refl

-- the timestamp stands in ODT 0, least significant byte first, and in no other
packets-two_odts : packets (plan_of 0 two_odts 0 (image_segments 2)) (0xAA ∷ 0xBB ∷ []) 0x01020304 false ≡ (0x00 ∷ 0x04 ∷ 0x03 ∷ 0x02 ∷ 0x01 ∷ 0xAA ∷ []) ∷ (0x01 ∷ 0xBB ∷ []) ∷ []
unfolding packets packet two_odts
packets-two_odts = refl

-- the overload indication stands in ODT 0, and in no other
packets-two_odts_marked : packets (plan_of 0 two_odts 0 (image_segments 2)) (0xAA ∷ 0xBB ∷ []) 0x01020304 true ≡ (0x80 ∷ 0x04 ∷ 0x03 ∷ 0x02 ∷ 0x01 ∷ 0xAA ∷ []) ∷ (0x01 ∷ 0xBB ∷ []) ∷ []
unfolding packets packet two_odts
packets-two_odts_marked = refl

-- the same as list 3 with the other identification fields and sizes, marked
in_form : IdKind → StampSize → ListPlan
in_form id size = plan_of 3 (record two_odts { form = record { id = id; stamp = size; max_dto = 64 } }) 0 (image_segments 2)

packets-byte_two : packets (in_form RelativeByte Two) (0xAA ∷ 0xBB ∷ []) 0x01020304 true ≡ (0x80 ∷ 0x03 ∷ 0x04 ∷ 0x03 ∷ 0xAA ∷ []) ∷ (0x01 ∷ 0x03 ∷ 0xBB ∷ []) ∷ []
unfolding packets packet two_odts in_form
packets-byte_two = refl

packets-word_one : packets (in_form RelativeWord One) (0xAA ∷ 0xBB ∷ []) 0x01020304 true ≡ (0x80 ∷ 0x03 ∷ 0x00 ∷ 0x04 ∷ 0xAA ∷ []) ∷ (0x01 ∷ 0x03 ∷ 0x00 ∷ 0xBB ∷ []) ∷ []
unfolding packets packet two_odts in_form
packets-word_one = refl

-- two neighbours and one entry apart from them
neighbours : List OdtEntry
neighbours = (0, 2) ∷ (2, 2) ∷ (8, 1) ∷ []

neighbours_plan : ListPlan
neighbours_plan = record {
  list = 0;
  channel = 0;
  prescaler = 1;
  first_pid = 0;
  form = usual_form;
  stamped = false;
  odts = neighbours ∷ [];
  segments = image_segments 9;
}

packets-neighbours : packets neighbours_plan (0 ∷ 1 ∷ 2 ∷ 3 ∷ 4 ∷ 5 ∷ 6 ∷ 7 ∷ 8 ∷ []) 0 false ≡ (0x00 ∷ 0 ∷ 1 ∷ 2 ∷ 3 ∷ 8 ∷ []) ∷ []
unfolding packets packet neighbours neighbours_plan
packets-neighbours = refl

packets-neighbours_marked : packets neighbours_plan (0 ∷ 1 ∷ 2 ∷ 3 ∷ 4 ∷ 5 ∷ 6 ∷ 7 ∷ 8 ∷ []) 0 true ≡ (0x80 ∷ 0 ∷ 1 ∷ 2 ∷ 3 ∷ 8 ∷ []) ∷ []
unfolding packets packet neighbours neighbours_plan
packets-neighbours_marked = refl

-- they need two copies, and these are
copies_needed-neighbours : copies_needed neighbours ≡ 2
unfolding neighbours
copies_needed-neighbours = refl

joined_spans-neighbours : joined_spans neighbours ≡ record { start = 0; end = 4 } ∷ record { start = 8; end = 9 } ∷ []
unfolding neighbours
joined_spans-neighbours = refl

-- the last of 124 ODTs: FIRST_PID 0x78, four ODTs
last_plan : ListPlan
last_plan = record {
  list = 15;
  channel = 0;
  prescaler = 1;
  first_pid = 0x78;
  form = usual_form;
  stamped = false;
  odts = ((0, 1) ∷ []) ∷ ((0, 1) ∷ []) ∷ ((0, 1) ∷ []) ∷ ((0, 1) ∷ []) ∷ [];
  segments = image_segments 4;
}

pids-last : map (λ k. pid last_plan k false) (0 ∷ 1 ∷ 2 ∷ 3 ∷ []) ≡ 0x78 ∷ 0x79 ∷ 0x7A ∷ 0x7B ∷ []
unfolding last_plan
pids-last = refl

pids-last_marked : map (λ k. pid last_plan k true) (0 ∷ 1 ∷ 2 ∷ 3 ∷ []) ≡ 0xF8 ∷ 0x79 ∷ 0x7A ∷ 0x7B ∷ []
unfolding last_plan
pids-last_marked = refl

-- two segments that touch, and one of another extension: entries over the seam aren't joined
touching : List Segment
touching =
    record { extension = 0; base = 0x1000; len = 2; events = 1 }
    ∷ record { extension = 0; base = 0x1002; len = 2; events = 1 }
    ∷ record { extension = 1; base = 0x1000; len = 4; events = 1 } ∷ []

over_the_seam : Configuration
over_the_seam = record {
  form = usual_form;
  mode = Some (record { channel = 0; prescaler = 1; stamped = false; priority = 0 });
  odts =
      (Some (record { extension = 0; address = 0x1000; size = 2 })
      ∷ Some (record { extension = 0; address = 0x1002; size = 2 })
      ∷ Some (record { extension = 1; address = 0x1002; size = 1 }) ∷ [])
      ∷ [];
}

over_the_seam-ready : is_ready touching over_the_seam ≡ true
unfolding touching over_the_seam
over_the_seam-ready = refl

packets-over_the_seam : packets (plan_of 0 over_the_seam 0 touching) (image_of 0 touching ((0x10 ∷ 0x11 ∷ []) ∷ (0x12 ∷ 0x13 ∷ []) ∷ (0xB1 ∷ 0xB2 ∷ 0xB3 ∷ 0xB4 ∷ []) ∷ [])) 0 false ≡ (0x00 ∷ 0x10 ∷ 0x11 ∷ 0x12 ∷ 0x13 ∷ 0xB3 ∷ []) ∷ []
unfolding packets packet touching over_the_seam
packets-over_the_seam = refl

spans-over_the_seam : joined_spans (odt (plan_of 0 over_the_seam 0 touching) 0) ≡ record { start = 0; end = 2 } ∷ record { start = 3; end = 5 } ∷ record { start = 8; end = 9 } ∷ []
unfolding touching over_the_seam
spans-over_the_seam = refl
