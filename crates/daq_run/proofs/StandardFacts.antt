-- Worked examples, on literals: a wrong rule in specs/ does not check here.
use Rattle.std.specs.Prelude.{◌≡◌, [], ◌∷◌, refl}
use Rattle.frame_writer.specs.Frame.{text}
use Rattle.daq_run.specs.Fixed.{fixed_packets}

-- the images AA BB and CC DD are two frames
text-two_images : text 0 (fixed_packets ((0xAA ∷ 0xBB ∷ []) ∷ (0xCC ∷ 0xDD ∷ []) ∷ []))
    ≡ 0x03 ∷ 0x00 ∷ 0x00 ∷ 0x00 ∷ 0x00 ∷ 0xAA ∷ 0xBB
    ∷ 0x03 ∷ 0x00 ∷ 0x01 ∷ 0x00 ∷ 0x00 ∷ 0xCC ∷ 0xDD ∷ []
text-two_images = refl
