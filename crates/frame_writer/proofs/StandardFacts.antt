-- Worked examples, on literals: a wrong rule in specs/ does not check here.
use Rattle.std.specs.Prelude.{◌≡◌, ℕ, List, [], ◌∷◌, refl}
use Rattle.frame_writer.specs.Frame.{frame, text}
use Rattle.frame_writer.specs.Split.{joined_frames, numbered}

two_packets : List (List ℕ)
two_packets = (0x00 ∷ 0xAA ∷ 0xBB ∷ []) ∷ (0x00 ∷ 0xCC ∷ 0xDD ∷ []) ∷ []

two_frames : List ℕ
two_frames =
    0x03 ∷ 0x00 ∷ 0x00 ∷ 0x00 ∷ 0x00 ∷ 0xAA ∷ 0xBB
    ∷ 0x03 ∷ 0x00 ∷ 0x01 ∷ 0x00 ∷ 0x00 ∷ 0xCC ∷ 0xDD ∷ []

-- two packets are two frames, whose counters rise by one
text-two_packets : text 0 two_packets ≡ two_frames
unfolding two_packets two_frames
text-two_packets = refl

-- and these split into the two packets
joined_frames-two_packets : joined_frames ((0, 0x00 ∷ 0xAA ∷ 0xBB ∷ []) ∷ (1, 0x00 ∷ 0xCC ∷ 0xDD ∷ []) ∷ []) ≡ two_frames
unfolding two_frames
joined_frames-two_packets = refl

-- LEN and CTR have the least significant byte first
frame-258 : frame 0x0102 (0x00 ∷ []) ≡ 0x01 ∷ 0x00 ∷ 0x02 ∷ 0x01 ∷ 0x00 ∷ []
frame-258 = refl

-- the counter wraps after 65535
text-wraps : text 65535 ((0x00 ∷ []) ∷ (0x01 ∷ []) ∷ []) ≡ 0x01 ∷ 0x00 ∷ 0xFF ∷ 0xFF ∷ 0x00 ∷ 0x01 ∷ 0x00 ∷ 0x00 ∷ 0x00 ∷ 0x01 ∷ []
text-wraps = refl

numbered-wraps : numbered 65535 ((0x00 ∷ []) ∷ (0x01 ∷ []) ∷ []) ≡ (65535, 0x00 ∷ []) ∷ (0, 0x01 ∷ []) ∷ []
numbered-wraps = refl
