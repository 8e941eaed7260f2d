-- Frames in blocks, as a page keeps them.
use Rattle.std.proofs.Common.{◌≡◌, ℕ, ◌*◌, ◌/◌, ◌%◌, ◌<◌, ◌≤◌, List, [], ◌∷◌, ◌++◌, length, take, drop, refl, sym, ap, ◌∙◌, arith, append-nil}
use Rattle.std.proofs.lemmas.List.{length-take, take-take}
use Rattle.std.proofs.lemmas.List.Elements.{All-cons, All-nil}
use Rattle.std.specs.Simd.{first_chunks}
use Rattle.xcp_base.specs.declared.limits.TheConstants.{MAX_ODTS_IN_ALL}
use Rattle.channel_ring.specs.Making.{IsPacket}
use Rattle.frame_writer.specs.Frame.{frame}
use Rattle.frame_ring.specs.Reading.{flat, packets_in}
use Rattle.frame_ring.specs.Records.{blocks_for}
use Rattle.frame_ring.specs.Sending.{AreFrames, AreFramesOf}
use Rattle.frame_ring.proofs.BlockLemmas.{flat-chunks, length-chunks}
use Rattle.frame_page.specs.Inner.{IsUnit}
use Rattle.frame_page.specs.Pages.{laid_in}
use Rattle.frame_page.specs.declared.unit.Unit.{Unit}
use Rattle.frame_page.proofs.UnitLemmas.{read_front, whole_front}

-- the header of a short one
pub short_header : (q : List ℕ) → length q ≤ 255 → (length q ∷ 0 ∷ 0 ∷ 0 ∷ []) ++ q ≡ frame 0 q
short_header q h =
    let low : length q ≡ length q % 256 = omega (arith, h) in
    let high : 0 ≡ length q / 256 % 256 = omega (arith, h) in
    ap (λ a. a ∷ 0 ∷ 0 ∷ 0 ∷ q) low ∙ ap (λ b. length q % 256 ∷ b ∷ 0 ∷ 0 ∷ q) high

-- one packet is its frame
pub one_packet : (bytes q : List ℕ) (len : ℕ) → 0 < length q → length q ≤ 255 → take len bytes ≡ frame 0 q → AreFramesOf (take len bytes) 1 (q ∷ [])
one_packet bytes q len some short is = record {
  each = All-cons IsPacket q [] (record { some = some; fits = omega (arith, short) }) (All-nil IsPacket);
  are = is ∙ sym (append-nil (frame 0 q));
  many = refl;
}

-- the unit of frames
abbrev pub put_unit : {O : Type 0} → O → ℕ → ℕ → Unit O
put_unit origin len count = record { origin = origin; blocks = blocks_for len; at = 0; len = len; count = count }

module _ {O : Type 0} (origin : O) (packets : List (List ℕ)) (bytes : List ℕ) (len count : ℕ) (some : 0 < count) (few : count ≤ MAX_ODTS_IN_ALL) (whole : 8 * blocks_for len ≤ length bytes) (of : AreFramesOf (take len bytes) count packets) where
  abbrev pub put_region : List (List ℕ)
  put_region = first_chunks 8 (blocks_for len) bytes

  are : take len (drop 0 (flat put_region)) ≡ take len bytes
  are = ap (take len) (flat-chunks (blocks_for len) bytes) ∙ take-take len (8 * blocks_for len) bytes (omega arith)

  frames : AreFrames (take len (drop 0 (flat put_region))) count
  frames = record { packets = packets; of = record { each = of.each; are = are ∙ of.are; many = of.many } }

  pub put_is : IsUnit put_region (put_unit origin len count)
  put_is = record {
    long = length-chunks (blocks_for len) bytes;
    bytes = ap length (flat-chunks (blocks_for len) bytes) ∙ length-take (8 * blocks_for len) bytes ∙ omega (arith, whole);
    within = omega arith;
    some = some;
    few = few;
    frames = frames;
  }

  pub put_laid : laid_in put_region (put_unit origin len count) ≡ record { origin = origin; packets = packets; blocks = blocks_for len }
  unfolding frames
  put_laid =
      ap (λ b. record { origin = origin; packets = packets_in count (drop 0 (flat b)); blocks = blocks_for len }) (whole_front (blocks_for len) put_region (length-chunks (blocks_for len) bytes))
      ∙ ap (λ qs. record { origin = origin; packets = qs; blocks = blocks_for len }) (read_front (drop 0 (flat put_region)) count len frames)
