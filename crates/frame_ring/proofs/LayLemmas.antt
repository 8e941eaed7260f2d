-- A record, written part by part.
use Rattle.std.proofs.Common.{◌≡◌, ℕ, zero, suc, ◌+◌, ◌-◌, ◌*◌, ◌<◌, ◌≤◌, List, ◌∷◌, ◌++◌, length, take, replicate, get_or, refl, ap, sym, ◌∙◌, arith, append_assoc}
use Rattle.std.proofs.lemmas.List.{length-take, take-replicate, take-take}
use Rattle.std.proofs.Math.Seq.{take-append-add}
use Rattle.std.proofs.lemmas.Nat.{le_bytes_8}
use Rattle.std.specs.Int.{from_le_bytes, to_le_bytes, w32, w64}
use Rattle.xcp_base.specs.Samples.{SampleParts}
use Rattle.xcp_base.specs.declared.item.Item.TheVariants.{Sample}
use Rattle.frame_ring.specs.Records.{blocks_for, bytes_of, head_bytes}
use Rattle.frame_writer.specs.Frame.{unnumbered}
use Rattle.frame_ring.proofs.RecordLemmas.{sample_bytes}

pub head_same : (s : SampleParts) (count len : ℕ) → count ≡ length s.packets → len ≡ length (unnumbered s.packets) → 1 ∷ s.channel ∷ s.list ∷ count ∷ (to_le_bytes w32 len ++ to_le_bytes w64 s.number) ≡ head_bytes s
head_same s count len e f =
    ap (λ k. 1 ∷ s.channel ∷ s.list ∷ k ∷ (to_le_bytes w32 len ++ to_le_bytes w64 s.number)) e
    ∙ ap (λ n. 1 ∷ s.channel ∷ s.list ∷ length s.packets ∷ (to_le_bytes w32 n ++ to_le_bytes w64 s.number)) f

-- eight bytes that were read as one number are its bytes
pub front_is : (channel list count len front : ℕ) → channel < 256 → list < 256 → count < 256 → front ≡ from_le_bytes w64 (1 ∷ channel ∷ list ∷ count ∷ to_le_bytes w32 len)
    → to_le_bytes w64 front ≡ 1 ∷ channel ∷ list ∷ count ∷ to_le_bytes w32 len
front_is channel list count len front a b c e = le_bytes_8 (1 ∷ channel ∷ list ∷ count ∷ to_le_bytes w32 len) front refl small e
  where
    small : (i : ℕ) → get_or (1 ∷ channel ∷ list ∷ count ∷ to_le_bytes w32 len) i 0 < 256
    small zero = omega arith
    small (suc zero) = a
    small (suc (suc zero)) = b
    small (suc (suc (suc zero))) = c
    small (suc (suc (suc (suc zero)))) = omega arith
    small (suc (suc (suc (suc (suc zero))))) = omega arith
    small (suc (suc (suc (suc (suc (suc zero)))))) = omega arith
    small (suc (suc (suc (suc (suc (suc (suc zero))))))) = omega arith
    small (suc (suc (suc (suc (suc (suc (suc (suc i)))))))) = omega arith

-- the head, written in two parts
pub head_laid : (at : ℕ) (o a b x y : List ℕ) → take (at + 8) a ≡ take at o ++ x → take (at + 8 + 8) b ≡ take (at + 8) a ++ y → take (at + 16) b ≡ take at o ++ (x ++ y)
head_laid at o a b x y e f =
    let sixteen : at + 16 ≡ at + 8 + 8 = omega arith in
    ap (λ n. take n b) sixteen ∙ f ∙ ap (λ l. l ++ y) e ∙ append_assoc (take at o) x y

-- a block of 00, of which so many count
pub fill_laid : (at count : ℕ) (o a : List ℕ) → at ≤ length o → count ≤ 8 → take (at + 8) a ≡ take at o ++ replicate 8 0 → take (at + count) a ≡ take at o ++ replicate count 0
fill_laid at count o a within few whole =
    let front : at ≡ length (take at o) = omega (arith, within, length-take at o) in
    sym (take-take (at + count) (at + 8) a (omega (arith, few))) ∙ ap (take (at + count)) whole ∙ ap (λ n. take (n + count) (take at o ++ replicate 8 0)) front
    ∙ take-append-add (take at o) (replicate 8 0) count ∙ ap (λ b. take at o ++ b) (take-replicate count 8 0 few)

pub laid : (s : SampleParts) (at p q r : ℕ) (o a b c : List ℕ)
    → take p a ≡ take at o ++ head_bytes s
    → q ≡ p + length (unnumbered s.packets) → take q b ≡ take p a ++ unnumbered s.packets
    → take r c ≡ take q b ++ replicate (8 * blocks_for (length (unnumbered s.packets)) - length (unnumbered s.packets)) 0
    → p ≡ at + 16 → r ≡ q + (8 * blocks_for (length (unnumbered s.packets)) - length (unnumbered s.packets))
    → take (at + length (bytes_of (Sample s))) c ≡ take at o ++ bytes_of (Sample s)
unfolding bytes_of
laid s at p q r o a b c one end two three here there =
    let n = length (unnumbered s.packets) in
    let fill : List ℕ = replicate (8 * blocks_for n - n) 0 in
    let bytes : at + length (bytes_of (Sample s)) ≡ r = omega (arith, sample_bytes s, end, here, there) in
    ap (λ k. take k c) bytes ∙ three ∙ ap (λ t. t ++ fill) (two ∙ ap (λ t. t ++ unnumbered s.packets) one)
    ∙ ap (λ t. t ++ fill) (append_assoc (take at o) (head_bytes s) (unnumbered s.packets)) ∙ append_assoc (take at o) (head_bytes s ++ unnumbered s.packets) fill
    ∙ ap (λ t. take at o ++ t) (append_assoc (head_bytes s) (unnumbered s.packets) fill)
