-- Blocks that were written in parts.
use Rattle.std.proofs.Common.{◌≡◌, ℕ, ◌+◌, ◌*◌, List, [], ◌∷◌, ◌++◌, ◌∙◌, codes, length, ap, arith}
use Rattle.std.proofs.Common.{refl}
use Rattle.std.proofs.lemmas.List.{length-map}
use Rattle.std.specs.Float.{Float}
use Rattle.mdf_blocks.specs.Blocks.{block_head}
use Rattle.mdf_blocks.specs.Conversions.{cc_block, cc_body, cc_front, cc_links}
use Rattle.mdf_blocks.specs.Numbers.{reals, uint64s}
use Rattle.mdf_blocks.specs.Records.{dl_block, dl_body, dl_front, dl_links, offsets_of, places_of}
use Rattle.mdf_blocks.specs.declared.conversion_kind.ConversionKind.{ConversionKind}
use Rattle.mdf_blocks.specs.declared.listed_data.ListedData.{ListedData}
use Rattle.mdf_blocks.proofs.BlockLemmas.{five_written}
use Rattle.mdf_blocks.proofs.NumberLemmas.{length-reals, length-uint64s}

-- a conversion: its head, four links, the texts, what stands in front of the numbers, and these
pub cc_written : (kind : ConversionKind) (unit : ℕ) (references : List ℕ) (values : List Float)
    (old head front a b c d e : List ℕ) (len count : ℕ)
    → head ≡ block_head (codes "##CC") len count
    → len ≡ 80 + 8 * length references + 8 * length values → count ≡ 4 + length references
    → front ≡ cc_front kind (length references) (length values)
    → a ≡ old ++ head → b ≡ a ++ uint64s (0 ∷ unit ∷ 0 ∷ 0 ∷ []) → c ≡ b ++ uint64s references
    → d ≡ c ++ front → e ≡ d ++ reals values → e ≡ old ++ cc_block kind unit references values
cc_written kind unit references values old head front a b c d e len count head_is len_is count_is
    front_is ha hb hc hd he =
    five_written old (codes "##CC") (cc_links unit references)
    (cc_body kind (length references) values) head (uint64s (0 ∷ unit ∷ 0 ∷ 0 ∷ []))
    (uint64s references) (cc_front kind (length references) (length values)) (reals values)
    a b c d e len count head_is (omega (arith, len_is, length-reals values))
    (omega (arith, count_is)) refl refl ha hb hc (hd ∙ ap (λ zs. c ++ zs) front_is) he

-- a list of data blocks: its head, the next list, the blocks, their number, and their offsets
pub dl_written : (next : ℕ) (blocks : List ListedData) (old head front a b c d e : List ℕ)
    (len count n : ℕ) → head ≡ block_head (codes "##DL") len count
    → n ≡ length blocks → len ≡ 40 + 16 * n → count ≡ 1 + n → front ≡ dl_front n
    → a ≡ old ++ head → b ≡ a ++ uint64s (next ∷ []) → c ≡ b ++ uint64s (places_of blocks)
    → d ≡ c ++ front → e ≡ d ++ uint64s (offsets_of blocks) → e ≡ old ++ dl_block next blocks
dl_written next blocks old head front a b c d e len count n head_is n_is len_is count_is front_is
    ha hb hc hd he =
    let places : length (places_of blocks) ≡ length blocks = length-map blocks _ in
    let offsets : length (offsets_of blocks) ≡ length blocks = length-map blocks _ in
    five_written old (codes "##DL") (dl_links next blocks) (dl_body blocks) head
    (uint64s (next ∷ [])) (uint64s (places_of blocks)) (dl_front (length blocks))
    (uint64s (offsets_of blocks)) a b c d e len count head_is
    (omega (arith, len_is, n_is, places, offsets, length-uint64s (offsets_of blocks)))
    (omega (arith, count_is, n_is, places)) refl refl ha hb hc
    (hd ∙ ap (λ zs. c ++ zs) (front_is ∙ ap dl_front n_is)) he
