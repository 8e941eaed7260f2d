-- Texts (ASAM MDF 4.1, TX and MD): UTF-8, ended by a zero.
use Rattle.std.specs.Prelude.{◌≡◌, ◌≢◌, ℕ, List, [], ◌∷◌, ◌++◌, All, codes}
use Rattle.mdf_blocks.specs.Blocks.{block, filled}
use Rattle.mdf_blocks.specs.Numbers.{zeros}

-- tx_data, md_data
abbrev pub text_body : List ℕ → List ℕ
text_body text = text ++ zeros 1

-- TX, a plain text
abbrev pub tx_block : List ℕ → List ℕ
tx_block text = filled (block (codes "##TX") [] (text_body text))

-- MD, a text in XML
abbrev pub md_block : List ℕ → List ℕ
md_block text = filled (block (codes "##MD") [] (text_body text))

-- the text of a data section: what stands before the first zero
pub record IsTextOf (body text : List ℕ) : Type 0 where
  -- fixed by `ended`, which says its length
  pub behind : List ℕ
  pub ended : body ≡ text ++ 0 ∷ behind
  pub whole : All (λ b. b ≢ 0) text
