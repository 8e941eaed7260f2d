-- The elements of an A2L file (ASAM MCD-2 MC, the description file): words, texts and blocks in one
-- another.
use Rattle.std.specs.Prelude.{◌≡◌, ℕ, zero, suc, true, List, [], ◌∷◌}
use Rattle.a2l_text.specs.Tokens as token
use Rattle.a2l_text.specs.Tokens.{Token, begin, end, plain, quoted}
use Rattle.a2l_text.specs.Roles.{inside, after_plain, after_text, may_include}
use Rattle.a2l_text.specs.declared.role.Role.{Role}

-- elements, each with those behind it
pub data Elements : Type 0 where
  none : Elements
  word : (bytes : List ℕ) → (others : Elements) → Elements
  text : (bytes : List ℕ) → (others : Elements) → Elements
  -- /include
  include : (others : Elements) → Elements
  -- /begin NAME elements /end NAME
  block : (name : List ℕ) → (inner : Elements) → (others : Elements) → Elements

-- the words of elements, before these words
abbrev pub printed_before : Elements → List Token → List Token
printed_before none words = words
printed_before (word bytes others) words = plain bytes ∷ printed_before others words
printed_before (text bytes others) words = quoted bytes ∷ printed_before others words
printed_before (include others) words = token.include ∷ printed_before others words
printed_before (block name inner others) words =
    begin ∷ plain name ∷ printed_before inner (end ∷ plain name ∷ printed_before others words)

-- the words of elements
abbrev pub printed : Elements → List Token
printed elements = printed_before elements []

-- in a block of this role at most so many blocks stand in one another, and /include stands only
-- where it may
abbrev pub IsWithin : ℕ → Role → Elements → Type 0
IsWithin room role none = Unit {0}
IsWithin room role (word bytes others) = IsWithin room (after_plain role bytes) others
IsWithin room role (text bytes others) = IsWithin room (after_text role) others
IsWithin room role (include others) = (may_include role ≡ true) × IsWithin room role others
IsWithin zero role (block name inner others) = ⊥
IsWithin (suc room) role (block name inner others) =
    IsWithin room (inside role name) inner × IsWithin (suc room) role others

-- the words and texts that stand directly among the elements
abbrev pub direct : Elements → List Token
direct none = []
direct (word bytes others) = plain bytes ∷ direct others
direct (text bytes others) = quoted bytes ∷ direct others
direct (include others) = direct others
direct (block name inner others) = direct others
