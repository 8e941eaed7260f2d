-- The parts of an A2L file: the blocks that are handed on, each with the words directly in it.
-- Which blocks these are is said in Roles. In
--
--   /begin PROJECT p ""
--     /begin MODULE m ""
--       /begin MEASUREMENT speed "" UWORD rpm 0 0 0 9000 ECU_ADDRESS 0x10
--         /begin BIT_OPERATION RIGHT_SHIFT 4 /end BIT_OPERATION
--       /end MEASUREMENT
--       /begin GROUP all "" /end GROUP
--     /end MODULE
--   /end PROJECT
--
-- they are first Measurement, with the words speed "" UWORD rpm 0 0 0 9000 ECU_ADDRESS 0x10
-- BIT_OPERATION RIGHT_SHIFT 4, and then Module, with no words.
use Rattle.std.specs.Prelude.{ℕ, List, [], ◌∷◌, ◌++◌}
use Rattle.a2l_text.specs.Tokens.{Token, plain, quoted}
use Rattle.a2l_text.specs.Trees.{Elements, none, word, text, include, block, direct}
use Rattle.a2l_text.specs.Roles.{inside, after_plain, after_text}
use Rattle.a2l_text.specs.declared.part.Part.{Part}
use Rattle.a2l_text.specs.declared.part.Part.TheVariants as part
use Rattle.a2l_text.specs.declared.role.Role.{Role}
use Rattle.a2l_text.specs.declared.role.Role.TheVariants.{File, Project, Module, IfData, Xcp}
use Rattle.a2l_text.specs.declared.role.Role.TheVariants.{XcpPlus, Gathered, Grammar, Joined}
use Rattle.a2l_text.specs.declared.role.Role.TheVariants.{PassedOver}

-- a part: its kind, and the words directly in it; where a block in it has options of the part, the
-- name of that block and the words directly in it
pub record Section : Type 0 where
  pub part : Part
  pub words : List Token

-- what a block of a role, a name and these words adds to the words around it: its name and its
-- words, if they are options of the part that it stands in
abbrev pub joined_words : Role → List ℕ → List Token → List Token
joined_words File name words = []
joined_words Project name words = []
joined_words Module name words = []
joined_words IfData name words = []
joined_words Xcp name words = []
joined_words XcpPlus name words = []
joined_words (Gathered p) name words = []
joined_words Joined name words = plain name ∷ words
joined_words Grammar name words = []
joined_words PassedOver name words = []

-- the words of a block of a role and of these elements, if it is a part
abbrev pub words_in : Role → Elements → List Token
words_in role none = []
words_in role (word bytes others) = plain bytes ∷ words_in role others
words_in role (text bytes others) = quoted bytes ∷ words_in role others
words_in role (include others) = words_in role others
words_in role (block name inner others) =
    joined_words (inside role name) name (direct inner) ++ words_in role others

-- the parts that a block of a role makes, of its words and the parts in it: a MODULE comes behind
-- the parts in it, and any other part has none in it
abbrev pub parts_of_block : Role → List Token → List Section → List Section
parts_of_block File words inner = inner
parts_of_block Project words inner = inner
parts_of_block Module words inner = inner ++ record { part = part.Module; words = [] } ∷ []
parts_of_block IfData words inner = inner
parts_of_block Xcp words inner = inner
parts_of_block XcpPlus words inner = inner
parts_of_block (Gathered p) words inner = record { part = p; words = words } ∷ []
parts_of_block Joined words inner = []
parts_of_block Grammar words inner = []
parts_of_block PassedOver words inner = []

-- the parts among the elements of a block of a role, in their order
abbrev pub parts : Role → Elements → List Section
parts role none = []
parts role (word bytes others) = parts (after_plain role bytes) others
parts role (text bytes others) = parts (after_text role) others
parts role (include others) = parts role others
parts role (block name inner others) =
    parts_of_block (inside role name) (words_in (inside role name) inner)
    (parts (inside role name) inner)
    ++ parts role others
