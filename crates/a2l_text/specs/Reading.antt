-- The words of a text are those of a tree of elements, and the parts that are read of the text are
-- those of the tree.
use Rattle.std.specs.Prelude.{◌≡◌, List, [], Option, Some}
use Rattle.a2l_text.specs.Tokens.{Token}
use Rattle.a2l_text.specs.Trees.{Elements, IsWithin, printed}
use Rattle.a2l_text.specs.Parts.{Section, parts}
use Rattle.a2l_text.specs.Ahead.{sections_from}
use Rattle.a2l_text.specs.declared.role.Role.TheVariants.{File}

-- the parts of a text that has these words
abbrev pub sections_of : List Token → Option (List Section)
sections_of words = sections_from File [] [] words

-- the words are those of elements, of which at most 64 blocks stand in one another, with /include
-- in A2ML alone, and these are their parts
pub record HaveParts (words : List Token) (sections : List Section) : Type 0 where
  pub elements : Elements
  pub within : IsWithin 64 File elements
  pub words_are : words ≡ printed elements
  pub parts_are : sections ≡ parts File elements

-- what is read of words are the parts of elements whose words they are
abbrev pub ReadsElements : Type 0
ReadsElements =
    (words : List Token) (sections : List Section) → sections_of words ≡ Some sections
    → HaveParts words sections

-- the parts of elements are read of their words
abbrev pub ReadsAll : Type 0
ReadsAll =
    (elements : Elements) → IsWithin 64 File elements
    → sections_of (printed elements) ≡ Some (parts File elements)
