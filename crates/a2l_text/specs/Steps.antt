-- What reading the next words of a text does.
use Rattle.std.specs.Prelude.{◌≡◌, ℕ, ◌<◌, List, [], ◌∷◌, length, Option, Some, None}
use Rattle.a2l_text.specs.Tokens.{Token, begin, end, include, plain, quoted}
use Rattle.a2l_text.specs.TokenOf.{token_of}
use Rattle.a2l_text.specs.Words.{AreWords}
use Rattle.a2l_text.specs.declared.word.Word.{Word}
use Rattle.a2l_text.specs.Parts.{Section}
use Rattle.a2l_text.specs.Ahead.{Open, in_front, sections_from}
use Rattle.a2l_text.specs.declared.part.Part.{Part}
use Rattle.a2l_text.specs.declared.role.Role.{Role}
use Rattle.a2l_text.specs.declared.located.Located.{Located}
use Rattle.a2l_text.specs.declared.block_fault.BlockFault.{BlockFault}
use Rattle.a2l_text.specs.declared.block_fault.BlockFault.TheVariants as fault

abbrev pub token_at : Located → Token
token_at l = token_of l.word

-- how far a text has been read
pub record State : Type 0 where
  pub role : Role
  -- the open blocks, the innermost first
  pub around : List Open
  pub gathered : List Token
  -- the text that isn't read yet
  pub ahead : List ℕ

-- the parts to come, where these are the words ahead
abbrev pub coming : State → List Token → Option (List Section)
coming s words = sections_from s.role s.around s.gathered words

-- the same, where this word comes before them
abbrev pub coming_behind : Token → State → List Token → Option (List Section)
coming_behind word s words = coming s (word ∷ words)

-- nothing is gathered
abbrev pub cleared : State → State
cleared s = record s { gathered = [] }

-- ---- single words

-- the next word of a text, and what is left of the text
pub record TakesWord (word : Token) (old new : List ℕ) : Type 0 where
  pub there :
      (words : List Token) → AreWords old words → (rest : List Token) × (words ≡ word ∷ rest)
      × AreWords new rest
  pub back : (rest : List Token) → AreWords new rest → AreWords old (word ∷ rest)
  pub shorter : length new < length old

pub record HasNoMore (old : List ℕ) : Type 0 where
  pub there : (words : List Token) → AreWords old words → words ≡ []
  pub back : AreWords old []

abbrev pub WordIs : Option Word → List ℕ → List ℕ → Type 0
WordIs None old new = HasNoMore old
WordIs (Some word) old new = TakesWord (token_of word) old new

abbrev pub NameIs : List ℕ → List ℕ → List ℕ → Type 0
NameIs name old new = TakesWord (plain name) old new

abbrev pub plain_bytes : Token → Option (List ℕ)
plain_bytes begin = None
plain_bytes end = None
plain_bytes include = None
plain_bytes (plain bytes) = Some bytes
plain_bytes (quoted bytes) = None

-- this, unless memory ran out
abbrev pub UnlessMemory : BlockFault → Type 0 → Type 0
UnlessMemory fault.Memory P = Unit {0}
UnlessMemory (fault.Words w) P = P
UnlessMemory fault.Include P = P
UnlessMemory fault.TooDeep P = P
UnlessMemory fault.Name P = P
UnlessMemory (fault.End name) P = P
UnlessMemory fault.Stray P = P

abbrev pub HasNoWords : BlockFault → List ℕ → Type 0
HasNoWords f old = UnlessMemory f ((words : List Token) → AreWords old words → ⊥)

abbrev pub HasNoName : BlockFault → List ℕ → Type 0
HasNoName f old =
    UnlessMemory f ((name : List ℕ) (words : List Token) → AreWords old (plain name ∷ words) → ⊥)

-- ---- steps

-- The words ahead lead to the new state: what they make before is what the words behind make then.
pub record Reaches (ahead : List ℕ) (before : List Token → Option (List Section)) (new : State)
    : Type 0 where
  pub there :
      (words : List Token) → AreWords ahead words → (rest : List Token) × AreWords new.ahead rest
      × (before words ≡ coming new rest)
  pub back :
      (rest : List Token) → AreWords new.ahead rest → (words : List Token) × AreWords ahead words

-- the same, and this part comes first
pub record ReachesPart (part : Part) (ahead : List ℕ)
    (before : List Token → Option (List Section)) (new : State)
    : Type 0 where
  pub there : (words : List Token) → AreWords ahead words
      → (rest : List Token) × AreWords new.ahead rest × (before words
      ≡ in_front (record { part = part; words = new.gathered } ∷ []) (coming (cleared new) rest))
  pub back :
      (rest : List Token) → AreWords new.ahead rest → (words : List Token) × AreWords ahead words

-- no more parts come
pub record Ends (ahead : List ℕ) (before : List Token → Option (List Section)) : Type 0 where
  pub there : (words : List Token) → AreWords ahead words → before words ≡ Some []
  pub back : (words : List Token) × AreWords ahead words

abbrev pub StepIs : Option Part → List ℕ → (List Token → Option (List Section)) → State → Type 0
StepIs None ahead before new = Reaches ahead before new
StepIs (Some part) ahead before new = ReachesPart part ahead before new

abbrev pub NextIs : Option Part → State → State → Type 0
NextIs None old new = Ends old.ahead (coming old)
NextIs (Some part) old new = ReachesPart part old.ahead (coming old) new

-- the text has no words, or they don't end the blocks, unless memory ran out
abbrev pub StopsAt : BlockFault → List ℕ → (List Token → Option (List Section)) → Type 0
StopsAt f ahead before =
    UnlessMemory f ((words : List Token) → AreWords ahead words → before words ≡ None)
