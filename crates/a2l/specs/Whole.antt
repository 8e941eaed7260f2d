-- What a text says of what can be measured.
use Rattle.std.specs.Prelude.{◌≡◌, ℕ, Bool, true, false, List, Option, Some, None, Result, Ok, Err}
use Rattle.a2l_text.specs.Tokens.{Token}
use Rattle.a2l_text.specs.Words.{AreWords, without_mark}
use Rattle.a2l_text.specs.Trees.{Elements, IsWithin, printed}
use Rattle.a2l_text.specs.declared.block_fault.BlockFault.TheVariants as block
use Rattle.a2l_text.specs.declared.role.Role.TheVariants.{File}
use Rattle.a2l_text.specs.Steps.{State, UnlessMemory, StopsAt, coming, cleared}
use Rattle.a2l.specs.declared.fault.A2lFault.{A2lFault}
use Rattle.a2l.specs.declared.fault.A2lFault.TheVariants as fault
use Rattle.a2l_entries.specs.declared.entry_fault.EntryFault.{EntryFault}
use Rattle.a2l_entries.specs.declared.entry_fault.EntryFault.TheVariants as entry
use Rattle.a2l.specs.declared.reading.ReadFault.{ReadFault}
use Rattle.a2l.specs.declared.reading.ReadFault.TheVariants as read
use Rattle.a2l_entries.specs.Gives.{◌>>=◌, Stops}
use Rattle.a2l.specs.ModuleSaid.{Told}
use Rattle.a2l.specs.Described.{Described, described_from, description_of}

-- the words of a text are those of elements, of which at most 64 blocks stand in one another, with
-- /include in A2ML alone
pub record IsTextOf (text : List ℕ) (elements : Elements) : Type 0 where
  pub within : IsWithin 64 File elements
  pub words : AreWords (without_mark text) (printed elements)

-- the text has elements, and they describe this
pub record Describes (text : List ℕ) (description : Described) : Type 0 where
  pub elements : Elements
  pub text_is : IsTextOf text elements
  pub says : description_of elements ≡ Some description

-- no elements that the text may have describe anything
abbrev pub DescribesNothing : List ℕ → Type 0
DescribesNothing text =
    (elements : Elements) → IsTextOf text elements → description_of elements ≡ None

-- this, unless memory ran out
abbrev pub UnlessOut : A2lFault → Type 0 → Type 0
UnlessOut fault.Memory P = Unit {0}
UnlessOut (fault.At place reason) P = P

-- ---- part by part

-- the description that the parts to come make, where these are the words ahead
abbrev pub to_come : State → Told × Described → List Token → Option Described
to_come s d words = coming (cleared s) words >>= described_from d

-- what came so far leads on: the description to come is the same
pub record Continues (old : State) (from : Told × Described) (new : State) (d : Told × Described)
    : Type 0 where
  pub there :
      (words : List Token) → AreWords old.ahead words → (rest : List Token)
      × AreWords new.ahead rest × (to_come old from words ≡ to_come new d rest)
  pub back :
      (rest : List Token) → AreWords new.ahead rest → (words : List Token)
      × AreWords old.ahead words

-- the text has words, and they make this description
pub record IsAllOf (old : State) (from d : Told × Described) : Type 0 where
  pub words : List Token
  pub are : AreWords old.ahead words
  pub says : to_come old from words ≡ Some d.1

abbrev pub UnlessStopped : EntryFault → Type 0 → Type 0
UnlessStopped entry.Memory P = Unit {0}
UnlessStopped (entry.Awaited at what) P = P
UnlessStopped (entry.Refused at what) P = P

abbrev pub UnlessFault : ReadFault → Type 0 → Type 0
UnlessFault (read.Block f) P = UnlessMemory f P
UnlessFault (read.Entry s) P = UnlessStopped s P

-- the text has no words, or they make no description
abbrev pub MakesNone : ReadFault → State → Told × Described → Type 0
MakesNone f old from =
    UnlessFault f ((words : List Token) → AreWords old.ahead words → to_come old from words ≡ None)

-- no part is next
abbrev pub HasNoPart : ReadFault → State → Type 0
HasNoPart (read.Block f) old = StopsAt f old.ahead (coming (cleared old))
HasNoPart (read.Entry s) old = ⊥

-- a part is taken, or says nothing
abbrev pub Takes :
    Result (Unit {0}) ReadFault → Option (Told × Described) → Told × Described → Type 0
Takes (Ok u) said new = said ≡ Some new
Takes (Err (read.Block f)) said new = ⊥
Takes (Err (read.Entry s)) said new = Stops s said

-- memory ran out
abbrev pub is_memory : ReadFault → Bool
is_memory (read.Block block.Memory) = true
is_memory (read.Block (block.Words w)) = false
is_memory (read.Block block.Include) = false
is_memory (read.Block block.TooDeep) = false
is_memory (read.Block block.Name) = false
is_memory (read.Block (block.End name)) = false
is_memory (read.Block block.Stray) = false
is_memory (read.Entry entry.Memory) = true
is_memory (read.Entry (entry.Awaited at what)) = false
is_memory (read.Entry (entry.Refused at what)) = false

abbrev pub is_out : A2lFault → Bool
is_out fault.Memory = true
is_out (fault.At place reason) = false
