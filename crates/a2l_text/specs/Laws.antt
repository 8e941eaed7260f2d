-- A text has one reading: what is next in it, or why nothing is, is determined.
use Rattle.std.specs.Prelude.{◌≡◌, ℕ, List}
use Rattle.a2l_text.specs.Tokens.{Token}
use Rattle.a2l_text.specs.Words.{Leads, Ends, AreWords}
use Rattle.a2l_text.specs.Faults.{Stalls}
use Rattle.a2l_text.specs.declared.fault.WordFault.{WordFault}

abbrev pub OneWordIsNext : Type 0
OneWordIsNext = (text : List ℕ) (word other : Token) (rest left : List ℕ)
    → Leads text word rest → Leads text other left → (word ≡ other) × (rest ≡ left)

abbrev pub NoWordAtTheEnd : Type 0
NoWordAtTheEnd = (text : List ℕ) (word : Token) (rest : List ℕ)
    → Leads text word rest → Ends text → ⊥

abbrev pub NoWordAtAFault : Type 0
NoWordAtAFault = (text : List ℕ) (fault : WordFault) (from : List ℕ) (word : Token) (rest : List ℕ)
    → Stalls text fault from → Leads text word rest → ⊥

abbrev pub NoEndAtAFault : Type 0
NoEndAtAFault = (text : List ℕ) (fault : WordFault) (from : List ℕ)
    → Stalls text fault from → Ends text → ⊥

abbrev pub OneFault : Type 0
OneFault = (text : List ℕ) (fault other : WordFault) (from place : List ℕ)
    → Stalls text fault from → Stalls text other place → (fault ≡ other) × (from ≡ place)

-- a text has one list of words
abbrev pub OneListOfWords : Type 0
OneListOfWords = (text : List ℕ) (words others : List Token)
    → AreWords text words → AreWords text others → words ≡ others
