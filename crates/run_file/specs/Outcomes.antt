-- What a text comes to, want of memory aside.
use Rattle.std.specs.Prelude.{◌≡◌, ℕ, List, None}
use Rattle.toml.specs.Parse.{parse_document}
use Rattle.run_file.specs.RunFile.{HasBadKeyText, HasBadSetup, HasBadStep, IsRunText, RunData}

-- a run, or one of the four faults, two of them with a place
pub data Outcome : Type 0 where
  run : Outcome
  not_toml : Outcome
  bad_key : Outcome
  bad_setup : ℕ → Outcome
  bad_step : ℕ → Outcome

-- the text comes to this
abbrev pub IsOutcome : List ℕ → Outcome → Type 0
IsOutcome text run = (read : RunData) × IsRunText text read
IsOutcome text not_toml = parse_document text ≡ None
IsOutcome text bad_key = HasBadKeyText text
IsOutcome text (bad_setup place) = HasBadSetup text place
IsOutcome text (bad_step place) = HasBadStep text place

-- a text comes to one thing alone
abbrev pub OutcomeIsUnique : Type 0
OutcomeIsUnique = (text : List ℕ) (a b : Outcome) → IsOutcome text a → IsOutcome text b → a ≡ b
