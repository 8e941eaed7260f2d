-- DAQ lists whose packets are read in the same way.
use Rattle.std.specs.Prelude.{◌≡◌, ℕ, ⊤, Option}
use Rattle.captured_session.specs.Lists.{ListOf}
use Rattle.captured_session.specs.declared.id_field.IdField.{IdField}
use Rattle.captured_session.specs.declared.id_field.IdField.TheVariants.{Absolute}

-- an absolute ODT number is read by the PID with which those of the list begin; the other
-- identification fields name the list
abbrev pub SamePids : IdField → Option ℕ → Option ℕ → Type 0
SamePids Absolute a b = a ≡ b
SamePids _ a b = ⊤

-- the packets of both are those of the same list, and have the same entries at the same places
pub record ReadsAlike (a b : ListOf) : Type 0 where
  pub list : a.list ≡ b.list
  pub form : a.form ≡ b.form
  pub mode : a.mode ≡ b.mode
  pub pids : SamePids a.form.field a.first_pid b.first_pid
  pub odts : a.odts ≡ b.odts
