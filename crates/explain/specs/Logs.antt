-- What is kept of the steps of a run.
use Rattle.std.specs.Prelude.{◌≡◌, false, [], ◌∷◌, ◌++◌}
use Rattle.daq_run.specs.declared.came.Came.{Came}
use Rattle.explain.specs.declared.step_log.StepLog.{StepLog}

-- a log that isn't short has what came of one step more, behind all that it had
abbrev pub KeepsCame : StepLog → Came → StepLog → Type 0
KeepsCame before came after =
    after.is_short ≡ false
    → (before.is_short ≡ false) × (after.cames.items ≡ before.cames.items ++ came ∷ [])
