use Rattle.std.proofs.Common.{ap}
use Rattle.mdf_file.specs.Writing.{Written}
use Rattle.mdf_file.proofs.AddLemmas.{any_ok}
use Rattle.mdf_file.proofs.StandingLemmas.{same_unfinished, stays}
use Rattle.mdf_file.proofs.mdf_writer.MdfWriter.group.Goals as goal
use Rattle.mdf_file.proofs.mdf_writer.MdfWriter.group.Goals.{in-Ok, in-Err}

-- nothing was written
pub returns-clause-unfinished : goal.returns-clause-unfinished
returns-clause-unfinished g c =
    let bytes : Written → _ = λ w. w.bytes in
    let known = g.O.MdfOut.known c.self.inside.file.out in
    let same = same_unfinished known _ _ (c.self.invariant c.in_default.is) in
    elim c.match-push.branch [
      | in-Ok w ↦ any_ok c.match-push.result
          (stays known _ _ (ap bytes c.self.view_is) (ap bytes w.self-is) same)
      | in-Err w ↦ any_ok c.match-push.result
          (stays known _ _ (ap bytes c.self.view_is) (ap bytes w.self-is) same)
    ]
