use Rattle.std.proofs.Common.{subst, sym}
use Rattle.copy_plan.specs.Config.{IsPlan}
use Rattle.daq_engine.proofs.OverloadLemmas.{marks-stand}
use Rattle.daq_engine.proofs.PidLemmas.{all-indexed}
use Rattle.slave_outbox.specs.Deeds.{taken}
use Rattle.slave_outbox.specs.Intakes.{StandsAfter}
use Rattle.slave_outbox.proofs.AccountLemmas.{front-taken}
use Rattle.slave_outbox.proofs.intake.Intake.after.Goals as goal

-- what was taken begins what the sampler sent
pub returns-clause-marks : goal.returns-clause-marks
returns-clause-marks c = λ past deeds stands ends plans.
    let e = c.after.ensures in
    let there = subst (λ i. StandsAfter i deeds) (sym c.self.view_is) stands in
    marks-stand past (taken deeds) (all-indexed IsPlan past.opening.plans plans)
    (front-taken past deeds _ _ _ _ _ e.received_stays e.left e.sent_stays there.received ends.sent)
