use Rattle.std.proofs.Common.{◌≡◌, ℕ, Err, List, map, vec_items, ap, subst}
use Rattle.frame_writer.specs.Shown.{shown}
use Rattle.frame_writer.specs.Writing.{WriterState, fresh_writer, state_of}
use Rattle.daq_run.specs.Setup.{LosesReply, WantsMemory}
use Rattle.daq_run.specs.Faults.{StandsAtFault, run_fault}
use Rattle.daq_run.specs.SetUps.{profile_of}
use Rattle.daq_run.proofs.SetUpLemmas.{stops}
use Rattle.daq_run.proofs.setting_up.set_up.Goals as goal

-- where `carry_all` stops, the run does
pub returns-in-Err-clause-fault : goal.returns-in-Err-clause-fault
returns-in-Err-clause-fault g c =
    let before = shown g.O.Out c.args.out in
    let b = state_of g.O.Out c.carry_all.new.writer in
    let run = c.args.run.now in
    let told = c.in-Err.ensures in
    let s = c.in-Ok.store in
    let t = c.carry_all.new.store in
    let first = state_of g.O.Out c.new-writer.result in
    let on : (P : WriterState → List (List ℕ) → Type 0) → P first (map vec_items c.setup.result.now) → P (fresh_writer before) run.setup = λ P told. subst (λ w. P w run.setup) c.new-writer.ensures.fresh (subst (P first) c.setup.ensures.value told) in
    let profile : s.profile ≡ profile_of run = c.in-Ok.ensures.profile in
    let all : StandsAtFault run before b.out (run_fault c.in-Err.fault) = stops run s c.carry_all.new.store profile c.in-Ok.ensures.fresh before b c.in-Err.fault told.profile_stays
    (λ is. on (λ w ps. WantsMemory s t w b ps) (told.memory (ap Err is)))
    (λ is. on (λ w ps. LosesReply s t w b ps) (told.write (ap Err is))) in
    rw (c.into_out.ensures, c.from.ensures) all
