-- FIRST_PID is that of the ODTs before, if there is such a list
use Rattle.std.proofs.Common.{◌∙◌, ◌<◌, ◌≤◌, Some, length, sym, ap, arith}
use Rattle.std.proofs.lemmas.Bool.Decides.{nat_tests}
use Rattle.std.proofs.lemmas.Grind.{common_steps}
use Rattle.daq_store.proofs.StandingLemmas.{first_pid_here, first_pid_past}
use Rattle.daq_store.proofs.store.Store.first_pid.Goals as goal

pub returns-then-not-is_list-clause-after : goal.returns-then-not-is_list-clause-after
returns-then-not-is_list-clause-after c = λ calls h.
    let past : length c.args.self.now.lists ≤ c.args.list = grind (arith, nat_tests, common_steps) in
    sym (first_pid_past c.args.self.now calls c.args.list h past)

pub returns-clause-after : goal.returns-clause-after
returns-clause-after c = λ calls h.
    let inside : c.args.list < length c.args.self.now.lists = grind (arith, nat_tests, common_steps) in
    ap Some c.first_pid_at.ensures.value ∙ sym (first_pid_here c.args.self.now calls c.args.list h inside)
