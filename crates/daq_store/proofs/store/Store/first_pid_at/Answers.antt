-- the ODTs of the list and of those before it are no more than there may be
use Rattle.std.proofs.Common.{◌≡◌, arith, subst}
use Rattle.std.proofs.lemmas.Grind.{common_steps}
use Rattle.daq_store.specs.Standing.{IsStore, first_pid_of}
use Rattle.daq_store.proofs.StandingLemmas.{room}
use Rattle.daq_store.proofs.store.Store.first_pid_at.Goals as goal

pub returns-clause-room : goal.returns-clause-room
returns-clause-room c = λ inside.
    let value : c.first_pid.result ≡ first_pid_of c.args.self.now c.args.list = grind (arith, common_steps) in
    rw value (room c.args.self.now c.args.list (subst IsStore c.self.view_is c.self.invariant) inside)
