use Rattle.std.proofs.Common.{◌≡◌, vec_len, arith}
use Rattle.std.proofs.lemmas.Bool.Decides.{nat_tests}
use Rattle.first_slave.proofs.RingLemmas.{one_ring}
use Rattle.first_slave.proofs.open.Goals as goal

-- the one task is on the one line
pub returns : goal.returns
returns c =
    let popped = c.in-Some-true.ensures in
    let none : vec_len c.pop.new.self ≡ 0 = grind (arith, nat_tests, c.in-Some-true.ensures') in
    let one : vec_len c.in_ok-slave.tasks ≡ 1 = omega (arith, none, popped.cases) in
    record { one = one_ring _ c.in_ok-slave.tasks.items c.pop.new.self.items c.in-Some-true.task _ c.in_ok-slave.ensures.tasks popped.items popped.rest one }
