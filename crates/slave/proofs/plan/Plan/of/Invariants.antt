use Rattle.std.proofs.Common.{◌≡◌, map}
use Rattle.daq_store.specs.Calls.{numbers_below}
use Rattle.daq_store.specs.Standing.{conf_of}
use Rattle.session.specs.SetUps.{set_up_of}
use Rattle.slave.proofs.plan.Plan.of.Given as goal

-- the set-ups of the lists so far are held
abbrev pub invariant-loop-l : goal.invariant-loop-l
invariant-loop-l l = l.lists.items ≡ map (λ k. set_up_of (conf_of l.store k)) (numbers_below l.l)
