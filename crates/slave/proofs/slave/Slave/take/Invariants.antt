use Rattle.std.proofs.Common.{◌≡◌, ◌⊎◌, ◌≤◌, ◌+◌, ◌*◌, ◌-◌}
use Rattle.xcp_base.specs.declared.limits.TheConstants.{MAX_CHANNELS}
use Rattle.slave.specs.Taking.{LetsGo, TakesItems}
use Rattle.slave.specs.declared.limits.TheConstants.{PER_ACT}
use Rattle.slave.proofs.FairLemmas.{Begins, FairSoFar}
use Rattle.slave.proofs.slave.Slave.take.Given as goal

-- in each round one item of a ring was taken at most, and in each but the first one at least; and
-- the rings were looked at by turns
abbrev pub invariant-loop-rounds : goal.invariant-loop-rounds
invariant-loop-rounds l = record {
  takes : TakesItems (1024 * MAX_CHANNELS + MAX_CHANNELS * l.rounds) l.fn.self l.self;
  few : l.rounds ≤ 1024;
  went : (l.rounds ≡ 0) ⊎ ((l.begin ≡ 0) × (l.fn.self.acts + PER_ACT * (l.rounds - 1) ≤ l.self.acts));
  first : (l.rounds ≡ 0) ⊎ (l.self.next ≡ 0);
  begins : Begins l.fn.self l.rounds l.begin;
  goes : LetsGo l.fn.self l.self;
  fair : FairSoFar l.fn.self l.self l.rounds;
}

abbrev pub decreases-loop-rounds : goal.decreases-loop-rounds
decreases-loop-rounds l = 1024 - l.rounds
