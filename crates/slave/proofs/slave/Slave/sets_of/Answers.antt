use Rattle.std.proofs.Common.{◌<◌, ◌∙◌, arith}
use Rattle.std.proofs.lemmas.List.{length-set}
use Rattle.std.proofs.lemmas.Option.{slice_get_within}
use Rattle.xcp_base.specs.declared.limits.TheConstants.{MAX_CHANNELS}
use Rattle.slave.proofs.SetsLemmas.{more-sets}
use Rattle.slave.proofs.slave.Slave.sets_of.Goals as goal

-- the set of one more event channel
pub loop-c-preserved : goal.loop-c-preserved
loop-c-preserved c =
    let below : c.loop-c.c < MAX_CHANNELS = omega (arith, c.loop-c-test.true) in
    record {
      many = length-set c.loop-c.sets c.loop-c.c c.set_on.result ∙ c.loop-c.invariant.many;
      are = more-sets c.args.self.now.session c.args.lists c.loop-c.sets c.loop-c.c c.set_on.result (omega (arith, below, c.loop-c.invariant.many)) c.loop-c.invariant.are (rw c.at.ensures at c.set_on.ensures.set);
    }

pub returns-clause-sets : goal.returns-clause-sets
returns-clause-sets c = λ k one at. c.loop-c.invariant.are k one (omega (arith, slice_get_within c.loop-c.sets k one at, c.loop-c.invariant.many, c.loop-c-test.false)) at
