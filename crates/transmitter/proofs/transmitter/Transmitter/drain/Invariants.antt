use Rattle.std.proofs.Common.{◌≡◌, ◌-◌, true, false, map}
use Rattle.xcp_base.specs.declared.limits.TheConstants.{MAX_TAKEN}
use Rattle.sampler.specs.State.{joined, sent_by}
use Rattle.transmitter.specs.Looks.{EndsStay, KnowsNone, KnowsSome}
use Rattle.transmitter.specs.Written.{transmission}
use Rattle.transmitter.proofs.DrainLemmas.{Emptying}
use Rattle.transmitter.proofs.transmitter.Transmitter.drain.Given as goal

-- so many rounds were had, and what is left is known
abbrev pub invariant-loop-left : goal.invariant-loop-left
invariant-loop-left g l =
    let t = g.T.TakeEnd in
    let r = g.T.End.RingEnd in
    record {
      emptying : Emptying (sent_by (map (joined r) l.fn.ends)) (transmission g.O.Out t l.fn.self) (transmission g.O.Out t l.self);
      rings : map t.ring l.self.ends.items ≡ map t.ring l.fn.self.ends.items;
      ends : EndsStay r l.fn.ends l.ends;
      some : l.left ≡ true → KnowsSome (transmission g.O.Out t l.self);
      none : l.left ≡ false → KnowsNone (transmission g.O.Out t l.self);
    }

-- each pump takes an item
abbrev pub decreases-loop-left : goal.decreases-loop-left
decreases-loop-left g l = MAX_TAKEN - l.self.taken
