use Rattle.std.proofs.Common.{◌≡◌, ℕ, ◌<◌, ◌++◌, true, false, length, map}
use Rattle.sampler.specs.State.{joined, sent_by}
use Rattle.transmitter.specs.Merge.{of_ring}
use Rattle.transmitter.specs.Inner.Turns.{AllStay}
use Rattle.transmitter.proofs.drain.look.Given as goal

-- the rings so far were looked at
abbrev pub invariant-loop-c : goal.invariant-loop-c
invariant-loop-c g l =
    let t = g.T.TakeEnd in
    let r = g.T.End.RingEnd in
    record {
      stay : AllStay t r l.fn.takes.items l.takes.items l.fn.ends l.ends;
      left : (e : ℕ) → e < l.c → of_ring (map t.received l.takes.items) e ++ of_ring (map t.known l.takes.items) e ≡ of_ring (sent_by (map (joined r) l.fn.ends)) e;
      some : l.some ≡ true → (e : ℕ) × (e < l.c) × (0 < length (of_ring (map t.known l.takes.items) e));
      none : l.some ≡ false → (e : ℕ) → e < l.c → length (of_ring (map t.known l.takes.items) e) ≡ 0;
    }
