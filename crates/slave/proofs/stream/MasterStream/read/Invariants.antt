use Rattle.session.specs.Standing.{given_by}
use Rattle.std.proofs.Common.{◌≡◌, ◌⊎◌, ◌≤◌, [], length, take as first, false}
use Rattle.slave.specs.Hearing.{may_hear}
use Rattle.slave.specs.Receiving.{Receives}
use Rattle.slave.proofs.stream.MasterStream.read.Given as goal

-- the bytes before this place were taken, at least one in each turn
abbrev pub invariant-loop : goal.invariant-loop
invariant-loop l = record {
  within : l.at ≤ length l.bytes;
  far : l.counter ≤ l.at;
  receives : Receives l.fn.self l.self l.fn.slave l.slave (given_by l.clock l.memory) (first l.at l.bytes);
  ends : (l.at ≡ length l.bytes) ⊎ ((l.at ≡ 0) ⊎ (l.self.held ≡ []));
  still_open : l.self.closed ≡ false;
  no_room : may_hear l.fn.slave ≡ false → (l.at ≡ 0) × (l.self ≡ l.fn.self) × (l.slave ≡ l.fn.slave);
}
