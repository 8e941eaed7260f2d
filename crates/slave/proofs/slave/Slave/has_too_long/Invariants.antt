use Rattle.std.proofs.Common.{◌≡◌, ℕ, ◌<◌, true, false}
use Rattle.xcp_base.specs.Lists.{has_list}
use Rattle.session.specs.Past.{Past}
use Rattle.session.specs.Standing.{SessionStandsAfter}
use Rattle.slave.specs.Rings.{is_too_long}
use Rattle.slave.proofs.slave.Slave.has_too_long.Given as goal

-- the lists so far find room, if they are among these
abbrev pub invariant-loop-l : goal.invariant-loop-l
invariant-loop-l l =
    (k : ℕ) → k < l.l → has_list l.lists k ≡ true → (past : Past) → SessionStandsAfter l.self.session past → is_too_long l.self.session.profile past k ≡ false
