use Rattle.std.proofs.Common.{All}
use Rattle.mdf_file.specs.Standing.{IsEmpty, IsHandled}
use Rattle.mdf_file.proofs.TellingLemmas.{AreThose}
use Rattle.mdf_file.proofs.told_groups.groups_with_records.Given as goal

-- those that have records, of the groups so far
abbrev pub invariant-loop-group : goal.invariant-loop-group
invariant-loop-group l =
    All IsHandled l.yielded → All IsEmpty l.yielded → AreThose l.yielded l.out.items
