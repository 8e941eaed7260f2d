use Rattle.std.proofs.Common.{◌≡◌, [], take}
use Rattle.recording.specs.Measured.{HaveGroups}
use Rattle.recording.specs.Outs.{KeepsUnfinished}
use Rattle.recording.proofs.file_groups.add_lists.Given as goal

-- the groups of the lists so far
abbrev pub invariant-loop-shape : goal.invariant-loop-shape
invariant-loop-shape g l =
    HaveGroups l.values.tick l.values.columns.now (take l.shape-index l.shapes) [] l.file.forms l.file.file.groups
    × (l.file.file.about ≡ l.fn.file.file.about)
    × KeepsUnfinished l.fn.file.file.bytes l.file.file.bytes
