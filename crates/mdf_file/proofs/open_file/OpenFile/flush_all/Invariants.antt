use Rattle.std.proofs.Common.{◌≡◌, All, map, take}
use Rattle.mdf_file.specs.Standing.{IsEmpty, IsStanding, seen}
use Rattle.mdf_file.specs.Writing.{StaysUnfinished}
use Rattle.mdf_file.proofs.open_file.OpenFile.flush_all.Given as goal

-- nothing waits any more of those before
abbrev pub invariant-loop-number : goal.invariant-loop-number
invariant-loop-number g l =
    IsStanding (g.O.MdfOut.known l.self.out) l.self.place l.self.groups.items
    × StaysUnfinished (g.O.MdfOut.known l.fn.self.out) (g.O.MdfOut.known l.self.out)
    × All IsEmpty (take l.number l.self.groups.items)
    × (map seen l.self.groups.items ≡ map seen l.fn.self.groups.items)
