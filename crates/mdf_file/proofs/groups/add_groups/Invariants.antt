use Rattle.std.proofs.Common.{◌≡◌, ◌+◌, ◌-◌, ◌%◌, ◌++◌, ℕ, List, drop, length}
use Rattle.mdf_blocks.specs.Told.{TellsGroups, ToldGroup}
use Rattle.mdf_file.specs.Adding.{Adds}
use Rattle.mdf_file.specs.Ending.{AreOf, HoldRecords}
use Rattle.mdf_file.proofs.groups.add_groups.Given as goal

-- the last groups are told
abbrev pub invariant-loop-behind : goal.invariant-loop-behind
invariant-loop-behind l =
    ((l.base + length l.out.items) % 8 ≡ 0)
    × ((place : ℕ) (before : List ℕ) (told : List ToldGroup) → place + length before ≡ l.base
    → AreOf l.groups told
    → Adds place (before ++ l.fn.out.items) (before ++ l.fn.out.items)
    (λ bytes. HoldRecords bytes l.groups told)
    → Adds place (before ++ l.fn.out.items) (before ++ l.out.items)
    (λ bytes. TellsGroups bytes l.next (drop (length l.groups - l.behind) told)))
