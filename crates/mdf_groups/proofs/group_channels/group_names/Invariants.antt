use Rattle.std.proofs.Common.{◌≡◌, map, take}
use Rattle.mdf_groups.proofs.group_channels.group_names.Given as goal

-- the names of the columns so far
abbrev pub invariant-loop-column : goal.invariant-loop-column
invariant-loop-column l =
    map (λ w. w.now) l.wanted.items
    ≡ map (λ c. c.column.name.now) (take l.column-index l.columns)
