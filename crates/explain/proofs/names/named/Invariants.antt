use Rattle.std.proofs.Common.{◌≡◌, map, drop}
use Rattle.explain.specs.Names.{named}
use Rattle.explain.proofs.names.named.Given as goal

-- the code isn't among the rows in front
abbrev pub invariant-loop-of : goal.invariant-loop-of
invariant-loop-of l =
    named (map (λ row. (row.0, row.1.now)) (drop l.of-index l.table)) l.code
    ≡ named (map (λ row. (row.0, row.1.now)) l.table) l.code
