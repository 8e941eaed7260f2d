use Rattle.std.proofs.Common.{◌≡◌, List, ℕ, map, string_bytes, take}
use Rattle.mdf_groups.specs.Names.{AreNames, is_among, is_taken}
use Rattle.mdf_groups.proofs.names.names_of.Given as goal

-- the wanted names so far have theirs, which are taken
abbrev pub invariant-loop-name : goal.invariant-loop-name
invariant-loop-name l =
    AreNames (map (λ w. w.now) (take l.name-index l.wanted)) (map string_bytes l.names.items)
    × ((q : List ℕ) → is_taken l.numbers q ≡ is_among (map string_bytes l.names.items) q)
