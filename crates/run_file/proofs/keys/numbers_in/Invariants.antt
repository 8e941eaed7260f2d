use Rattle.std.proofs.Common.{◌≡◌, Some, take}
use Rattle.toml.specs.View.{items_view}
use Rattle.run_file.specs.Keys.{all_of, cap_in}
use Rattle.run_file.proofs.keys.numbers_in.Given as goal

-- the numbers so far are those of the values so far
abbrev pub invariant-loop-value : goal.invariant-loop-value
invariant-loop-value l = all_of (cap_in l.kind) (items_view (take l.value-index l.values)) ≡ Some l.caps.items
