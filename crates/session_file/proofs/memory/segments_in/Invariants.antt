use Rattle.std.proofs.Common.{◌≡◌, Some, take}
use Rattle.toml.specs.View.{items_view}
use Rattle.run_file.specs.Keys.{all_of}
use Rattle.session_file.specs.Memory.{segment_in}
use Rattle.session_file.proofs.memory.segments_in.Given as goal

-- the segments so far are those of the values so far
abbrev pub invariant-loop-value : goal.invariant-loop-value
invariant-loop-value l = all_of (segment_in l.channels) (items_view (take l.value-index l.values)) ≡ Some l.segments.items
