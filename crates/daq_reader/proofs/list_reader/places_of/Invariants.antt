use Rattle.std.proofs.Common.{◌≡◌, ℕ, List, length, map, vec_items}
use Rattle.std.specs.List.{range_with_len}
use Rattle.daq_reader.specs.Faults.{len_of}
use Rattle.daq_reader.proofs.list_reader.places_of.Given as goal

-- those of the ODTs so far
abbrev pub invariant-loop-k : goal.invariant-loop-k
invariant-loop-k l =
    map (λ (q : List ℕ). length q) (map vec_items l.places.items) ≡ map (len_of l.shape) (range_with_len 0 l.k)
