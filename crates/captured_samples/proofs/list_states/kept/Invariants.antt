use Rattle.std.specs.Prelude.{◌≡◌, List, filter, map}
use Rattle.captured_samples.specs.Slaves.{state_of}
use Rattle.captured_samples.specs.Standing.{ListIn, Start, stands}
use Rattle.captured_samples.proofs.list_states.kept.Given as goal

-- of those before, those that stand are kept
abbrev pub invariant-loop-list : goal.invariant-loop-list
invariant-loop-list l =
    (start : Start) (xs : List ListIn) → l.yielded ≡ map state_of xs
    → l.kept.items ≡ map state_of (filter (stands start l.set_up) xs)
