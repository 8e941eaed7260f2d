use Rattle.std.proofs.Common.{◌≡◌, length}
use Rattle.std.specs.Option.{option_map}
use Rattle.a2l_entries.specs.Said.{tokens_of}
use Rattle.a2l_entries.specs.MeasurementSaid.{options_seen, options_or, options_said}
use Rattle.a2l_entries.proofs.measurement_options.measurement_options.Given as goal

-- the options so far and those of the words that are left are those of all
abbrev pub invariant-loop-word : goal.invariant-loop-word
invariant-loop-word l = option_map (options_or (options_seen l.options)) (options_said (tokens_of l.rest)) ≡ options_said (tokens_of l.left)

abbrev pub decreases-loop-word : goal.decreases-loop-word
decreases-loop-word l = length l.rest.words.now
