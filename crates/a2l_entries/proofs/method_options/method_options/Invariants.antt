use Rattle.std.proofs.Common.{◌≡◌, length}
use Rattle.std.specs.Option.{option_map}
use Rattle.a2l_entries.specs.Said.{tokens_of}
use Rattle.a2l_entries.specs.MethodSaid.{method_options_seen, method_options_or, method_options_said}
use Rattle.a2l_entries.proofs.method_options.method_options.Given as goal

-- the options so far and those of the words that are left are those of all
abbrev pub invariant-loop-word : goal.invariant-loop-word
invariant-loop-word l = option_map (method_options_or (method_options_seen l.options)) (method_options_said (tokens_of l.rest)) ≡ method_options_said (tokens_of l.left)

abbrev pub decreases-loop-word : goal.decreases-loop-word
decreases-loop-word l = length l.rest.words.now
