use Rattle.std.proofs.Common.{length, ◌-◌, option_map}
use Rattle.capture.specs.Inner.{HasRead}
use Rattle.capture.proofs.options.option_value.Given as goal

-- the options before this place were read
abbrev pub invariant-loop-at : goal.invariant-loop-at
invariant-loop-at l = HasRead l.order l.bytes l.code l.at (option_map (λ v. v.now) l.found)

abbrev pub decreases-loop-at : goal.decreases-loop-at
decreases-loop-at l = length l.bytes - l.at
