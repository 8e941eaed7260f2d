use Rattle.std.proofs.Common.{◌≡◌, map, take}
use Rattle.std.specs.Prelude.{All}
use Rattle.copy_plan.specs.Config.{written_entries}
use Rattle.copy_plan.specs.Inner.Joined.{joined_spans}
use Rattle.copy_plan.specs.Inner.Stretched.{ArePlaced, SpansState}
use Rattle.copy_plan.proofs.plan.spans_of_odts.Given as goal

-- the spans of the ODTs so far
abbrev pub invariant-loop-odt : goal.invariant-loop-odt
invariant-loop-odt l =
    (map (λ (s : SpansState). s.spans) l.odts.items ≡ map (λ es. joined_spans (written_entries l.channel l.segments es)) (take l.odt l.conf.odts))
    × All (ArePlaced l.channel l.segments) l.odts.items
