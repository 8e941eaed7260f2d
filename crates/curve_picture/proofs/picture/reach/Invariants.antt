-- Bins have more places each time, and keep the values that they kept.
use Rattle.std.proofs.Common.{◌<◌, ◌+◌, ◌/◌, ◌-◌, ◌^◌, List}
use Rattle.sample_picture.specs.Scale.{IsFine}
use Rattle.curve_picture.specs.Curves.{AreRowsOf}
use Rattle.curve_picture.specs.Values.{AreWithin, Given}
use Rattle.curve_picture.proofs.picture.reach.Given as goal

abbrev pub invariant-loop-width : goal.invariant-loop-width
invariant-loop-width l = (0 < l.width)
    × (l.grid.last / l.width < l.grid.first / l.width + 1024)
    × IsFine l.width l.first l.last
    × ((given : List Given) → AreWithin l.grid.first l.grid.last given → AreRowsOf l.grid.width l.initial.rows given → AreRowsOf l.width l.rows given)

abbrev pub decreases-loop-width : goal.decreases-loop-width
decreases-loop-width l = 2 ^ 64 - l.width
