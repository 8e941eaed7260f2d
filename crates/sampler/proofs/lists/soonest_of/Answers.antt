use Rattle.std.proofs.Common.{◌≡◌, ◌+◌, ◌≤◌, ℕ, get_or, take, arith, subst, suc}
use Rattle.std.proofs.Math.Nat.{min-le_left, min-le_right}
use Rattle.sampler.specs.Inner.Fits.{NoneDueBefore}
use Rattle.sampler.specs.declared.track.Track.{Track}
use Rattle.sampler.proofs.NextDue.{NoneDueBefore-more}
use Rattle.sampler.proofs.Places.{no_track}
use Rattle.sampler.proofs.lists.soonest_of.Goals as goal

pub loop-place-preserved : goal.loop-place-preserved
loop-place-preserved c =
    let i : ℕ = c.loop-place.place in
    let t : Track = get_or c.args.tracks.now i no_track in
    let one : suc i ≡ i + 1 = omega arith in
    let sooner : c.min-soonest.result ≤ c.loop-place.soonest = omega (arith, c.min-soonest.ensures, min-le_left c.loop-place.soonest t.next) in
    let here : c.min-soonest.result ≤ t.next = omega (arith, c.min-soonest.ensures, min-le_right c.loop-place.soonest t.next) in
    subst (λ k. NoneDueBefore c.min-soonest.result (take k c.args.tracks.now)) one
    (NoneDueBefore-more c.min-soonest.result c.loop-place.soonest i c.args.tracks.now no_track sooner c.loop-place.invariant c.loop-place-test.true here)
