use Rattle.std.proofs.Common.{◌≡◌, length, map, take}
use Rattle.copy_plan.specs.Config.{ListPlan}
use Rattle.sampler.specs.Inner.Fits.{first_track}
use Rattle.sampler.proofs.opening.first_tracks.Given as goal

abbrev pub invariant-loop-place : goal.invariant-loop-place
invariant-loop-place l = (take l.place l.tracks ≡ map (λ (plan : ListPlan). first_track l.running plan.list) (take l.place l.plans)) × (length l.tracks ≡ 16)
