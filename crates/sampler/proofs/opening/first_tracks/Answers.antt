use Rattle.std.proofs.Common.{◌≡◌, ◌+◌, ℕ, ◌∷◌, [], ◌++◌, map, take, set, arith, ap, sym, ◌∙◌, suc}
use Rattle.std.proofs.Math.Seq.{take-suc}
use Rattle.std.proofs.Math.ListN.{length-set}
use Rattle.copy_plan.specs.Config.{ListPlan}
use Rattle.sampler.specs.Inner.Fits.{first_track}
use Rattle.sampler.proofs.Handled.{map-append_of}
use Rattle.sampler.proofs.FirstTracks.{take-set-suc}
use Rattle.sampler.proofs.opening.first_tracks.Goals as goal

pub loop-place-preserved : goal.loop-place-preserved
loop-place-preserved c =
    let f = λ (plan : ListPlan). first_track c.args.running plan.list in
    let i : ℕ = c.loop-place.place in
    let plan : ListPlan = c.index-plans-place.result in
    let one : suc i ≡ i + 1 = omega arith in
    let more : take i c.args.plans.now ++ plan ∷ [] ≡ take (i + 1) c.args.plans.now =
    ap (λ p. take i c.args.plans.now ++ p ∷ []) c.index-plans-place.is ∙ sym (take-suc c.args.plans.now i plan (omega arith)) ∙ ap (λ k. take k c.args.plans.now) one in (
      ap (λ k. take k (set c.loop-place.tracks i c.first_track.result)) (sym one)
          ∙ take-set-suc c.loop-place.tracks i c.first_track.result (omega (arith, c.requires, c.loop-place.invariant.1))
          ∙ ap (λ t. take i c.loop-place.tracks ++ t ∷ []) (c.first_track.ensures ∙ ap (first_track c.args.running) c.list.ensures.value)
          ∙ ap (λ ts. ts ++ f plan ∷ []) c.loop-place.invariant.0
          ∙ sym (map-append_of f (take i c.args.plans.now) (plan ∷ []))
          ∙ ap (map f) more,
      length-set c.loop-place.tracks i c.first_track.result ∙ c.loop-place.invariant.1,
    )
