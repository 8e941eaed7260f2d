use Rattle.std.proofs.Common.{◌≡◌, ◌+◌, ℕ, ◌||◌, ◌&&◌, take, length, get_or, nat_eq, arith, ap, sym, ◌∙◌, suc, length-take}
use Rattle.copy_plan.specs.Config.{ListPlan}
use Rattle.sampler.proofs.FirstTracks.{runs_among, runs_among-suc, list_runs-among, take-all}
use Rattle.sampler.proofs.Places.{no_track}
use Rattle.sampler.proofs.lists.running_of.Goals as goal

pub loop-place-preserved : goal.loop-place-preserved
loop-place-preserved c = λ k.
    let i : ℕ = c.loop-place.place in
    let plan : ListPlan = c.index-plans-place.result in
    let one : suc i ≡ i + 1 = omega arith in
    let t = get_or c.args.tracks.now i no_track in
    c.with_list_if-set.ensures k
    ∙ ap (λ b. b || (t.running && nat_eq c.list.result k)) (c.loop-place.invariant k)
    ∙ ap (λ l. runs_among k (take i c.args.plans.now) (take i c.args.tracks.now) || (t.running && nat_eq l k)) (c.list.ensures.value ∙ ap (λ (p : ListPlan). p.list) c.index-plans-place.is)
    ∙ sym (runs_among-suc k c.args.plans.now c.args.tracks.now i plan no_track (omega arith) (omega (arith, c.requires.room)))
    ∙ ap (λ n. runs_among k (take n c.args.plans.now) (take n c.args.tracks.now)) one

pub returns : goal.returns
returns c = λ k.
    let n : c.loop-place.place ≡ length c.args.plans.now = omega (arith, c.loop-place.auto.place-end) in
    c.loop-place.invariant k
    ∙ ap (λ i. runs_among k (take i c.args.plans.now) (take i c.args.tracks.now)) n
    ∙ ap (λ ps. runs_among k ps (take (length c.args.plans.now) c.args.tracks.now)) (take-all c.args.plans.now)
    ∙ sym (list_runs-among k c.args.plans.now (take (length c.args.plans.now) c.args.tracks.now) c.requires.rising (omega (arith, length-take (length c.args.plans.now) c.args.tracks.now, c.requires.room)))
