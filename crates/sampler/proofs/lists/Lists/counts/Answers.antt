use Rattle.std.proofs.Common.{◌≡◌, List, length, take, sym, ap, ◌∙◌}
use Rattle.std.specs.Prelude.{Some, None, slice_get}
use Rattle.std.specs.Option.{option_and_then, option_map}
use Rattle.sampler.specs.State.{place_of}
use Rattle.sampler.specs.declared.track.Track.{Track}
use Rattle.sampler.proofs.Places.{track-found}
use Rattle.sampler.proofs.lists.Lists.counts.Goals as goal

pub returns-in_err-place : goal.returns-in_err-place
returns-in_err-place c =
    let at : place_of c.args.l c.args.self.now.plans.items ≡ None = sym c.place_of.ensures ∙ c.in_err-place.was in
    let tracks : List Track = take (length c.args.self.now.plans.items) c.args.self.now.tracks in
    c.from_residual.ensures ∙ sym (ap (λ i. option_map (λ (track : Track). track.counts) (option_and_then (λ k. slice_get tracks k) i)) at)

pub returns : goal.returns
returns c =
    let at : place_of c.args.l c.args.self.now.plans.items ≡ Some c.in_ok-place.place = sym c.place_of.ensures ∙ c.in_ok-place.was in
    sym (ap (option_map (λ (track : Track). track.counts)) (track-found c.args.l c.args.self.now.plans.items c.args.self.now.tracks c.in_ok-place.place at c.requires.room))
