use Rattle.std.proofs.Common.{length, take, ap, ◌∙◌}
use Rattle.sampler.specs.State.{SamplerEndState, counts_at, joined_with, place_of}
use Rattle.sampler.specs.declared.track.Track.{Track}
use Rattle.sampler.proofs.Readers.{end-counts, map-found}
use Rattle.sampler.proofs.sampler_end.SamplerEnd.counts.Goals as goal

pub returns-clause-kept : goal.returns-clause-kept
returns-clause-kept g c =
    c.counts.ensures
    ∙ map-found (λ (track : Track). track.counts) (take (length c.self.inside.lists.plans.items) c.self.inside.lists.tracks) (place_of c.args.l c.self.inside.lists.plans.items)
    ∙ ap (λ (s : SamplerEndState g.row.E.Denot). counts_at s c.args.l) c.self.view_is

pub returns-clause-after : goal.returns-clause-after
returns-clause-after g c = λ cost sent past stands.
    returns-clause-kept g c ∙ end-counts (joined_with cost sent c.args.self.now) past c.args.l stands
