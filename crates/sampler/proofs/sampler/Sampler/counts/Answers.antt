use Rattle.std.proofs.Common.{ap, ◌∙◌}
use Rattle.std.specs.Option.{option_map}
use Rattle.sampler.specs.State.{track_at}
use Rattle.sampler.specs.declared.track.Track.{Track}
use Rattle.sampler.proofs.Readers.{sampler-counts}
use Rattle.sampler.proofs.sampler.Sampler.counts.Goals as goal

pub returns-clause-kept : goal.returns-clause-kept
returns-clause-kept g c = c.counts.ensures ∙ ap (λ s. option_map (λ (track : Track). track.counts) (track_at s c.args.l)) c.self.view_is

pub returns-clause-after : goal.returns-clause-after
returns-clause-after g c = λ past stands.
    returns-clause-kept g c ∙ sampler-counts g.S.SendEnd g.S.End.RingEnd c.args.self.now past c.args.l stands
