use Rattle.std.proofs.Common.{◌≡◌, ap, ◌∙◌}
use Rattle.xcp_base.specs.Lists.{has_list}
use Rattle.sampler.specs.State.{runs_in}
use Rattle.sampler.proofs.Readers.{sampler-runs}
use Rattle.sampler.proofs.sampler.Sampler.running.Goals as goal

pub returns-clause-after : goal.returns-clause-after
returns-clause-after g c = λ past stands l.
    let is : has_list c.running.result l ≡ runs_in c.args.self.now l = c.running.ensures l ∙ ap (λ s. runs_in s l) c.self.view_is in
    is ∙ sampler-runs g.S.SendEnd g.S.End.RingEnd c.args.self.now past l stands
