use Rattle.std.proofs.Common.{arith}
use Rattle.copy_plan.specs.Memory.{image_in}
use Rattle.sampler.proofs.SampleLemmas.{how_many}
use Rattle.sampler.proofs.due_sample.DueSampleSampleMaker.count.Goals as goal

pub returns : goal.returns
returns c =
    let s = c.args.self.now in
    omega (arith, c.odts.ensures.value, c.odts.ensures.plan.limit, how_many s.plan.now (image_in s.plan.now.channel s.plan.now.segments s.memory) s.stamp s.marked)
