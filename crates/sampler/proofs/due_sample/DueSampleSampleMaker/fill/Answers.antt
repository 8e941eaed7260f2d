use Rattle.copy_plan.proofs.CopyLemmas.{fits_len}
use Rattle.copy_plan.specs.Memory.{image_in}
use Rattle.sampler.proofs.SampleLemmas.{by_value_plan}
use Rattle.sampler.proofs.due_sample.DueSampleSampleMaker.fill.Goals as goal

pub fill_into-requires-clause-by_value : goal.fill_into-requires-clause-by_value
fill_into-requires-clause-by_value c =
    let s = c.args.self.now in
    by_value_plan s.plan.now (image_in s.plan.now.channel s.plan.now.segments s.memory) s.stamp s.marked c.odts.ensures.plan (fits_len s.plan.now.channel s.plan.now.segments s.memory s.fits) c.requires.fits
