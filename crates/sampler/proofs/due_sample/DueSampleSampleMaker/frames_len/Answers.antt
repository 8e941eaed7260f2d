use Rattle.copy_plan.proofs.CopyLemmas.{fits_len}
use Rattle.copy_plan.specs.Memory.{image_in}
use Rattle.sampler.proofs.due_sample.DueSampleSampleMaker.frames_len.Goals as goal

pub returns : goal.returns
returns c =
    let s = c.args.self.now in
    c.frames_len.ensures.law (image_in s.plan.now.channel s.plan.now.segments s.memory) s.stamp s.marked (fits_len s.plan.now.channel s.plan.now.segments s.memory s.fits)
