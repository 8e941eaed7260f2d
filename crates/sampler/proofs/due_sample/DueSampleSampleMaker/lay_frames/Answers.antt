use Rattle.std.proofs.Common.{arith}
use Rattle.copy_plan.proofs.CopyLemmas.{fits_len}
use Rattle.copy_plan.specs.Memory.{image_in}
use Rattle.sampler.proofs.due_sample.DueSampleSampleMaker.lay_frames.Goals as goal

pub lay_frames-requires-clause-room : goal.lay_frames-requires-clause-room
lay_frames-requires-clause-room c =
    let s = c.args.self.now in
    omega (arith, c.requires.room, c.frames_len.ensures.value, c.frames_len.ensures.law (image_in s.plan.now.channel s.plan.now.segments s.memory) s.stamp s.marked (fits_len s.plan.now.channel s.plan.now.segments s.memory s.fits))

pub returns-clause-end : goal.returns-clause-end
returns-clause-end c =
    let s = c.args.self.now in
    omega (arith, c.lay_frames.ensures.end, c.frames_len.ensures.value, c.frames_len.ensures.law (image_in s.plan.now.channel s.plan.now.segments s.memory) s.stamp s.marked (fits_len s.plan.now.channel s.plan.now.segments s.memory s.fits))
