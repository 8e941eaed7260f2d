use Rattle.copy_plan.proofs.CopyLemmas.{fits_len}
use Rattle.copy_plan.specs.Memory.{image_in}
use Rattle.sampler.proofs.SampleLemmas.{are_packets, fits_limit}
use Rattle.sampler.proofs.due_sample.DueSample.of.Goals as goal

pub invariant_of-result : goal.invariant_of-result
invariant_of-result c =
    let plan = c.args.plan.now in
    record {
      fits = c.requires.fits;
      are = are_packets plan (image_in plan.channel plan.segments c.args.memory) c.args.stamp c.args.marked c.odts.ensures.plan (fits_len plan.channel plan.segments c.args.memory c.requires.fits);
    }

pub returns-clause-keeps : goal.returns-clause-keeps
returns-clause-keeps c = λ limit keeps.
    let plan = c.args.plan.now in
    fits_limit limit plan (image_in plan.channel plan.segments c.args.memory) c.args.stamp c.args.marked c.odts.ensures.plan keeps (fits_len plan.channel plan.segments c.args.memory c.requires.fits)
