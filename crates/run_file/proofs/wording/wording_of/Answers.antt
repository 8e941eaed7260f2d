use Rattle.std.proofs.Common.{sym}
use Rattle.run_file.proofs.WordLemmas.{no_step_of_five}
use Rattle.run_file.proofs.wording.wording_of.Goals as goal

pub returns-in_default-cut-3 : goal.returns-in_default-cut-3
returns-in_default-cut-3 c =
    record {
      value = sym (no_step_of_five c.args.last c.args.text.now c.in-Some.rest.now c.in-Some-cut.rest.now c.in-Some-cut-2.image.now c.in_default-cut-3.field-0.1.now
          c.in-Some.verb.now c.in-Some-cut.channel.now c.in-Some-cut-2.stamp.now c.in_default-cut-3.field-0.0.now
          c.in-Some.ensures c.in-Some-cut.ensures c.in-Some-cut-2.ensures c.in_default-cut-3.ensures);
    }
