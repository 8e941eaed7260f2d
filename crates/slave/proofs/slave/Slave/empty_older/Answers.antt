use Rattle.std.proofs.Common.{◌+◌, ◌<◌, arith, inl, inr}
use Rattle.slave.proofs.FairLemmas.{keeps-all, keeps-more}
use Rattle.slave.proofs.OlderLemmas.{older-begins, older-done, older-full, older-more, older-nothing}
use Rattle.slave.proofs.TakingLemmas.{takes-more, takes-nothing, takes-within}
use Rattle.slave.proofs.slave.Slave.empty_older.Goals as goal

pub loop-taken-init : goal.loop-taken-init
loop-taken-init c = record { takes = takes-nothing c.args.self.now; keeps = keeps-all c.args.self.now; looks = older-begins c.args.self.now c.args.c; few = omega arith }

-- one more
pub loop-taken-preserved : goal.loop-taken-preserved
loop-taken-preserved c =
    let more : c.loop-taken.taken < 1024 = c.loop-taken-test.true in
    let grows = c.take_one_older.ensures.takes.counted in
    record {
      takes = takes-more c.loop-taken.taken 1 c.args.self.now c.loop-taken.self c.take_one_older.new.self c.loop-taken.invariant.takes c.take_one_older.ensures.takes;
      keeps = keeps-more c.args.self.now c.loop-taken.self c.take_one_older.new.self c.loop-taken.invariant.keeps c.take_one_older.ensures.keeps;
      looks =
          older-more c.loop-taken.taken c.args.self.now c.loop-taken.self c.take_one_older.new.self c.args.c c.take_one_older.result c.take_one_older.ensures.looks c.in_default.not-Full (omega (arith, grows)) c.loop-taken.invariant.looks;
      few = omega (arith, more);
    }

-- none is there
pub returns-in-Nothing : goal.returns-in-Nothing
returns-in-Nothing c =
    let more : c.loop-taken.taken < 1024 = c.loop-taken-test.true in
    let grows = c.take_one_older.ensures.takes.counted in
    record {
      takes =
          takes-within (c.loop-taken.taken + 1) 1024 c.args.self.now c.take_one_older.new.self (omega (arith, more))
          (takes-more c.loop-taken.taken 1 c.args.self.now c.loop-taken.self c.take_one_older.new.self c.loop-taken.invariant.takes c.take_one_older.ensures.takes);
      keeps = keeps-more c.args.self.now c.loop-taken.self c.take_one_older.new.self c.loop-taken.invariant.keeps c.take_one_older.ensures.keeps;
      goes =
          elim c.in-Nothing.is [
            | inl none ↦
                older-nothing c.loop-taken.taken c.args.self.now c.loop-taken.self c.take_one_older.new.self c.args.c c.take_one_older.result more c.take_one_older.ensures.looks none (omega (arith, grows)) c.loop-taken.invariant.looks
            | inr full ↦
                older-full c.loop-taken.taken c.args.self.now c.loop-taken.self c.take_one_older.new.self c.args.c c.take_one_older.result c.take_one_older.ensures.looks full c.loop-taken.invariant.looks
          ];
    }

-- or 1,024 were taken
pub returns-clause-goes : goal.returns-clause-goes
returns-clause-goes c =
    let few = c.loop-taken.invariant.few in
    let done = c.loop-taken-test.false in
    older-done c.loop-taken.taken c.args.self.now c.loop-taken.self c.args.c (omega (arith, few, done)) c.loop-taken.invariant.looks
