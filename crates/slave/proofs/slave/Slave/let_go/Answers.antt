use Rattle.std.proofs.Common.{◌*◌, ◌+◌, length, ap, arith}
use Rattle.xcp_base.specs.declared.limits.TheConstants.{MAX_CHANNELS}
use Rattle.slave.specs.Standing.{SlaveState}
use Rattle.slave.proofs.FairLemmas.{keeps-all, keeps-more}
use Rattle.slave.proofs.OlderLemmas.{gone-all, gone-begins, gone-more}
use Rattle.slave.proofs.TakingLemmas.{takes-more, takes-nothing, takes-within}
use Rattle.slave.proofs.slave.Slave.let_go.Goals as goal

pub loop-c-init : goal.loop-c-init
loop-c-init c = record { takes = takes-nothing c.args.self.now; keeps = keeps-all c.args.self.now; gone = gone-begins c.args.self.now }

-- those of one event channel more
pub loop-c-preserved : goal.loop-c-preserved
loop-c-preserved c = let grows = c.take_from_older.ensures.takes.counted in record {
  takes =
      takes-within (1024 * c.loop-c.c + 1024) (1024 * (c.loop-c.c + 1)) c.args.self.now c.take_from_older.new.self (omega arith)
      (takes-more (1024 * c.loop-c.c) 1024 c.args.self.now c.loop-c.self c.take_from_older.new.self c.loop-c.invariant.takes c.take_from_older.ensures.takes);
  keeps = keeps-more c.args.self.now c.loop-c.self c.take_from_older.new.self c.loop-c.invariant.keeps c.take_from_older.ensures.keeps;
  gone = gone-more c.args.self.now c.loop-c.self c.take_from_older.new.self c.loop-c.c c.take_from_older.ensures.goes (omega (arith, grows)) c.loop-c.invariant.gone;
}

-- there are no more event channels than a slave may have
pub returns : goal.returns
returns c =
    let within = c.loop-c.auto.c-end in
    let limit = c.len-c-end.ensures.limit in
    let here = c.len-c-end.ensures.value in
    let there = ap (λ (s : SlaveState). length s.channels) c.self.view_is in
    let as_many = c.loop-c.invariant.takes.as_many in
    let done = c.loop-c-test.false in
    record {
      takes = takes-within (1024 * c.loop-c.c) (1024 * MAX_CHANNELS) c.args.self.now c.loop-c.self (omega (arith, within, limit)) c.loop-c.invariant.takes;
      keeps = c.loop-c.invariant.keeps;
      goes = gone-all c.args.self.now c.loop-c.self c.loop-c.c (omega (arith, here, there, done)) (omega (arith, here, there, done, as_many)) c.loop-c.invariant.gone;
    }
