use Rattle.std.proofs.Common.{refl}
use Rattle.std.proofs.lemmas.Result.{err_from_is_err_and}
use Rattle.slave.proofs.PreparingLemmas.{full-in-vain, just-out, memory-in-vain, none-in-vain, opens-prepare}
use Rattle.slave.proofs.slave.Slave.start_new.Goals as goal

pub start_opened-requires : goal.start_opened-requires
start_opened-requires c = record { opened = just-out c.args.self.now c.open_measurement.new.self c.in_ok-open_measurement.ensures.ok }

pub returns-then-not-can_open-clause-err : goal.returns-then-not-can_open-clause-err
returns-then-not-can_open-clause-err c = full-in-vain c.args.self.now c.args.lists c.requires.came (c.can_open.ensures.no c.if-not-can_open.true) c.requires.idle c.requires.some

pub returns-in_err-open_measurement-clause-err : goal.returns-in_err-open_measurement-clause-err
returns-in_err-open_measurement-clause-err c =
    let given = err_from_is_err_and c.from_residual.result c.from_residual.ensures.1 in
    let e = c.in_err-open_measurement.ensures in
    rw (given.1, given.2) (none-in-vain c.args.self.now c.open_measurement.new.self c.args.lists c.in_err-open_measurement.field-0.0 c.requires.came (c.can_open.ensures.yes c.if-not-can_open.false) c.requires.idle c.requires.some (c.has_too_long.ensures.no c.if-has_too_long.false) e.err)

pub returns-clause-ok : goal.returns-clause-ok
returns-clause-ok c =
    opens-prepare c.args.self.now c.open_measurement.new.self c.start_opened.new.self c.args.lists c.in_ok-open_measurement.ensures.ok c.requires.idle c.requires.some (c.has_too_long.ensures.no c.if-has_too_long.false)
    c.start_opened.ensures.starts

pub returns-then-has_too_long-clause-err : goal.returns-then-has_too_long-clause-err
returns-then-has_too_long-clause-err c = memory-in-vain c.args.self.now c.args.self.now c.args.lists _ refl c.requires.came (c.can_open.ensures.yes c.if-not-can_open.false) c.requires.idle c.requires.some refl
