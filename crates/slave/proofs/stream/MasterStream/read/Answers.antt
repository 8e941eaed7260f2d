use Rattle.session.specs.Standing.{given_by}
use Rattle.std.proofs.Common.{take as first, refl, ap, sym, subst, inl, inr, arith}
use Rattle.std.specs.Prelude.{Ok}
use Rattle.slave.specs.Receiving.{BreaksOff, Receives}
use Rattle.slave.proofs.ReceivingLemmas.{breaks-from, ends-from, far-from, has-room-not, on-err, receives-from, receives-none, within-from}
use Rattle.slave.proofs.stream.MasterStream.read.Goals as goal

-- the bytes from here on come to the begin of a bad frame, and the slave is as it was
pub returns-in_err-at-clause-bad : goal.returns-in_err-at-clause-bad
returns-in_err-at-clause-bad c =
    let before = c.loop.invariant.receives in
    let same = subst (λ m. Receives c.args.self.now c.loop.self c.args.slave.now m (given_by c.args.clock c.args.memory.now) (first c.loop.at c.args.bytes.now)) (sym c.in_err-at.ensures.err) before in
    on-err c.from_residual.result (BreaksOff c.args.self.now c.step.new.self c.args.slave.now c.step.new.slave (given_by c.args.clock c.args.memory.now) c.args.bytes.now)
    (breaks-from c.args.self.now c.loop.self c.step.new.self c.args.slave.now c.step.new.slave (given_by c.args.clock c.args.memory.now) c.loop.at c.args.bytes.now c.loop.invariant.within same c.in_err-at.ensures.bad)

-- none were taken yet
pub loop-init : goal.loop-init
loop-init c = record {
  within = omega arith;
  far = omega arith;
  receives = receives-none c.args.self.now c.args.slave.now (given_by c.args.clock c.args.memory.now);
  ends = inr (inl refl);
  still_open = c.requires.is_open;
  no_room = λ full. (refl, refl, refl);
}

-- some bytes more were taken
pub loop-preserved : goal.loop-preserved
loop-preserved c =
    let now = c.loop.invariant in
    let more = c.in_ok-at.ensures in
    record {
      within = within-from c.loop.at c.in_ok-at.field-0 c.args.bytes.now now.within more.within;
      far = far-from c.loop.counter c.loop.at c.in_ok-at.field-0 c.args.bytes.now now.within now.far c.if-at-bytes.false more.some;
      receives = receives-from c.args.self.now c.loop.self c.step.new.self c.args.slave.now c.loop.slave c.step.new.slave (given_by c.args.clock c.args.memory.now) c.loop.at c.in_ok-at.field-0 c.args.bytes.now now.receives more.ok;
      ends = ends-from c.loop.at c.in_ok-at.field-0 c.args.bytes.now c.step.new.self now.within more.ends;
      still_open = more.stays_open;
      no_room = λ full. absurd (has-room-not c.loop.slave c.args.slave.now c.if-not-has_room.ensures (now.no_room full).2 full);
    }

-- what was taken so far is what is answered
pub returns-then-at-bytes-clause-ok : goal.returns-then-at-bytes-clause-ok
returns-then-at-bytes-clause-ok c = c.loop.invariant.receives

pub returns-then-at-bytes-clause-no_room : goal.returns-then-at-bytes-clause-no_room
returns-then-at-bytes-clause-no_room c = λ full.
    let none = c.loop.invariant.no_room full in
    (ap Ok none.0, none.1, none.2)

pub returns-then-not-has_room-clause-ok : goal.returns-then-not-has_room-clause-ok
returns-then-not-has_room-clause-ok c = c.loop.invariant.receives

pub returns-then-not-has_room-clause-ends : goal.returns-then-not-has_room-clause-ends
returns-then-not-has_room-clause-ends c = c.loop.invariant.ends

pub returns-then-not-has_room-clause-no_room : goal.returns-then-not-has_room-clause-no_room
returns-then-not-has_room-clause-no_room c = λ full.
    let none = c.loop.invariant.no_room full in
    (ap Ok none.0, none.1, none.2)

pub returns-clause-ok : goal.returns-clause-ok
returns-clause-ok c = c.loop.invariant.receives

pub returns-clause-ends : goal.returns-clause-ends
returns-clause-ends c = c.loop.invariant.ends

pub returns-clause-no_room : goal.returns-clause-no_room
returns-clause-no_room c = λ full.
    let none = c.loop.invariant.no_room full in
    (ap Ok none.0, none.1, none.2)
