use Rattle.std.proofs.Common.{◌+◌, ◌<◌, ◌≤◌, ◌∙◌, length, ap, arith, refl}
use Rattle.std.proofs.lemmas.List.{length-set}
use Rattle.slave_lending.proofs.SlotLemmas.{lines-set}
use Rattle.slave_lending.specs.States.{LendingSlaveState}
use Rattle.slave_lending.proofs.TaskLemmas.{collects, front-here, front-more, none-away, none-below, none-more, some-away}
use Rattle.slave_lending.proofs.lending_slave.LendingSlave.collect.Goals as goal

-- no task was looked at yet
pub loop-c-init : goal.loop-c-init
loop-c-init c = record {
  as_many = refl;
  front = front-here c.args.self.now c.self.inside.slave c.self.inside.stream c.self.inside.slots.items c.self.view_is;
  none = none-below _;
  slave = ap (λ (s : LendingSlaveState). s.slave) c.self.view_is;
  stream = ap (λ (s : LendingSlaveState). s.stream) c.self.view_is;
  lines = c.self.invariant.0;
  empty = c.self.invariant.1;
  room = c.self.invariant.2;
}

-- one more came back, or wasn't away
pub loop-c-preserved : goal.loop-c-preserved
loop-c-preserved c =
    let items = c.loop-c.self-inside.slots.items in
    let there : c.loop-c.c < length items = omega (arith, c.loop-c-test.true, c.loop-c.auto.c-end, c.len-c-end.ensures, c.self.inside.slots.ok.0, c.loop-c.self-inside.slots.ok.0, c.loop-c.invariant.as_many) in
    record {
      as_many = c.loop-c.invariant.as_many;
      front = front-more c.args.self.now.tasks items c.loop-c.c c.index_mut.result.now c.collect.new.self c.index_mut.ensures.value there c.loop-c.invariant.front c.collect.ensures.may;
      none = none-more items c.loop-c.c c.collect.new.self there c.loop-c.invariant.none (c.collect.ensures.yes c.if-not-collect.false);
      slave = c.loop-c.invariant.slave;
      stream = c.loop-c.invariant.stream;
      lines = lines-set items c.loop-c.c c.index_mut.result.now c.collect.new.self c.index_mut.ensures.value there c.collect.ensures.ring_stays ∙ c.loop-c.invariant.lines;
      empty = c.loop-c.invariant.empty;
      room = omega (arith, c.loop-c.invariant.room, length-set items c.loop-c.c c.collect.new.self);
    }

-- the slots are of their lines
pub invariant_of-self-then-not-collect : goal.invariant_of-self-then-not-collect
invariant_of-self-then-not-collect c =
    let items = c.loop-c.self-inside.slots.items in
    let there : c.loop-c.c < length items = omega (arith, c.loop-c-test.true, c.loop-c.auto.c-end, c.len-c-end.ensures, c.self.inside.slots.ok.0, c.loop-c.self-inside.slots.ok.0, c.loop-c.invariant.as_many) in (
      lines-set items c.loop-c.c c.index_mut.result.now c.collect.new.self c.index_mut.ensures.value there c.collect.ensures.ring_stays ∙ c.loop-c.invariant.lines,
      c.loop-c.invariant.empty,
      omega (arith, c.loop-c.invariant.room, length-set items c.loop-c.c c.collect.new.self),
    )

pub invariant_of-self : goal.invariant_of-self
invariant_of-self c = (c.loop-c.invariant.lines, c.loop-c.invariant.empty, c.loop-c.invariant.room)

-- one is away
pub returns-then-not-collect-clause-collects : goal.returns-then-not-collect-clause-collects
returns-then-not-collect-clause-collects c =
    let items = c.loop-c.self-inside.slots.items in
    let there : c.loop-c.c < length items = omega (arith, c.loop-c-test.true, c.loop-c.auto.c-end, c.len-c-end.ensures, c.self.inside.slots.ok.0, c.loop-c.self-inside.slots.ok.0, c.loop-c.invariant.as_many) in
    collects c.args.self.now c.loop-c.self-inside.slave c.loop-c.self-inside.stream _ (c.loop-c.c + 1) c.loop-c.invariant.slave c.loop-c.invariant.stream
    (front-more c.args.self.now.tasks items c.loop-c.c c.index_mut.result.now c.collect.new.self c.index_mut.ensures.value there c.loop-c.invariant.front c.collect.ensures.may)

pub returns-then-not-collect-clause-some : goal.returns-then-not-collect-clause-some
returns-then-not-collect-clause-some c = λ _.
    let items = c.loop-c.self-inside.slots.items in
    let there : c.loop-c.c < length items = omega (arith, c.loop-c-test.true, c.loop-c.auto.c-end, c.len-c-end.ensures, c.self.inside.slots.ok.0, c.loop-c.self-inside.slots.ok.0, c.loop-c.invariant.as_many) in
    some-away c.loop-c.self-inside.slave c.loop-c.self-inside.stream items c.loop-c.c c.collect.new.self there (c.collect.ensures.no c.if-not-collect.true)

-- none is
pub returns-clause-all : goal.returns-clause-all
returns-clause-all c = λ _.
    let items = c.loop-c.self-inside.slots.items in
    let all : length items ≤ c.loop-c.c = omega (arith, c.loop-c-test.false, c.loop-c.auto.c-end, c.len-c-end.ensures, c.self.inside.slots.ok.0, c.loop-c.self-inside.slots.ok.0, c.loop-c.invariant.as_many) in
    none-away c.loop-c.self-inside.slave c.loop-c.self-inside.stream items c.loop-c.c all c.loop-c.invariant.none

pub returns-clause-collects : goal.returns-clause-collects
returns-clause-collects c =
    collects c.args.self.now c.loop-c.self-inside.slave c.loop-c.self-inside.stream c.loop-c.self-inside.slots.items c.loop-c.c
    c.loop-c.invariant.slave c.loop-c.invariant.stream c.loop-c.invariant.front
