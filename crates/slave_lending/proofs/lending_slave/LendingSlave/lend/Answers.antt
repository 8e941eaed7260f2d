use Rattle.std.proofs.Common.{◌<◌, ◌∙◌, length, arith}
use Rattle.std.proofs.lemmas.List.{length-set}
use Rattle.slave_lending.proofs.SlotLemmas.{lines-set}
use Rattle.slave_lending.proofs.TaskLemmas.{lends-if, refuses-if, stays-if}
use Rattle.slave_lending.proofs.lending_slave.LendingSlave.lend.Goals as goal

-- the slot is of its line still
pub invariant_of-self : goal.invariant_of-self
invariant_of-self c =
    let items = c.self.inside.slots.items in
    let there : c.args.c < length items = omega (arith, c.if-c-len.false, c.len.ensures, c.self.inside.slots.ok.0) in (
      lines-set items c.args.c c.index_mut.result.now c.lend.new.self c.index_mut.ensures.value there c.lend.ensures.ring_stays ∙ c.self.invariant.0,
      c.self.invariant.1,
      omega (arith, c.self.invariant.2, length-set items c.args.c c.lend.new.self),
    )

pub returns-clause-err : goal.returns-clause-err
returns-clause-err c =
    stays-if c.self.inside.slave c.self.inside.stream c.self.inside.slots.items c.args.self.now c.self.view_is c.args.c c.index_mut.result.now c.lend.new.self
    c.lend.result c.index_mut.ensures.value c.lend.ensures.err

-- the task of that slot is handed out
pub returns-clause-ok : goal.returns-clause-ok
returns-clause-ok c =
    let there : c.args.c < length c.self.inside.slots.items = omega (arith, c.if-c-len.false, c.len.ensures, c.self.inside.slots.ok.0) in
    lends-if c.self.inside.slave c.self.inside.stream c.self.inside.slots.items c.args.self.now c.self.view_is c.args.c c.index_mut.result.now c.lend.new.self
    c.lend.result there c.index_mut.ensures.value c.lend.ensures.task c.lend.ensures.away

-- or none is
pub returns-clause-refused : goal.returns-clause-refused
returns-clause-refused c =
    let there : c.args.c < length c.self.inside.slots.items = omega (arith, c.if-c-len.false, c.len.ensures, c.self.inside.slots.ok.0) in
    refuses-if c.self.inside.slave c.self.inside.stream c.self.inside.slots.items c.args.self.now c.self.view_is c.args.c c.index_mut.result.now
    c.lend.result there c.index_mut.ensures.value c.lend.ensures.refused
