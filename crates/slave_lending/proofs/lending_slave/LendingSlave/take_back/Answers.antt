use Rattle.std.proofs.Common.{◌<◌, ◌∙◌, ap, sym, arith, length}
use Rattle.std.proofs.lemmas.List.{length-set}
use Rattle.frame_ring.specs.declared.frame_send.FrameSend.{FrameSend}
use Rattle.tasks.specs.Tasks.{TaskState}
use Rattle.slave_lending.specs.Slots.{SlotState, with_task}
use Rattle.slave_lending.proofs.SlotLemmas.{lines-set}
use Rattle.slave_lending.proofs.TaskLemmas.{back-as-before, lent-line, lent-there}
use Rattle.slave_lending.proofs.lending_slave.LendingSlave.take_back.Goals as goal

-- the slot of a task that was handed out is there
pub index_mut-requires : goal.index_mut-requires
index_mut-requires c =
    let there : c.args.c < length c.self.inside.slots.items
    = lent-there c.self.inside.slave c.self.inside.stream c.self.inside.slots.items c.args.self.now c.self.view_is c.args.c c.requires.0 c.args.lent c.requires.1 in
    omega (arith, there, c.self.inside.slots.ok.0)

-- which is of the same line
pub invariant_of-self : goal.invariant_of-self
invariant_of-self c =
    let items = c.self.inside.slots.items in
    let there : c.args.c < length items = lent-there c.self.inside.slave c.self.inside.stream items c.args.self.now c.self.view_is c.args.c c.requires.0 c.args.lent c.requires.1 in
    let line = ap (λ (s : SlotState). s.ring) c.of.ensures ∙ ap (λ (t : TaskState FrameSend). t.ring) c.lent.view_is
    ∙ sym (lent-line c.self.inside.slave c.self.inside.stream items c.args.self.now c.self.view_is c.args.c c.requires.0 c.args.lent c.index_mut.result.now c.requires.1 c.index_mut.ensures.value there) in (
      lines-set items c.args.c c.index_mut.result.now c.of.result c.index_mut.ensures.value there line ∙ c.self.invariant.0,
      c.self.invariant.1,
      omega (arith, c.self.invariant.2, length-set items c.args.c c.of.result),
    )

-- the slot is the one of before
pub returns : goal.returns
returns c before lent =
    back-as-before c.self.inside.slave c.self.inside.stream c.self.inside.slots.items c.args.self.now c.self.view_is c.args.c before c.args.lent
    _ (c.of.ensures ∙ ap (λ (t : TaskState FrameSend). with_task t) c.lent.view_is) lent
