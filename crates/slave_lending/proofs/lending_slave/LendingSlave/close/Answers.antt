use Rattle.std.proofs.Common.{◌∙◌, sym, subst}
use Rattle.slave_lending.specs.Lends.{NoneAway}
use Rattle.slave_lending.specs.States.{LendingSlaveState}
use Rattle.slave_lending.proofs.ByteLemmas.{closes-with}
use Rattle.slave_lending.proofs.SlotLemmas.{ends-lines}
use Rattle.slave_lending.proofs.lending_slave.LendingSlave.close.Goals as goal

-- none of the slots is away
pub ends_of-requires-clause-none_away : goal.ends_of-requires-clause-none_away
ends_of-requires-clause-none_away c = subst (λ (s : LendingSlaveState). NoneAway s) (sym c.self.view_is) c.requires.none_away

-- what is left of the tasks is on the lines of the slots, which are those of the event channels
pub close-requires : goal.close-requires
close-requires c = record {
  tasks = ends-lines c.self.inside.slots.items c.ends_of.result.items c.ends_of.ensures ∙ c.self.invariant.0;
}

pub returns : goal.returns
returns c = record {
  closes =
      closes-with c.self.inside.slave c.self.inside.stream c.self.inside.slots.items c.args.self c.self.view_is
      c.ends_of.result.items c.close.result.account c.close.result.is_whole c.close.result.complete c.ends_of.ensures c.close.ensures.closes;
  many = c.close.ensures.many;
}
