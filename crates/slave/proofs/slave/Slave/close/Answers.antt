use Rattle.std.proofs.Common.{◌<◌, ◌+◌, not, sym, subst, ◌∙◌}
use Rattle.slave_channels.specs.Calls.{KeepsNone, KeepsOne}
use Rattle.slave.specs.Closing.{Closes}
use Rattle.slave.specs.Standing.{SlaveState}
use Rattle.slave.proofs.ClosingLemmas.{closes, ends-many}
use Rattle.slave.specs.declared.limits.TheConstants.{MOST_ACTS, PER_PACKET}
use Rattle.slave.proofs.slave.Slave.close.Goals as goal

-- what the master's loss leaves is on the same lines
pub gather_all-requires : goal.gather_all-requires
gather_all-requires c = record { tasks = c.requires.tasks ∙ sym c.hang_up.ensures.hangs_up.0 }

pub returns : goal.returns
returns c = record {
  closes =
      subst (λ (s : SlaveState). Closes c.args.self c.args.ends.items s.account (not c.has_parts-is_whole.result) c.complete-complete.result) (sym c.self.view_is)
      (closes c.args.self c.hang_up.new.self c.gather_all.new.self c.args.ends.items c.has_parts-is_whole.result c.complete-complete.result
      (subst (λ (s : SlaveState). s.acts < MOST_ACTS + PER_PACKET) c.self.view_is c.self.invariant.1) c.hang_up.ensures.hangs_up c.hang_up.ensures.profile_stays c.gather_all.ensures.collects
      (ends-many c.hang_up.new.self c.args.ends.items (c.requires.tasks ∙ sym c.hang_up.ensures.hangs_up.0)) c.gather_all.ensures.gathers
      (λ none. subst (λ (s : SlaveState). KeepsNone s.channels) c.self.view_is (c.has_parts-is_whole.ensures.none none)) (λ some. subst (λ (s : SlaveState). KeepsOne s.channels) c.self.view_is (c.has_parts-is_whole.ensures.some some))
      c.complete-complete.ensures);
  many = c.complete-complete.ensures.many;
}
