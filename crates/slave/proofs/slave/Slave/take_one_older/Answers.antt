use Rattle.std.proofs.Common.{◌<◌, ◌∙◌, length, ap, subst, sym, arith}
use Rattle.slave.specs.Inner.{KeepsNewest, LooksOlder}
use Rattle.slave.specs.Taking.{TakesItems}
use Rattle.slave.proofs.FairLemmas.{keeps-all}
use Rattle.slave.proofs.OlderLemmas.{looks-older, older-not}
use Rattle.slave.proofs.RoundLemmas.{keeps-older}
use Rattle.slave.proofs.TakingLemmas.{takes-nothing, takes-within, took-older}
use Rattle.slave.proofs.slave.Slave.take_one_older.Goals as goal

pub returns-then-is_spent : goal.returns-then-is_spent
returns-then-is_spent c = record { takes = takes-within 0 1 c.args.self.now c.args.self.now (omega arith) (takes-nothing c.args.self.now); keeps = keeps-all c.args.self.now; looks = older-not c.args.self.now c.args.c (sym c.is_spent.ensures ∙ c.if-is_spent.true) }

pub returns : goal.returns
returns c = record {
  takes =
      subst (TakesItems 1 c.args.self.now) (sym c.count.ensures) (took-older c.args.self.now _ c.take_from_older-step.new.self c.take_from_older-step.new.outbox c.args.c c.acts_of.result c.take_from_older-step.result c.self.view_is c.self.invariant.1 (sym c.is_spent.ensures ∙ c.if-is_spent.false) c.acts_of.ensures.value
      (subst (λ xs. c.args.c < length xs) (sym (ap (λ s. s.channels) c.self.view_is)) c.requires.channel) c.take_from_older-step.ensures.shown_stays c.take_from_older-step.ensures.takes);
  keeps =
      subst (KeepsNewest c.args.self.now) (sym c.count.ensures) (keeps-older c.args.self.now _ c.take_from_older-step.new.self c.take_from_older-step.new.outbox c.args.c c.acts_of.result c.take_from_older-step.result c.self.view_is
      (subst (λ xs. c.args.c < length xs) (sym (ap (λ s. s.channels) c.self.view_is)) c.requires.channel) c.take_from_older-step.ensures.takes);
  looks =
      subst (λ s. LooksOlder c.args.self.now s c.args.c c.take_from_older-step.result) (sym c.count.ensures) (looks-older c.args.self.now _ c.take_from_older-step.new.self c.take_from_older-step.new.outbox c.args.c c.acts_of.result c.take_from_older-step.result c.self.view_is
      (subst (λ xs. c.args.c < length xs) (sym (ap (λ s. s.channels) c.self.view_is)) c.requires.channel) c.take_from_older-step.ensures.takes);
}
