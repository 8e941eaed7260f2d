use Rattle.std.proofs.Common.{◌<◌, ◌∙◌, length, refl, ap, subst, sym, arith}
use Rattle.slave.specs.Inner.{KeepsOlder, LooksOnce}
use Rattle.slave.specs.Taking.{TakesItems}
use Rattle.slave.proofs.OlderLemmas.{keeps-others}
use Rattle.slave.proofs.RoundLemmas.{looks-not, looks-once}
use Rattle.slave.proofs.TakingLemmas.{takes-nothing, takes-within, took-one}
use Rattle.slave.proofs.slave.Slave.take_one.Goals as goal

pub returns-then-is_spent : goal.returns-then-is_spent
returns-then-is_spent c = record {
  takes = takes-within 0 1 c.args.self.now c.args.self.now (omega arith) (takes-nothing c.args.self.now);
  looks = looks-not c.args.self.now c.args.c (sym c.is_spent.ensures ∙ c.if-is_spent.true);
  older = λ k. refl;
}

pub returns : goal.returns
returns c = record {
  takes =
      subst (TakesItems 1 c.args.self.now) (sym c.count.ensures) (took-one c.args.self.now _ c.take-step.new.self c.take-step.new.outbox c.args.c c.acts_of.result c.take-step.result c.self.view_is c.self.invariant.1 (sym c.is_spent.ensures ∙ c.if-is_spent.false) c.acts_of.ensures.value
      (subst (λ xs. c.args.c < length xs) (sym (ap (λ s. s.channels) c.self.view_is)) c.requires.channel) c.take-step.ensures.shown_stays c.take-step.ensures.takes);
  looks =
      subst (λ s. LooksOnce c.args.self.now s c.args.c c.take-step.result) (sym c.count.ensures) (looks-once c.args.self.now _ c.take-step.new.self c.take-step.new.outbox c.args.c c.acts_of.result c.take-step.result c.self.view_is c.acts_of.ensures.value
      (subst (λ xs. c.args.c < length xs) (sym (ap (λ s. s.channels) c.self.view_is)) c.requires.channel) (sym c.is_spent.ensures ∙ c.if-is_spent.false) c.take-step.ensures.takes);
  older =
      subst (KeepsOlder c.args.self.now) (sym c.count.ensures) (keeps-others c.args.self.now _ c.take-step.new.self c.take-step.new.outbox c.args.c c.acts_of.result c.take-step.result c.self.view_is
      (subst (λ xs. c.args.c < length xs) (sym (ap (λ s. s.channels) c.self.view_is)) c.requires.channel) c.take-step.ensures.takes);
}
