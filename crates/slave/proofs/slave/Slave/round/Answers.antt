use Rattle.std.proofs.Common.{◌≡◌, ◌+◌, ◌∙◌, length, min, refl, ap, arith, subst, sym}
use Rattle.xcp_base.specs.declared.limits.TheConstants.{MAX_CHANNELS}
use Rattle.slave.specs.Standing.{SlaveState}
use Rattle.slave.specs.Taking.{IsHeldUp, TakesItems, older_at}
use Rattle.slave.specs.Inner.{EndsRound, GoesRound}
use Rattle.slave.specs.declared.round.Round.TheVariants.{Empty, HeldUp, Took}
use Rattle.slave.proofs.FairLemmas.{round-begins, round-done, round-goes-on, round-held}
use Rattle.slave.proofs.RoundLemmas.{IsQuiet, held-next, quiet-more, quiet-none, round-empty}
use Rattle.slave.proofs.TakingLemmas.{takes-more, takes-next, takes-nothing, takes-within}
use Rattle.slave.proofs.slave.Slave.round.Goals as goal

-- none so far
pub loop-c-init : goal.loop-c-init
loop-c-init c =
    let from = c.min-c.ensures in
    record {
      takes = takes-within 0 c.min-c.result c.args.self.now c.args.self.now (omega arith) (takes-nothing c.args.self.now);
      from = omega (arith, from);
      within = omega (arith, from);
      older = λ k. refl;
      so_far = round-begins c.args.self.now c.args.begin c.min-c.result (omega (arith, from));
      quiet = quiet-none c.args.self.now c.args.self.now (min c.args.begin c.len-len.result) c.min-c.result (omega (arith, from));
    }

-- one more at most
pub loop-c-preserved : goal.loop-c-preserved
loop-c-preserved c =
    let more = c.loop-c-test.true in
    let grows = c.loop-c.invariant.takes.counted in
    let from = c.loop-c.invariant.from in
    record {
      takes = takes-more c.loop-c.c 1 c.args.self.now c.loop-c.self c.take_one-step.new.self c.loop-c.invariant.takes c.take_one-step.ensures.takes;
      from = omega (arith, from);
      within = omega (arith, more);
      older = λ k. c.take_one-step.ensures.older k ∙ c.loop-c.invariant.older k;
      so_far =
          round-goes-on c.args.self.now c.loop-c.self c.take_one-step.new.self c.args.begin c.loop-c.c c.take_one-step.result c.take_one-step.ensures.looks (c.is_full.ensures.no c.if-is_full.false)
          (omega (arith, from, more)) (omega (arith, grows)) c.loop-c.invariant.so_far;
      quiet =
          quiet-more c.args.self.now c.loop-c.self c.take_one-step.new.self _ c.loop-c.c c.take_one-step.result c.take_one-step.ensures.looks (c.is_full.ensures.no c.if-is_full.false)
          (omega (arith, grows)) c.loop-c.invariant.quiet;
    }

-- the sample at this event channel found no room
pub returns-then-is_full : goal.returns-then-is_full
returns-then-is_full c =
    let more = c.loop-c-test.true in
    let limit = c.len-len.ensures.limit in
    let grows = c.loop-c.invariant.takes.counted in
    let from = c.loop-c.invariant.from in
    record {
      takes =
          subst (λ (s : SlaveState). TakesItems MAX_CHANNELS c.args.self.now (record s { next = c.loop-c.c })) (sym c.self-in-loop-c.view_is)
          (takes-next MAX_CHANNELS c.loop-c.c c.args.self.now c.take_one-step.new.self
          (takes-within (c.loop-c.c + 1) MAX_CHANNELS c.args.self.now c.take_one-step.new.self (omega (arith, more, limit))
          (takes-more c.loop-c.c 1 c.args.self.now c.loop-c.self c.take_one-step.new.self c.loop-c.invariant.takes c.take_one-step.ensures.takes)));
      ends =
          subst (λ (s : SlaveState). IsHeldUp (record s { next = c.loop-c.c }) c.loop-c.c) (sym c.self-in-loop-c.view_is)
          (held-next c.take_one-step.new.self c.loop-c.c c.loop-c.c (c.take_one-step.ensures.looks.full (c.is_full.ensures.yes c.if-is_full.true)));
      older = λ k. ap (λ (s : SlaveState). older_at s k) c.self-in-loop-c.view_is ∙ c.take_one-step.ensures.older k ∙ c.loop-c.invariant.older k;
      goes =
          subst (λ (s : SlaveState). GoesRound c.args.self.now (record s { next = c.loop-c.c }) c.args.begin HeldUp) (sym c.self-in-loop-c.view_is)
          (round-held c.args.self.now c.loop-c.self c.take_one-step.new.self c.args.begin c.loop-c.c c.take_one-step.result c.take_one-step.ensures.looks (c.is_full.ensures.yes c.if-is_full.true)
          (omega (arith, from, more)) (omega (arith, grows)) c.loop-c.invariant.so_far);
    }

-- no ring had anything
pub returns-clause-ends : goal.returns-clause-ends
returns-clause-ends c =
    let as_many = c.loop-c.invariant.takes.as_many in
    let counted = c.loop-c.invariant.takes.counted in
    let channels = ap (λ (s : SlaveState). length s.channels) c.self.view_is in
    let many : c.len-len.result ≡ length c.loop-c.self.channels = omega (arith, c.len-len.ensures.value, channels, as_many) in
    let before = ap (λ (s : SlaveState). s.acts) c.self.view_is in
    let now = ap (λ (s : SlaveState). s.acts) c.self-2.view_is in
    let none_more = c.if-self-before.false in
    let done = c.loop-c-test.false in
    subst (λ (s : SlaveState). EndsRound c.args.self.now (record s { next = 0 }) c.args.begin Empty) (sym c.self-2.view_is)
    (round-empty c.args.self.now (record c.loop-c.self { next = 0 }) c.args.begin c.loop-c.c (omega (arith, many, done))
    (subst (λ n. IsQuiet c.args.self.now c.loop-c.self (min c.args.begin n) c.loop-c.c) many c.loop-c.invariant.quiet)
    (omega (arith, before, now, none_more, counted)) refl)

-- items were taken
pub returns-then-self-before-clause-takes : goal.returns-then-self-before-clause-takes
returns-then-self-before-clause-takes c =
    let within = c.loop-c.invariant.within in
    let limit = c.len-len.ensures.limit in
    subst (λ (s : SlaveState). TakesItems MAX_CHANNELS c.args.self.now (record s { next = 0 })) (sym c.self-2.view_is)
    (takes-next MAX_CHANNELS 0 c.args.self.now c.loop-c.self
    (takes-within c.loop-c.c MAX_CHANNELS c.args.self.now c.loop-c.self (omega (arith, within, limit)) c.loop-c.invariant.takes))

pub returns-clause-takes : goal.returns-clause-takes
returns-clause-takes c =
    let within = c.loop-c.invariant.within in
    let limit = c.len-len.ensures.limit in
    subst (λ (s : SlaveState). TakesItems MAX_CHANNELS c.args.self.now (record s { next = 0 })) (sym c.self-2.view_is)
    (takes-next MAX_CHANNELS 0 c.args.self.now c.loop-c.self
    (takes-within c.loop-c.c MAX_CHANNELS c.args.self.now c.loop-c.self (omega (arith, within, limit)) c.loop-c.invariant.takes))

-- each ring was looked at once
pub returns-then-self-before-clause-goes : goal.returns-then-self-before-clause-goes
returns-then-self-before-clause-goes c =
    let as_many = c.loop-c.invariant.takes.as_many in
    let channels = ap (λ (s : SlaveState). length s.channels) c.self.view_is in
    let many : c.len-len.result ≡ length c.loop-c.self.channels = omega (arith, c.len-len.ensures.value, channels, as_many) in
    let done = c.loop-c-test.false in
    subst (λ (s : SlaveState). GoesRound c.args.self.now (record s { next = 0 }) c.args.begin Took) (sym c.self-2.view_is)
    (round-done c.args.self.now c.loop-c.self c.args.begin c.loop-c.c Took (λ end all. all) (omega (arith, many, done)) c.loop-c.invariant.so_far)

pub returns-clause-goes : goal.returns-clause-goes
returns-clause-goes c =
    let as_many = c.loop-c.invariant.takes.as_many in
    let channels = ap (λ (s : SlaveState). length s.channels) c.self.view_is in
    let many : c.len-len.result ≡ length c.loop-c.self.channels = omega (arith, c.len-len.ensures.value, channels, as_many) in
    let done = c.loop-c-test.false in
    subst (λ (s : SlaveState). GoesRound c.args.self.now (record s { next = 0 }) c.args.begin Empty) (sym c.self-2.view_is)
    (round-done c.args.self.now c.loop-c.self c.args.begin c.loop-c.c Empty (λ end all. all) (omega (arith, many, done)) c.loop-c.invariant.so_far)
