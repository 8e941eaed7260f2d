use Rattle.std.proofs.Common.{◌*◌, ◌+◌, ◌<◌, ap, ◌∙◌, arith, inl, inr, refl}
use Rattle.xcp_base.specs.declared.limits.TheConstants.{MAX_CHANNELS}
use Rattle.slave.specs.Standing.{SlaveState}
use Rattle.slave.specs.Taking.{most_taken}
use Rattle.slave.proofs.FairLemmas.{fair-goes-on, fair-last, fair-many, no-rounds}
use Rattle.slave.proofs.OlderLemmas.{gone-still}
use Rattle.slave.proofs.RoundLemmas.{next-empty, next-first, next-many, through-last, through-many, went-more}
use Rattle.slave.proofs.TakingLemmas.{takes-more, takes-within}
use Rattle.slave.proofs.slave.Slave.take.Goals as goal

pub loop-rounds-init : goal.loop-rounds-init
loop-rounds-init c =
    let begins_at : _ = ap (λ (s : SlaveState). s.next) c.self.view_is ∙ c.let_go.ensures.keeps.next in
    record { takes = c.let_go.ensures.takes; few = omega arith; went = inl refl; first = inl refl; begins = inl (refl, begins_at); goes = c.let_go.ensures.goes; fair = inl (no-rounds c.args.self.now c.let_go.new.self c.let_go.ensures.keeps) }

-- one round more
pub loop-rounds-preserved : goal.loop-rounds-preserved
loop-rounds-preserved c =
    let more : c.loop-rounds.rounds < 1024 = c.loop-rounds-test.true in
    let was = c.loop-rounds.invariant.takes.counted in
    let is = c.round-round.ensures.takes.counted in
    record {
      takes =
          takes-within (1024 * MAX_CHANNELS + MAX_CHANNELS * c.loop-rounds.rounds + MAX_CHANNELS) (1024 * MAX_CHANNELS + MAX_CHANNELS * (c.loop-rounds.rounds + 1))
          c.args.self.now c.round-round.new.self (omega arith)
          (takes-more (1024 * MAX_CHANNELS + MAX_CHANNELS * c.loop-rounds.rounds) MAX_CHANNELS c.args.self.now c.loop-rounds.self c.round-round.new.self
          c.loop-rounds.invariant.takes c.round-round.ensures.takes);
      few = omega (arith, more);
      went = inr (
        refl,
        went-more c.args.self.now c.loop-rounds.self c.round-round.new.self c.loop-rounds.begin c.loop-rounds.rounds c.round-round.result c.round-round.ensures.ends
            (c.is_last.ensures.no c.if-is_last.false) (omega (arith, was)) (omega (arith, is)) c.loop-rounds.invariant.went,
      );
      first = inr (next-first c.loop-rounds.self c.round-round.new.self c.loop-rounds.begin c.round-round.result c.round-round.ensures.ends (c.is_last.ensures.no c.if-is_last.false));
      begins = inr (omega arith, refl);
      goes = gone-still c.args.self.now c.loop-rounds.self c.round-round.new.self c.round-round.ensures.older (omega (arith, is)) c.loop-rounds.invariant.goes;
      fair =
          fair-goes-on c.args.self.now c.loop-rounds.self c.round-round.new.self c.loop-rounds.rounds c.loop-rounds.begin c.round-round.result c.round-round.ensures.goes
          (c.is_last.ensures.no c.if-is_last.false) c.loop-rounds.invariant.begins (omega (arith, is)) (c.round-round.ensures.takes.as_many ∙ c.loop-rounds.invariant.takes.as_many) c.loop-rounds.invariant.fair;
    }

pub returns-then-is_last : goal.returns-then-is_last
returns-then-is_last c =
    let more : c.loop-rounds.rounds < 1024 = c.loop-rounds-test.true in
    let is = c.round-round.ensures.takes.counted in
    record {
      takes =
          takes-within (1024 * MAX_CHANNELS + MAX_CHANNELS * c.loop-rounds.rounds + MAX_CHANNELS) most_taken
          c.args.self.now c.round-round.new.self (omega (arith, more))
          (takes-more (1024 * MAX_CHANNELS + MAX_CHANNELS * c.loop-rounds.rounds) MAX_CHANNELS c.args.self.now c.loop-rounds.self c.round-round.new.self
          c.loop-rounds.invariant.takes c.round-round.ensures.takes);
      lets_go = gone-still c.args.self.now c.loop-rounds.self c.round-round.new.self c.round-round.ensures.older (omega (arith, is)) c.loop-rounds.invariant.goes;
      through =
          through-last c.args.self.now c.loop-rounds.self c.round-round.new.self c.loop-rounds.begin c.round-round.result c.round-round.ensures.ends (c.is_last.ensures.yes c.if-is_last.true);
      fair =
          fair-last c.args.self.now c.loop-rounds.self c.round-round.new.self c.loop-rounds.rounds c.loop-rounds.begin c.round-round.result c.round-round.ensures.goes
          (c.is_last.ensures.yes c.if-is_last.true) (next-empty c.loop-rounds.self c.round-round.new.self c.loop-rounds.begin c.round-round.result c.round-round.ensures.ends)
          c.loop-rounds.invariant.begins (omega (arith, is)) (c.round-round.ensures.takes.as_many ∙ c.loop-rounds.invariant.takes.as_many) c.loop-rounds.invariant.fair;
    }

pub returns : goal.returns
returns c =
    let few = c.loop-rounds.invariant.few in
    let done = c.loop-rounds-test.false in
    record {
      takes = takes-within (1024 * MAX_CHANNELS + MAX_CHANNELS * c.loop-rounds.rounds) most_taken c.args.self.now c.loop-rounds.self (omega (arith, few)) c.loop-rounds.invariant.takes;
      lets_go = c.loop-rounds.invariant.goes;
      through =
          through-many c.args.self.now c.loop-rounds.self c.loop-rounds.begin c.loop-rounds.rounds (omega (arith, few, done)) c.loop-rounds.invariant.went
          (next-many c.loop-rounds.rounds c.loop-rounds.self.next (omega (arith, done)) c.loop-rounds.invariant.first) c.loop-rounds.invariant.fair;
      fair =
          fair-many c.args.self.now c.loop-rounds.self c.loop-rounds.rounds (omega (arith, done))
          (next-many c.loop-rounds.rounds c.loop-rounds.self.next (omega (arith, done)) c.loop-rounds.invariant.first) c.loop-rounds.invariant.fair;
    }
