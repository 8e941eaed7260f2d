use Rattle.std.proofs.Common.{◌≡◌, [], Option, Some, None, Ok, Err, false, length, map, refl, sym, ap, ◌∙◌, subst, append-nil, arith}
use Rattle.std.specs.Option.{is_some}
use Rattle.std.proofs.lemmas.Bool.{false≢true}
use Rattle.std.proofs.lemmas.Result.{err_from_is_err_and}
use Rattle.sampler.specs.State.{joined, sent_by}
use Rattle.transmitter.specs.Merge.{of_ring}
use Rattle.transmitter.specs.Pumps.{PumpAnswers, Pumps}
use Rattle.transmitter.specs.Rounds.{Drains}
use Rattle.transmitter.specs.Written.{HasTaken, TransmitterState, transmission}
use Rattle.transmitter.proofs.DrainLemmas.{all_taken, drain-more, first_look, looked-rings, one_round, pumped-rings, stopped_by, takes_one, takes_some}
use Rattle.transmitter.proofs.RingLemmas.{ends_stay-more, same_count}
use Rattle.transmitter.proofs.transmitter.Transmitter.drain.Goals as goal

none_of : {X : Type 0} → (o : Option X) → is_some o ≡ false → o ≡ None
none_of None e = refl
none_of (Some x) e = absurd (false≢true (sym e))

-- the first look
pub loop-left-init : goal.loop-left-init
loop-left-init g c =
    let t = g.T.TakeEnd in
    let s = c.args.self.now in
    let e = c.after-left.ensures in
    let sent = sent_by (map (joined g.T.End.RingEnd) c.args.ends.now) in
    let was_open = sym c.closed.ensures ∙ c.if-closed.false in
    let none = none_of s.hand (sym s.held ∙ was_open) in
    record {
      emptying = first_look sent (transmission g.O.Out t s) (transmission g.O.Out t c.after-left.new.self) was_open none (record { same = e.looked; rest = e.left });
      rings = looked-rings (transmission g.O.Out t s) (transmission g.O.Out t c.after-left.new.self) e.looked;
      ends = e.ends_stay;
      some = e.some;
      none = e.none;
    }

-- one round more
pub loop-left-preserved : goal.loop-left-preserved
loop-left-preserved g c =
    let t = g.T.TakeEnd in
    let sent = sent_by (map (joined g.T.End.RingEnd) c.args.ends.now) in
    let i = c.loop-left.invariant in
    let p = c.pump-answer.ensures.pumps in
    let e = c.after-left-in-loop-left.ensures in
    let a = transmission g.O.Out t c.args.self.now in
    let b = transmission g.O.Out t c.loop-left.self in
    let m = transmission g.O.Out t c.pump-answer.new.self in
    let d = transmission g.O.Out t c.after-left-in-loop-left.new.self in
    let rings : d.rings ≡ b.rings = pumped-rings b m d p.taken p.leads e.looked in
    let pumps : Pumps b m p.taken c.in_ok-answer.field-0 = subst (PumpAnswers b m p.taken) c.in_ok-answer.was p.answers in
    let as_many : length d.known ≡ length b.known = same_count t.ring t.known c.after-left-in-loop-left.new.self.ends.items c.loop-left.self.ends.items rings in
    record {
      emptying = one_round sent a b m d p.taken c.in_ok-answer.field-0 i.emptying p.leads p.rising pumps (record { same = e.looked; rest = λ k. e.left k ∙ ap (λ es. of_ring (sent_by es) k) i.ends.ends }) as_many (takes_one b m p.taken c.in_ok-answer.field-0 pumps (i.some c.loop-left-test.true));
      rings = rings ∙ i.rings;
      ends = ends_stay-more i.ends e.ends_stay;
      some = e.some;
      none = e.none;
    }

-- the pump was refused, and what was taken before stands
pub returns-in_err-answer-clause-drains : goal.returns-in_err-answer-clause-drains
returns-in_err-answer-clause-drains g c =
    let t = g.T.TakeEnd in
    let sent = sent_by (map (joined g.T.End.RingEnd) c.args.ends.now) in
    let i = c.loop-left.invariant in
    let p = c.pump-answer.ensures.pumps in
    let e = c.after-left-in-loop-left.ensures in
    let s = c.loop-left.self in
    let a = transmission g.O.Out t c.args.self.now in
    let b = transmission g.O.Out t s in
    let m = transmission g.O.Out t c.pump-answer.new.self in
    let d = transmission g.O.Out t c.after-left-in-loop-left.new.self in
    let fault = c.in_err-answer.field-0.0 in
    let answers : PumpAnswers b m p.taken (Err fault) = subst (PumpAnswers b m p.taken) c.in_err-answer.was p.answers in
    let was_open : b.writer.closed ≡ false = s.held ∙ ap is_some i.emptying.hand in
    let same = err_from_is_err_and c.from_residual.result c.from_residual.ensures.1 in
    let stopped = stopped_by sent a b m d p.taken fault i.emptying was_open p.leads p.rising answers (record { same = e.looked; rest = λ k. e.left k ∙ ap (λ es. of_ring (sent_by es) k) i.ends.ends }) in
    subst (Drains sent a d) (sym (same.1 ∙ ap Err same.2)) stopped

-- each pump takes an item
pub loop-left-smaller : goal.loop-left-smaller
loop-left-smaller g c =
    let t = g.T.TakeEnd in
    let p = c.pump-answer.ensures.pumps in
    let b = transmission g.O.Out t c.loop-left.self in
    let m = transmission g.O.Out t c.pump-answer.new.self in
    let pumps : Pumps b m p.taken c.in_ok-answer.field-0 = subst (PumpAnswers b m p.taken) c.in_ok-answer.was p.answers in
    let more = takes_some b m p.taken c.in_ok-answer.field-0 p.leads pumps (c.loop-left.invariant.some c.loop-left-test.true) in
    let kept = ap (λ (s : TransmitterState). s.taken) c.after-left-in-loop-left.ensures.looked in
    omega (arith, more, kept, pumps.could.1)

-- whatever it answers, it took what it says
pub returns-then-closed-clause-more : goal.returns-then-closed-clause-more
returns-then-closed-clause-more g c = λ start ps h. ([], subst (HasTaken start (transmission g.O.Out g.T.TakeEnd c.args.self.now)) (sym (append-nil ps)) h)

pub returns-in_err-answer-clause-more : goal.returns-in_err-answer-clause-more
returns-in_err-answer-clause-more g c =
    drain-more (sent_by (map (joined g.T.End.RingEnd) c.args.ends.now)) _ (transmission g.O.Out g.T.TakeEnd c.after-left-in-loop-left.new.self) c.from_residual.result (returns-in_err-answer-clause-drains g c)

-- nothing is left
pub returns-clause-drains : goal.returns-clause-drains
returns-clause-drains g c =
    let sent = sent_by (map (joined g.T.End.RingEnd) c.args.ends.now) in
    all_taken sent (transmission g.O.Out g.T.TakeEnd c.args.self.now) (transmission g.O.Out g.T.TakeEnd c.loop-left.self) c.loop-left.invariant.emptying (c.loop-left.invariant.none c.loop-left-test.false)

pub returns-clause-more : goal.returns-clause-more
returns-clause-more g c =
    let sent = sent_by (map (joined g.T.End.RingEnd) c.args.ends.now) in
    let a = transmission g.O.Out g.T.TakeEnd c.args.self.now in
    let b = transmission g.O.Out g.T.TakeEnd c.loop-left.self in
    drain-more sent a b (Ok tt) (all_taken sent a b c.loop-left.invariant.emptying (c.loop-left.invariant.none c.loop-left-test.false))
