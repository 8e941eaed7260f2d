use Rattle.std.proofs.Common.{◌≡◌, ◌<◌, length, map, vec_len, refl, sym, ◌∙◌, arith}
use Rattle.std.proofs.lemmas.List.{length-map}
use Rattle.frame_writer.specs.Writing.{state_of}
use Rattle.frame_writer.specs.contracts.sink_out.SinkOutOut.TheImpl.{ghosts as out}
use Rattle.transmitter.specs.Written.{transmission}
use Rattle.transmitter.proofs.FillLemmas.{filled_more, filled_none, fills_all, fills_no_room, fills_spent, lays-append, lays-front, lays_nothing}
use Rattle.transmitter.proofs.PumpLemmas.{none_of}
use Rattle.transmitter.proofs.filling.Transmitter+SinkOut+T.pump_all.Goals as goal

-- nothing is in hand while the writer is open
pub loop-self-init : goal.loop-self-init
loop-self-init g c =
    let s = c.args.self.now in
    let none = none_of s.hand (sym s.held ∙ (sym c.closed.ensures ∙ c.if-closed.false)) in
    record {
      filled = filled_none _ _ (transmission out g.T.TakeEnd s) none;
      lays = lays_nothing (state_of out s.writer).out c.args.buffer.now 0 (omega arith);
      long = omega arith;
      count = omega arith;
      as_many = refl;
    }

-- a sample doesn't fit
pub returns-then-stop-len-clause-ok : goal.returns-then-stop-len-clause-ok
returns-then-stop-len-clause-ok g c =
    let i = c.loop-self.invariant in
    let e = c.pump_on-stop.ensures in
    let ends = c.args.self.now.ends in
    let short : c.pump_on-stop.result < vec_len c.loop-self.self.ends = omega (arith, c.if-stop-len.true, c.len.ensures, e.as_many) in
    let few : c.pump_on-stop.result < length (map g.T.TakeEnd.ring ends.items) = omega (arith, c.if-stop-len.true, c.len.ensures, e.as_many, i.as_many, length-map ends.items g.T.TakeEnd.ring, ends.ok.0) in
    let finds = rw i.lays.len at e.no_room short in
    record {
      fills = fills_no_room _ _ _ _ _ _ _ _ _ _ (sym c.closed.ensures ∙ c.if-closed.false, omega (arith, c.if-self-ge-MAX_TAKEN.false)) i.filled e.turns few finds;
      front = lays-front _ _ _ _ _ (lays-append (state_of out c.args.self.now.writer).out _ _ c.args.buffer.now c.loop-self.buffer _ 0 c.loop-self.end _ i.lays e.lays);
    }

-- a whole pump found nothing
pub returns-then-found_nothing-clause-ok : goal.returns-then-found_nothing-clause-ok
returns-then-found_nothing-clause-ok g c =
    let i = c.loop-self.invariant in
    let e = c.pump_on-stop.ensures in
    let ends = c.args.self.now.ends in
    let whole : c.pump_on-stop.result ≡ length (map g.T.TakeEnd.ring ends.items) = omega (arith, e.stop, c.if-stop-len.false, c.len.ensures, e.as_many, i.as_many, length-map ends.items g.T.TakeEnd.ring, ends.ok.0) in
    record {
      fills = fills_all _ _ _ _ _ _ _ _ _ _ (sym c.closed.ensures ∙ c.if-closed.false, omega (arith, c.if-self-ge-MAX_TAKEN.false)) i.filled e.turns whole (c.found_nothing.ensures.0 c.if-found_nothing.true);
      front = lays-front _ _ _ _ _ (lays-append (state_of out c.args.self.now.writer).out _ _ c.args.buffer.now c.loop-self.buffer _ 0 c.loop-self.end _ i.lays e.lays);
    }

-- one pump more
pub loop-self-preserved : goal.loop-self-preserved
loop-self-preserved g c =
    let s = c.args.self.now in
    let i = c.loop-self.invariant in
    let e = c.pump_on-stop.ensures in
    let ends = s.ends in
    let whole : c.pump_on-stop.result ≡ length (map g.T.TakeEnd.ring ends.items) = omega (arith, e.stop, c.if-stop-len.false, c.len.ensures, e.as_many, i.as_many, length-map ends.items g.T.TakeEnd.ring, ends.ok.0) in
    record {
      filled = filled_more _ _ _ _ _ _ _ _ _ i.filled e.turns whole;
      lays = lays-append (state_of out s.writer).out _ _ c.args.buffer.now c.loop-self.buffer _ 0 c.loop-self.end _ i.lays e.lays;
      long = e.long;
      count = omega (arith, i.count, e.turns.count, e.turns.turns.leads.taken);
      as_many = e.as_many ∙ i.as_many;
    }

-- too many items were taken
pub returns-clause-ok : goal.returns-clause-ok
returns-clause-ok g c = record {
  fills = fills_spent _ _ _ _ _ _ _ (sym c.closed.ensures ∙ c.if-closed.false, omega (arith, c.if-self-ge-MAX_TAKEN.false)) c.loop-self.invariant.filled (omega (arith, c.loop-self-test.false));
  front = lays-front _ _ _ _ _ c.loop-self.invariant.lays;
}
