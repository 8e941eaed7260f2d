use Rattle.std.proofs.Common.{refl, ap, ◌∙◌, arith, append-nil}
use Rattle.xcp_base.specs.declared.item.Item.TheVariants.{Sample, Marker}
use Rattle.xcp_base.specs.Lists.{has_list}
use Rattle.frame_writer.specs.Writing.{WriterState, state_of}
use Rattle.frame_writer.specs.contracts.sink_out.SinkOutOut.TheImpl.{ghosts as out}
use Rattle.transmitter.specs.Written.{transmission}
use Rattle.transmitter.proofs.FillLemmas.{lays_more, lays_nothing, lays_same}
use Rattle.transmitter.proofs.PumpLemmas.{idle_more, item_more, look_more, no_turns, one_stop, or_false}
use Rattle.transmitter.proofs.TurnLemmas.{in_ring, too_long}
use Rattle.transmitter.proofs.filling.Transmitter+SinkOut+T.pump_on.Goals as goal
use Rattle.transmitter.proofs.filling.Transmitter+SinkOut+T.pump_on.Goals.{in-Nothing, in-Wrote, in-Stopped}

-- no ring is left
pub returns-then-from-rings-clause-turns : goal.returns-then-from-rings-clause-turns
returns-then-from-rings-clause-turns g c = no_turns _ _ (transmission out g.T.TakeEnd c.args.self.now) _ (omega (arith, c.if-from-rings.true)) c.requires.nothing_in_hand

pub returns-then-from-rings-clause-lays : goal.returns-then-from-rings-clause-lays
returns-then-from-rings-clause-lays g c = lays_nothing (state_of out c.args.self.now.writer).out c.args.buffer.now c.args.end.now c.requires.inside

pub loop-c-init : goal.loop-c-init
loop-c-init g c =
    let s = c.args.self.now in
    record {
      turns = no_turns _ _ (transmission out g.T.TakeEnd s) _ (omega arith) c.requires.nothing_in_hand;
      lays = lays_nothing (state_of out s.writer).out c.args.buffer.now c.args.end.now c.requires.inside;
      long = c.requires.long;
      few = record { taken = omega arith; frames = omega arith; bytes = omega arith };
      few_items = omega arith;
      as_many = refl;
    }

-- nothing is in hand so far
pub turn-requires-clause-nothing_in_hand : goal.turn-requires-clause-nothing_in_hand
turn-requires-clause-nothing_in_hand g c = c.loop-c.invariant.turns.hand

-- the sample stays in its ring
pub returns-in-Stays-clause-turns : goal.returns-in-Stays-clause-turns
returns-in-Stays-clause-turns g c =
    let l = in_ring _ _ _ _ c.in-Stays.ensures.turn in
    look_more _ _ _ _ _ _ _ c.loop-c.invariant.turns l.leads l.hand

-- and nothing was written
pub returns-in-Stays-clause-lays : goal.returns-in-Stays-clause-lays
returns-in-Stays-clause-lays g c =
    let l = in_ring _ _ _ _ c.in-Stays.ensures.turn in
    let same = c.in-Stays.ensures.lays in
    lays_same (state_of out c.args.self.now.writer).out _ _ c.args.buffer.now c.loop-c.buffer _ _ c.loop-c.end _ c.loop-c.invariant.lays (ap (λ (w : WriterState). w.out) l.writer, same.0, same.1)

-- since its frames are too long
pub returns-in-Stays-clause-no_room : goal.returns-in-Stays-clause-no_room
returns-in-Stays-clause-no_room g c = λ _.
    let l = in_ring _ _ _ _ c.in-Stays.ensures.turn in
    (too_long _ _ _ c.loop-c.end c.loop-c.buffer _ _ c.loop-c.invariant.lays.len c.in-Stays.ensures.lays.1 l).0

pub returns-in-Stays-clause-short : goal.returns-in-Stays-clause-short
returns-in-Stays-clause-short g c = λ _.
    let l = in_ring _ _ _ _ c.in-Stays.ensures.turn in
    (too_long _ _ _ c.loop-c.end c.loop-c.buffer _ _ c.loop-c.invariant.lays.len c.in-Stays.ensures.lays.1 l).1

-- one turn more
pub loop-c-preserved : goal.loop-c-preserved
loop-c-preserved g c =
    let i = c.loop-c.invariant in
    let f = i.few in
    let a = (state_of out c.args.self.now.writer).out in
    elim c.match-turn.branch [
      | in-Nothing w ↦
          let t = w.in-Nothing.ensures.turn in
          let same = w.in-Nothing.ensures.lays in
          record {
            turns = rw w.pumped-is (idle_more _ c.loop-c.c _ _ _ _ c.loop-c.pumped i.turns t.1 t.0 t.2);
            lays = lays_same a _ _ c.args.buffer.now c.loop-c.buffer _ _ c.loop-c.end _ i.lays same;
            long = rw w.pumped-is (omega (arith, i.long, same.2));
            few = rw w.pumped-is (record { taken = omega (arith, f.taken); frames = omega (arith, f.frames); bytes = omega (arith, f.bytes, same.2) });
            few_items = omega (arith, i.few_items, t.1.taken);
            as_many = w.in-Nothing.ensures.as_many ∙ i.as_many;
          }
      | in-Wrote w ↦
          let t = w.in-Wrote.ensures.turn in
          let laid = w.in-Wrote.ensures.lays in
          record {
            turns = rw w.pumped-is (item_more _ c.loop-c.c _ _ _ _ c.loop-c.pumped _ (Sample t.0) i.turns (omega arith) t.2 t.1 refl (rw (append-nil t.0.packets, t.3) refl) (λ l. or_false (has_list c.loop-c.pumped.stopped l)));
            lays = lays_more a _ _ c.args.buffer.now c.loop-c.buffer _ _ c.loop-c.end _ i.lays laid.0 w.in-Wrote.ensures.inside;
            long = rw w.pumped-is (omega (arith, i.long, laid.1));
            few = rw w.pumped-is (record { taken = omega (arith, f.taken); frames = omega (arith, f.frames, t.4); bytes = omega (arith, f.bytes, laid.0.few) });
            few_items = omega (arith, i.few_items, t.2.taken);
            as_many = w.in-Wrote.ensures.as_many ∙ i.as_many;
          }
      | in-Stopped w ↦
          let t = w.in-Stopped.ensures.turn in
          let same = w.in-Stopped.ensures.lays in
          record {
            turns = rw w.pumped-is (item_more _ c.loop-c.c _ _ _ _ c.loop-c.pumped _ (Marker t.0) i.turns (omega arith) t.2 t.1 refl (omega arith) (λ k. one_stop c.loop-c.pumped.stopped w.with_list-pumped.result t.0.list w.in-Stopped.list k t.3 (w.with_list-pumped.ensures k)));
            lays = lays_same a _ _ c.args.buffer.now c.loop-c.buffer _ _ c.loop-c.end _ i.lays same;
            long = rw w.pumped-is (omega (arith, i.long, same.2));
            few = rw w.pumped-is (record { taken = omega (arith, f.taken); frames = omega (arith, f.frames); bytes = omega (arith, f.bytes, same.2) });
            few_items = omega (arith, i.few_items, t.2.taken);
            as_many = w.in-Stopped.ensures.as_many ∙ i.as_many;
          }
    ]
