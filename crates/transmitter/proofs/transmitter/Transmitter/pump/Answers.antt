use Rattle.std.proofs.Common.{refl, sym, ◌∙◌, arith, append-nil, length, map, ◌≤◌}
use Rattle.std.proofs.lemmas.List.{length-map}
use Rattle.xcp_base.specs.declared.item.Item.TheVariants.{Sample, Marker}
use Rattle.xcp_base.specs.Lists.{has_list}
use Rattle.transmitter.specs.Written.{transmission}
use Rattle.transmitter.proofs.PumpLemmas.{failed_pump, idle_more, item_more, no_turns, none_of, nothing, one_pump, one_stop, or_false}
use Rattle.transmitter.proofs.TurnLemmas.{in_hand}
use Rattle.transmitter.proofs.transmitter.Transmitter.pump.Goals as goal
use Rattle.transmitter.proofs.transmitter.Transmitter.pump.Goals.{in-Nothing, in-Wrote, in-Stopped}

-- nothing is in hand while the writer is open
pub loop-c-init : goal.loop-c-init
loop-c-init g c =
    let s = c.args.self.now in
    let none = none_of s.hand (sym s.held ∙ (sym c.closed.ensures ∙ c.if-closed.false)) in
    record {
      turns = no_turns 0 0 (transmission g.O.Out g.T.TakeEnd s) nothing (omega arith) none;
      few = record { taken = omega arith; frames = omega arith; bytes = omega arith };
      as_many = refl;
    }

-- nothing is in hand so far
pub turn-requires-clause-nothing_in_hand : goal.turn-requires-clause-nothing_in_hand
turn-requires-clause-nothing_in_hand g c = c.loop-c.invariant.turns.hand

-- at most an item was taken of each ring, and there are 8
pub as_one-requires-clause-few : goal.as_one-requires-clause-few
as_one-requires-clause-few g c = omega (arith, c.loop-c.invariant.few.taken, c.loop-c.auto.c-end, c.len-c-end.ensures, c.args.self.now.few)

pub as_one-requires-clause-few_frames : goal.as_one-requires-clause-few_frames
as_one-requires-clause-few_frames g c = omega (arith, c.loop-c.invariant.few.frames, c.loop-c.auto.c-end, c.len-c-end.ensures, c.args.self.now.few)

-- only the ring changed at which pumps go on
pub invariant_of-self : goal.invariant_of-self
invariant_of-self g c = record { few = c.loop-c.self.few; counted = c.loop-c.self.counted; held = c.loop-c.self.held }

-- the writer failed
pub returns-in-Stays-clause-pumps : goal.returns-in-Stays-clause-pumps
returns-in-Stays-clause-pumps g c =
    let t = in_hand _ _ _ c.in-Stays.ensures.turn in
    failed_pump _ _ _ c.loop-c.c nothing c.loop-c.pumped t.0 c.loop-c.invariant.turns t.2 t.1 (sym c.closed.ensures ∙ c.if-closed.false, c.if-self-ge-MAX_TAKEN.false)

-- one turn more
pub loop-c-preserved : goal.loop-c-preserved
loop-c-preserved g c =
    let i = c.loop-c.invariant in
    let f = i.few in
    elim c.match-turn.branch [
      | in-Nothing w ↦
          let t = w.in-Nothing.ensures.turn in
          record {
            turns = rw w.pumped-is (idle_more 0 c.loop-c.c _ _ _ nothing c.loop-c.pumped i.turns t.1 t.0 t.2);
            few = rw w.pumped-is (record { taken = omega (arith, f.taken); frames = omega (arith, f.frames); bytes = omega arith });
            as_many = w.in-Nothing.ensures.as_many ∙ i.as_many;
          }
      | in-Wrote w ↦
          let t = w.in-Wrote.ensures.turn in
          record {
            turns = rw w.pumped-is (item_more 0 c.loop-c.c _ _ _ nothing c.loop-c.pumped _ (Sample t.0) i.turns (omega arith) t.2 t.1 refl (rw (append-nil t.0.packets, t.3) refl) (λ l. or_false (has_list c.loop-c.pumped.stopped l)));
            few = rw w.pumped-is (record { taken = omega (arith, f.taken); frames = omega (arith, f.frames, t.4); bytes = omega arith });
            as_many = w.in-Wrote.ensures.as_many ∙ i.as_many;
          }
      | in-Stopped w ↦
          let t = w.in-Stopped.ensures.turn in
          record {
            turns = rw w.pumped-is (item_more 0 c.loop-c.c _ _ _ nothing c.loop-c.pumped _ (Marker t.0) i.turns (omega arith) t.2 t.1 refl (omega arith) (λ k. one_stop c.loop-c.pumped.stopped w.with_list.result t.0.list w.in-Stopped.list k t.3 (w.with_list.ensures k)));
            few = rw w.pumped-is (record { taken = omega (arith, f.taken); frames = omega (arith, f.frames); bytes = omega arith });
            as_many = w.in-Stopped.ensures.as_many ∙ i.as_many;
          }
    ]

-- each ring had its turn
pub returns-clause-pumps : goal.returns-clause-pumps
returns-clause-pumps g c =
    let t = g.T.TakeEnd in
    let ends = c.args.self.now.ends in
    let all : length (map t.known ends.items) ≤ c.loop-c.c = omega (arith, length-map ends.items t.known, ends.ok.0, c.loop-c.invariant.as_many, c.loop-c.auto.c-end, c.loop-c-test.false, c.len-c-end.ensures) in
    let one = c.as_one.ensures in
    one_pump c.loop-c.c _ _ c.loop-c.pumped c.as_one.result (sym c.closed.ensures ∙ c.if-closed.false, c.if-self-ge-MAX_TAKEN.false) c.loop-c.invariant.turns all one.taken one.frames one.stopped
