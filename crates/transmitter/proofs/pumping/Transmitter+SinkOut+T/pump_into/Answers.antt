use Rattle.std.proofs.Common.{◌≤◌, vec_len, sym, ◌∙◌, arith, length, map}
use Rattle.std.proofs.lemmas.List.{length-map}
use Rattle.transmitter.proofs.FillLemmas.{lays-front}
use Rattle.transmitter.proofs.PumpLemmas.{all_fit, none_of, one_pump}
use Rattle.transmitter.proofs.pumping.Transmitter+SinkOut+T.pump_into.Goals as goal

-- nothing is in hand while the writer is open
pub pump_on-requires-clause-nothing_in_hand : goal.pump_on-requires-clause-nothing_in_hand
pump_on-requires-clause-nothing_in_hand g c =
    let s = c.args.self.now in
    none_of s.hand (sym s.held ∙ (sym c.closed.ensures ∙ c.if-closed.false))

-- at most an item was taken of each ring, and there are 8
pub as_one-requires-clause-few : goal.as_one-requires-clause-few
as_one-requires-clause-few g c =
    let e = c.pump_on.ensures in
    omega (arith, e.few.taken, e.stop, c.args.self.now.few)

pub as_one-requires-clause-few_frames : goal.as_one-requires-clause-few_frames
as_one-requires-clause-few_frames g c =
    let e = c.pump_on.ensures in
    omega (arith, e.few.frames, e.stop, c.args.self.now.few)

-- only the ring changed at which pumps go on
pub invariant_of-self : goal.invariant_of-self
invariant_of-self g c = record { few = c.pump_on.new.self.few; counted = c.pump_on.new.self.counted; held = c.pump_on.new.self.held }

-- there is room for the frames of a sample for each ring, so each had its turn
pub returns-clause-ok : goal.returns-clause-ok
returns-clause-ok g c =
    let t = g.T.TakeEnd in
    let ends = c.args.self.now.ends in
    let e = c.pump_on.ensures in
    let fits : vec_len ends ≤ c.pump_on.result =
    all_fit c.pump_on.result (vec_len ends) (length c.args.buffer.now) _ e.short (omega (arith, e.few.bytes)) c.requires.room c.args.self.now.few in
    let all : length (map t.known ends.items) ≤ c.pump_on.result = omega (arith, length-map ends.items t.known, ends.ok.0, fits) in
    let one = c.as_one.ensures in
    one_pump c.pump_on.result _ _ c.pump_on.new.pumped c.as_one.result (sym c.closed.ensures ∙ c.if-closed.false, omega (arith, c.if-self-ge-MAX_TAKEN.false)) e.turns all one.taken one.frames one.stopped

pub returns-clause-front : goal.returns-clause-front
returns-clause-front g c = lays-front _ _ _ _ _ c.pump_on.ensures.lays
