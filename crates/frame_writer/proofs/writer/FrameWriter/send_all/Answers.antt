use Rattle.std.proofs.Common.{◌<◌, ℕ, List, length, subst, ap, arith}
use Rattle.frame_writer.specs.Frame.{text}
use Rattle.frame_writer.specs.Inner.{BreaksOffAfter}
use Rattle.frame_writer.specs.Writing.{state_of}
use Rattle.frame_writer.proofs.LayoutLemmas.{fails_within_text, length-text}
use Rattle.frame_writer.proofs.writer.FrameWriter.send_all.Goals as goal

-- what was taken is a part of the bytes that were handed over, and those are the text
pub returns-then-taken-end-clause-failed : goal.returns-then-taken-end-clause-failed
returns-then-taken-end-clause-failed g c = λ _.
    let o = g.O.Out in
    let old = state_of o c.args.self.now in
    let place = c.place_text-end.ensures in
    let taken = c.put_all-taken.result in
    let P : List ℕ → Type 0 = λ bytes. taken < length bytes → BreaksOffAfter taken old.out (state_of o c.break_off.new.self).out bytes in
    let part : P _ = rw c.break_off.ensures.after c.put_all-taken.ensures.part in
    let short : taken < length (text old.counter c.args.packets.now) = omega (arith, c.if-taken-end.true, place.end, length-text old.counter c.args.packets.now) in
    fails_within_text old (state_of o c.break_off.new.self) c.args.packets.now taken c.whole_frames.result (subst P place.text part short) c.whole_frames.ensures
    (ap (λ w. (state_of o w).counter) c.break_off.ensures.after) c.if-self.false (ap (λ w. (state_of o w).closed) c.break_off.ensures.after)
