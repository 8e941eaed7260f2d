use Rattle.std.proofs.Common.{◌≡◌, ◌+◌, ◌<◌, ℕ, zero, suc, List, [], ◌∷◌, ◌++◌, drop, get_or, length, take, refl, ap, ◌∙◌, subst, add-one, arith}
use Rattle.std.proofs.lemmas.List.{map_more}
use Rattle.frame_writer.specs.Frame.{frame, text}
use Rattle.frame_writer.specs.Shown.{BreaksOff, shown}
use Rattle.frame_writer.specs.Writing.{FailsWithin, after_frame, fresh_writer, state_of}
use Rattle.frame_writer.proofs.FaultLemmas.{failed_while_open}
use Rattle.frame_writer.proofs.TextLemmas.{after_text-push, breaks_off-text}
use Rattle.daq_run.specs.Fixed.{fixed_packet, fixed_packets}
use Rattle.daq_run.proofs.fixed.fixed_run.Goals as goal

-- the packets of the images, those before one and those behind it told apart
fixed_packets-at : (images : List (List ℕ)) (i : ℕ) → i < length images → fixed_packets images ≡ fixed_packets (take i images) ++ fixed_packet (get_or images i []) ∷ fixed_packets (drop (i + 1) images)
fixed_packets-at [] i h = absurd (omega arith)
fixed_packets-at (image ∷ images) zero h = refl
fixed_packets-at (image ∷ images) (suc i) h = rw add-one (ap (λ qs. fixed_packet image ∷ qs) (rw add-one at (fixed_packets-at images i (omega arith))))

-- the packet of this image is the one within which the writer failed
pub returns-in-Err-clause-torn : goal.returns-in-Err-clause-torn
returns-in-Err-clause-torn g c =
    let a = fresh_writer (shown g.O.Out c.args.out) in
    let b = state_of g.O.Out c.loop-image.writer in
    let after = state_of g.O.Out c.send.new.self in
    let images : List (List ℕ) = c.args.images.now in
    let i : ℕ = c.loop-image.image-index in
    let image : List ℕ = get_or images i [] in
    let before : List (List ℕ) = fixed_packets (take i images) in
    let behind : List (List ℕ) = fixed_packets (drop (i + 1) images) in
    let whole : fixed_packets images ≡ before ++ fixed_packet image ∷ behind = fixed_packets-at images i c.loop-image-test.true in
    let fails = c.in-Err.ensures.failed (failed_while_open b.closed c.in-Err.fault c.loop-image.invariant.closed c.in-Err.ensures.closed.0) in
    let P : List ℕ → Type 0 = λ q. FailsWithin b after (frame b.counter q) in
    let within : P (fixed_packet image) = subst P c.packet_of.ensures fails in
    let all : BreaksOff a.out after.out (text 0 (fixed_packets images)) =
    breaks_off-text a b after before (fixed_packet image) behind (fixed_packets images) c.loop-image.invariant within whole in
    rw c.into_out.ensures all

-- the packet of this image stands behind those of the images before it
pub loop-image-preserved : goal.loop-image-preserved
loop-image-preserved g c =
    let a = fresh_writer (shown g.O.Out c.args.out) in
    let b = state_of g.O.Out c.loop-image.writer in
    let images : List (List ℕ) = c.args.images.now in
    let i : ℕ = c.loop-image.image-index in
    let image : List ℕ = get_or images i [] in
    let sent : state_of g.O.Out c.send.new.self ≡ after_frame b (fixed_packet image) =
    c.in_default.ensures.ok ∙ ap (after_frame b) c.packet_of.ensures in
    let more : fixed_packets (take (i + 1) images) ≡ fixed_packets (take i images) ++ fixed_packet image ∷ [] =
    map_more fixed_packet images i [] c.loop-image-test.true in
    rw (sent, more) (after_text-push a b (fixed_packets (take i images)) (fixed_packet image) c.loop-image.invariant)
