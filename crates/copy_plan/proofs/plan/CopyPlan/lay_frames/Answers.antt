use Rattle.std.proofs.Common.{◌≡◌, ◌∙◌, ◌++◌, ap, sym, arith, append_assoc, length, map, take, List, ℕ}
use Rattle.std.specs.List.{range_with_len}
use Rattle.frame_writer.specs.Frame.{frame, unnumbered}
use Rattle.copy_plan.specs.Config.{ListPlan}
use Rattle.copy_plan.specs.Memory.{image_in}
use Rattle.copy_plan.specs.Packet.{packet, packets}
use Rattle.copy_plan.proofs.FrameLemmas.{first_frame, one_frame_more, upto_more, upto_within}
use Rattle.copy_plan.proofs.plan.CopyPlan.lay_frames.Goals as goal

-- there is an ODT
pub lay_frame-end-requires-clause-odt : goal.lay_frame-end-requires-clause-odt
lay_frame-end-requires-clause-odt c = c.odts-odts.ensures.plan.some

pub lay_frame-end-requires-clause-room : goal.lay_frame-end-requires-clause-room
lay_frame-end-requires-clause-room c = omega (arith, c.requires.room, upto_within c.args.self.now 0 c.odts-odts.ensures.plan.some)

-- the frame of ODT 0
pub loop-k-init : goal.loop-k-init
loop-k-init c =
    let plan : ListPlan = c.args.self.now in
    let f : ℕ → List ℕ = packet plan (image_in plan.channel plan.segments c.args.memory) c.args.stamp c.args.overload in (
      c.lay_frame-end.ensures.len,
      omega (arith, c.lay_frame-end.ensures.end, upto_more plan 0),
      c.lay_frame-end.ensures.front ∙ ap (λ b. take c.args.at c.args.out.now ++ b) (sym (first_frame f)),
    )

pub lay_frame-end-requires-in-loop-k-clause-room : goal.lay_frame-end-requires-in-loop-k-clause-room
lay_frame-end-requires-in-loop-k-clause-room c =
    let plan : ListPlan = c.args.self.now in
    omega (arith, c.requires.room, c.loop-k.invariant.0, c.loop-k.invariant.1, upto_within plan c.loop-k.k (omega (arith, c.loop-k-test.true, c.odts-odts.ensures.value)))

-- one frame more
pub loop-k-preserved : goal.loop-k-preserved
loop-k-preserved c =
    let plan : ListPlan = c.args.self.now in
    let k = c.loop-k.k in
    let f : ℕ → List ℕ = packet plan (image_in plan.channel plan.segments c.args.memory) c.args.stamp c.args.overload in
    let so_far : List ℕ = unnumbered (map f (range_with_len 0 k)) in (
      c.lay_frame-end-in-loop-k.ensures.len ∙ c.loop-k.invariant.0,
      omega (arith, c.lay_frame-end-in-loop-k.ensures.end, c.loop-k.invariant.1, upto_more plan k),
      c.lay_frame-end-in-loop-k.ensures.front ∙ ap (λ b. b ++ frame 0 (f k)) c.loop-k.invariant.2
          ∙ append_assoc (take c.args.at c.args.out.now) so_far (frame 0 (f k))
          ∙ ap (λ b. take c.args.at c.args.out.now ++ b) (sym (one_frame_more f k)),
    )

-- those of all ODTs
pub returns-clause-front : goal.returns-clause-front
unfolding packets
returns-clause-front c =
    let plan : ListPlan = c.args.self.now in
    let all : c.loop-k.k ≡ length plan.odts = omega (arith, c.odts-odts.ensures.value, c.odts-odts.ensures.plan.some) in
    c.loop-k.invariant.2
    ∙ ap (λ n. take c.args.at c.args.out.now ++ unnumbered (map (packet plan (image_in plan.channel plan.segments c.args.memory) c.args.stamp c.args.overload) (range_with_len 0 n))) all
