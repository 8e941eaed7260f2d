use Rattle.std.proofs.Common.{arith, sym, ap, ◌∙◌, ◌≡◌, ◌+◌, ◌-◌, ◌++◌, length, take, drop}
use Rattle.std.proofs.lemmas.List.{length-take}
use Rattle.std.proofs.lemmas.Slice.{drop-put_mid, take-put_mid}
use Rattle.frame_writer.specs.Frame.{text}
use Rattle.frame_ring.proofs.NumberLemmas.{first_frames, front_stays, laid_behind}
use Rattle.frame_ring.proofs.fitting.put_frames.Goals as goal

pub slice_bounds-place-end : goal.slice_bounds-place-end
slice_bounds-place-end c =
    let packets = c.requires.frames.packets in
    let of = c.requires.frames.of in
    let fit = c.front_that_fits-front.ensures packets of in
    let len = c.front_that_fits-front.result.len in
    let first = first_frames c.args.frames.now packets c.args.count c.front_that_fits-front.result.count len of fit.some fit.bytes in
    omega (arith, first.short, length-take len c.args.frames.now)

-- what is numbered are the frames that were laid out
pub number-requires-clause-frames : goal.number-requires-clause-frames
number-requires-clause-frames c =
    let packets = c.requires.frames.packets in
    let of = c.requires.frames.of in
    let fit = c.front_that_fits-front.ensures packets of in
    let front = c.front_that_fits-front.result in
    let first = first_frames c.args.frames.now packets c.args.count front.count front.len of fit.some fit.bytes in
    let laid = laid_behind c.args.out.now c.place-end.new.room (take front.len c.args.frames.now) c.args.at c.place-end.result c.requires.place c.place-end.ensures.end c.place-end.ensures.bytes in
    record {
      packets = take front.count packets;
      of = record { each = first.are.each; are = laid ∙ first.are.are; many = first.are.many };
    }

pub returns-clause-front : goal.returns-clause-front
returns-clause-front c = λ packets of.
    let fit = c.front_that_fits-front.ensures packets of in
    let front = c.front_that_fits-front.result in
    let frames = c.args.frames.now in
    let placed = c.place-end.new.room in
    let first = first_frames frames packets c.args.count front.count front.len of fit.some fit.bytes in
    let laid = laid_behind c.args.out.now placed (take front.len frames) c.args.at c.place-end.result c.requires.place c.place-end.ensures.end c.place-end.ensures.bytes in
    let stays = front_stays c.args.out.now placed (take front.len frames) c.args.at c.place-end.result c.requires.place c.place-end.ensures.end c.place-end.ensures.bytes in
    let numbered : c.number.new.frames ≡ text c.args.counter (take front.count packets) =
    c.number.ensures.numbered (take front.count packets) (record { each = first.are.each; are = laid ∙ first.are.are; many = first.are.many }) in
    let size : c.place-end.result - c.args.at ≡ front.len = omega (arith, c.place-end.ensures.end, length-take front.len frames, first.short) in
    let long : length c.number.new.frames ≡ front.len = c.number.ensures.len ∙ ap length laid ∙ length-take front.len frames ∙ omega (arith, first.short) in
    take-put_mid c.args.at (c.place-end.result - c.args.at) placed c.number.new.frames (c.args.at + front.len) (omega (arith, long)) (omega (arith, c.requires.place, c.place-end.ensures.len))
    ∙ ap (λ a. a ++ c.number.new.frames) stays ∙ ap (λ b. take c.args.at c.args.out.now ++ b) numbered

pub returns-clause-behind : goal.returns-clause-behind
returns-clause-behind c =
    let packets = c.requires.frames.packets in
    let of = c.requires.frames.of in
    let fit = c.front_that_fits-front.ensures packets of in
    let front = c.front_that_fits-front.result in
    let frames = c.args.frames.now in
    let placed = c.place-end.new.room in
    let first = first_frames frames packets c.args.count front.count front.len of fit.some fit.bytes in
    let laid = laid_behind c.args.out.now placed (take front.len frames) c.args.at c.place-end.result c.requires.place c.place-end.ensures.end c.place-end.ensures.bytes in
    let end : c.args.at + front.len ≡ c.place-end.result = omega (arith, c.place-end.ensures.end, length-take front.len frames, first.short) in
    let long : length c.number.new.frames ≡ c.place-end.result - c.args.at = c.number.ensures.len ∙ ap length laid ∙ omega (arith, c.place-end.ensures.end) in
    drop-put_mid c.args.at (c.place-end.result - c.args.at) placed c.number.new.frames (c.args.at + front.len) (omega (arith, end)) (omega (arith, c.requires.place, c.place-end.ensures.len)) long
    ∙ ap (λ n. drop n placed) end ∙ c.place-end.ensures.behind ∙ ap (λ n. drop n c.args.out.now) (sym end)
