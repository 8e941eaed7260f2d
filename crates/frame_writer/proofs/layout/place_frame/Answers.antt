use Rattle.std.proofs.Common.{◌∙◌, length, drop, sym, ap}
use Rattle.std.proofs.lemmas.List.{drop-drop}
use Rattle.frame_writer.proofs.layout.place_frame.Goals as goal

-- what is behind the packet was behind the header
pub returns-clause-behind : goal.returns-clause-behind
returns-clause-behind c =
    let n = length c.args.packet.now in
    let at = c.place-body.result in
    let old = c.args.room.now in
    let mid = c.place-body.new.room in
    c.place.ensures.behind ∙ ap (λ k. drop k mid) c.place.ensures.end ∙ sym (drop-drop n at mid) ∙ ap (drop n) c.place-body.ensures.behind ∙ drop-drop n at old
    ∙ ap (λ k. drop k old) (sym c.place.ensures.end)
