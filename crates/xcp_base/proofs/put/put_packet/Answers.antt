use Rattle.std.proofs.Common.{◌≡◌, ◌++◌, List, ℕ, take, ap, ◌∙◌, append_assoc}
use Rattle.xcp_base.specs.Copied.{copied_from}
use Rattle.xcp_base.proofs.put.put_packet.Goals as goal

-- three pieces written one behind another are written together
three_pieces : (front a b c : List ℕ) → ((front ++ a) ++ b) ++ c ≡ front ++ (a ++ (b ++ c))
three_pieces front a b c = simp append_assoc

pub returns-clause-front : goal.returns-clause-front
returns-clause-front c =
    let copied : List ℕ = copied_from c.args.memory c.args.stretches.now c.args.offsets.now in
    let head = c.put_by_size-2.ensures.front ∙ ap (λ bytes. bytes ++ c.args.stamp.now) c.put_by_size.ensures.front in
    c.put_copied.ensures.front ∙ ap (λ bytes. bytes ++ copied) head ∙ three_pieces (take c.args.from c.args.cells.now) c.args.field.now c.args.stamp.now copied
