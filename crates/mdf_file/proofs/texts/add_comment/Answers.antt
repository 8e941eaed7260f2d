use Rattle.std.proofs.Common.{codes, refl, arith}
use Rattle.mdf_file.proofs.TextLemmas.{adds_text}
use Rattle.mdf_file.proofs.texts.add_comment.Goals as goal

-- the text was appended, and has no byte of 0
pub returns : goal.returns
returns c =
    adds_text c.args.base _ (codes "##MD") c.args.out.now.items c.push_comment.new.out.items
    c.args.text.now refl c.requires.some c.in_ok-place.ensures c.requires.aligned
    c.in_ok-check.ensures (omega arith) c.in_ok-push_comment.ensures.ok
