use Rattle.std.proofs.Common.{arith, refl}
use Rattle.mdf_file.proofs.FileLemmas.{history_behind}
use Rattle.mdf_file.proofs.history.add_history.Goals as goal

-- the block stands behind the comment
pub returns : goal.returns
returns c =
    history_behind c.args.base _ c.args.out.now.items c.add_comment.new.out.items
    c.push_file_history.new.out.items
    (record { next = 0; comment = c.in_ok-comment.comment; time = c.args.time })
    c.args.comment.now c.requires.some c.in_ok-place.ensures refl (omega arith)
    c.read_time.ensures c.in_ok-comment.ensures c.in_ok-push_file_history.ensures.ok
