use Rattle.std.proofs.Common.{◌+◌, ◌-◌, ◌++◌, length, take, drop, ap, ◌∙◌, arith}
use borrow.Rule.Slice.PartMut.{put_mid}
use Rattle.std.proofs.lemmas.Slice.{take-put_mid}
use Rattle.frame_page.proofs.QueueLemmas.{waits_more}
use Rattle.frame_page.proofs.block_queue.push_behind.Goals as goal

pub returns-clause-all : goal.returns-clause-all
returns-clause-all c =
    let first = c.make_room-first.result in
    let len = c.args.len in
    let n = length c.args.more.now in
    let xs = c.make_room-first.new.blocks in
    let ys = c.copy_from_slice.new.self in
    let end = first + len in
    waits_more first len n (put_mid end (end + n - end) xs ys) xs ys (omega (arith, c.make_room-first.ensures.room))
    (take-put_mid end (end + n - end) xs ys (end + n) (omega (arith, ap length c.copy_from_slice.ensures.after)) (omega (arith, c.make_room-first.ensures.room)))
    ∙ ap (λ zs. zs ++ ys) c.make_room-first.ensures.stay ∙ ap (λ zs. take len (drop c.args.start c.args.blocks.now) ++ zs) c.copy_from_slice.ensures.after
