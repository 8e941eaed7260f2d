use Rattle.std.proofs.Common.{◌≡◌, ◌+◌, ◌-◌, ◌≤◌, length, take, drop, ap, subst, arith}
use Rattle.std.proofs.lemmas.List.{length-take}
use Rattle.frame_page.specs.Queue.{QueueState}
use Rattle.frame_page.proofs.QueueLemmas.{waits_behind}
use Rattle.frame_page.proofs.block_queue.BlockQueue.let_go.Goals as goal

pub returns : goal.returns
returns c =
    let q = c.self.inside in
    let n = c.args.count in
    let few : n ≤ q.len = omega (arith, c.requires, ap (λ (s : QueueState). length s.all) c.self.view_is, length-take q.len (drop q.start q.blocks.items)) in
    subst (λ (old : QueueState). ◌≡◌ {A = QueueState} (record { all = take (q.len - n) (drop (q.start + n) q.blocks.items); room = length q.blocks.items }) (record old { all = drop n old.all })) c.self.view_is
    (ap (λ all. record { all = all; room = length q.blocks.items }) (waits_behind q.start q.len n q.blocks.items few))
