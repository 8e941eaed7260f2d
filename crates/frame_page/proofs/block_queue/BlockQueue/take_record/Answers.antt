use Rattle.std.proofs.Common.{◌≡◌, ℕ, ◌+◌, List, ◌++◌, length, take, drop, refl, sym, ap, ◌∙◌, subst, arith}
use Rattle.std.proofs.lemmas.List.{with_items_is}
use Rattle.frame_ring.specs.Ends.{TakesFirst}
use Rattle.frame_ring.specs.States.{take_state}
use Rattle.frame_page.specs.Queue.{QueueState}
use Rattle.frame_page.proofs.QueueLemmas.{gained, waits_gained}
use Rattle.frame_page.proofs.block_queue.BlockQueue.take_record.Goals as goal
use Rattle.frame_page.proofs.block_queue.BlockQueue.take_record.Goals.{After-take_into}

same : (all more : List (List ℕ)) (room count : ℕ) → all ≡ more → room ≡ count → ◌≡◌ {A = QueueState} (record { all = all; room = room }) (record { all = more; room = count })
same all more room count e f = rw (e, f) refl

-- the ring is handed the blocks with room behind those that wait
page_is : (c : After-take_into) → c.replace-blocks.result.items ≡ c.make_room-self-inside.new.blocks
page_is c =
    ap (λ v. v.items) c.replace-blocks.ensures.value
    ∙ with_items_is c.self.inside.blocks c.make_room-self-inside.new.blocks (c.make_room-self-inside.ensures.len ∙ c.deref_mut.ensures.len)

-- the record stands behind what waited
joined : (c : After-take_into)
    → take (c.self.inside.len + c.args.count) (drop c.make_room-self-inside.result c.take_into.result.items)
    ≡ take c.self.inside.len (drop c.self.inside.start c.self.inside.blocks.items) ++ take c.args.count (drop (c.make_room-self-inside.result + c.self.inside.len) c.take_into.result.items)
joined c =
    let q = c.self.inside in
    let first = c.make_room-self-inside.result in
    let made = c.make_room-self-inside.new.blocks in
    let now = c.take_into.result.items in
    let value = c.deref_mut.ensures.value in
    let page : c.replace-blocks.result.items ≡ made = page_is c in
    waits_gained first q.len c.args.count now made (omega (arith, c.make_room-self-inside.ensures.room)) (c.take_into.ensures.front ∙ ap (take (first + q.len)) page)
    ∙ ap (λ zs. zs ++ take c.args.count (drop (first + q.len) now)) (c.make_room-self-inside.ensures.stay ∙ ap (λ b. take q.len (drop q.start b)) value)

-- what waited is what contracts see of it
before : (c : After-take_into) → take c.self.inside.len (drop c.self.inside.start c.self.inside.blocks.items) ≡ c.args.self.now.all
before c = ap (λ (q : QueueState). q.all) c.self.view_is

pub returns-clause-takes : goal.returns-clause-takes
returns-clause-takes c =
    let w = (goal.at.returns-clause-takes c).After-take_into in
    let old = c.args.self.now.all in
    let popped = take c.args.count (drop (c.make_room-self-inside.result + c.self.inside.len) c.take_into.result.items) in
    let all = take (c.self.inside.len + c.args.count) (drop c.make_room-self-inside.result c.take_into.result.items) in
    let behind : drop (length old) all ≡ popped = gained old popped all (joined w ∙ ap (λ zs. zs ++ popped) (before w)) in
    subst (TakesFirst (take_state c.args.ring.now) (take_state c.take_into.new.self)) (sym behind) c.take_into.ensures.takes

pub returns-clause-rest : goal.returns-clause-rest
returns-clause-rest c =
    let w = (goal.at.returns-clause-rest c).After-take_into in
    let old = c.args.self.now.all in
    let popped = take c.args.count (drop (c.make_room-self-inside.result + c.self.inside.len) c.take_into.result.items) in
    let all = take (c.self.inside.len + c.args.count) (drop c.make_room-self-inside.result c.take_into.result.items) in
    let is : all ≡ old ++ popped = joined w ∙ ap (λ zs. zs ++ popped) (before w) in
    let long : length c.take_into.result.items ≡ c.args.self.now.room =
    c.take_into.ensures.len ∙ ap length (page_is w) ∙ c.make_room-self-inside.ensures.len ∙ ap length c.deref_mut.ensures.value ∙ ap (λ (q : QueueState). q.room) c.self.view_is in
    let more : all ≡ old ++ drop (length old) all = is ∙ ap (λ zs. old ++ zs) (sym (gained old popped all is)) in
    same all _ _ _ more long
