use Rattle.std.proofs.Common.{◌∙◌, List, [], ◌∷◌, ◌++◌, ap, sym, drop, take}
use Rattle.rtrb.specs.Ring.{known_items, received}
use Rattle.xcp_base.specs.declared.item.Item.{Item}
use Rattle.byte_ring.specs.Fronts.{known_of, place_of}
use Rattle.byte_ring.specs.Reading.{items_in}
use Rattle.byte_ring.proofs.FrontLemmas.{LetGo, an_item_is_let_go, counts_one_more, nothing_ready}
use Rattle.byte_ring.proofs.byte_take.ByteTakeItemTake.take.Goals as goal

-- the item that was found is let go
goes : (c : goal.After-let_go) → LetGo (place_of c.look.new.self.consumer c.look.new.self.front) (place_of c.let_go.new.consumer c.let_go.new.front) c.look.new.self.front.item
goes c =
    let s = c.look.new.self in
    let l = c.let_go.ensures in
    let o = c.take_out-item.ensures in
    let there = ap (λ n. take n (known_items s.consumer)) o.ahead in
    an_item_is_let_go (place_of s.consumer s.front) (place_of c.let_go.new.consumer c.let_go.new.front) s.front.item s.held (s.ready.first (c.look.ensures.reads c.if-not-look.false))
    (l.popped ∙ ap (λ b. received s.consumer ++ take 1 b) there) (l.ahead ∙ ap (drop 1) there) l.part

pub invariant_of-self : goal.invariant_of-self
invariant_of-self c =
    let s = c.look.new.self in
    let g = goes c in
    record {
      held = g.held;
      ready = nothing_ready c.let_go.new.consumer c.let_go.new.front c.let_go.ensures.there c.let_go.ensures.not_ready;
      counted = counts_one_more s.count (items_in (received s.consumer)) (items_in (received c.let_go.new.consumer)) s.front.item s.counted g.received;
    }

pub returns-clause-some : goal.returns-clause-some
returns-clause-some c =
    let s = c.look.new.self in
    let g = goes c.before in
    g.received ∙ ap (λ (xs : List Item). xs ++ s.front.item ∷ []) c.look.ensures.received_stays ∙ ap (λ x. items_in (received c.args.self.now.consumer) ++ x ∷ []) (sym c.take_out-item.ensures.item)

pub returns-clause-first : goal.returns-clause-first
returns-clause-first c =
    let g = goes c.before in
    let more = c.look.ensures.grows in
    (more.0, more.1 ∙ g.known ∙ ap (λ x. x ∷ known_of c.let_go.new.consumer c.let_go.new.front) (sym c.take_out-item.ensures.item))
