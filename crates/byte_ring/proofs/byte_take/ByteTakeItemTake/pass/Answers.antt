use Rattle.std.proofs.Common.{◌<◌, ◌∙◌, List, [], ◌∷◌, ◌++◌, ap, length, sym, subst, ℕ}
use Rattle.rtrb.specs.Ring.{received}
use Rattle.xcp_base.specs.declared.item.Item.{Item}
use Rattle.byte_ring.specs.Fronts.{part, place_of}
use Rattle.byte_ring.specs.Reading.{items_in}
use Rattle.byte_ring.proofs.FrontLemmas.{LetGo, an_item_is_let_go, counts_one_more, none_held, nothing_ready, pulls_keep, still_held}
use Rattle.byte_ring.proofs.byte_take.ByteTakeItemTake.pass.Goals as goal

pub read-requires-clause-none : goal.read-requires-clause-none
read-requires-clause-none c = none_held (received c.args.self.now.consumer) (part c.args.self.now.front) c.args.self.now.held

-- the item that is ready then is let go
goes : (c : goal.After-let_go) → LetGo (place_of c.read.new.consumer c.read.new.front) (place_of c.let_go.new.consumer c.let_go.new.front) c.read.new.front.item
goes c =
    let s = c.args.self.now in
    let k = c.read.new.consumer in
    let f = c.read.new.front in
    let e = c.read.ensures in
    let same = ap (λ (b : List ℕ). length (items_in b)) (pulls_keep (place_of s.consumer s.front) (place_of k f) e.pulls) in
    let some = subst (λ n. 0 < n) same c.requires.some in
    let still = still_held (place_of s.consumer s.front) (place_of k f) s.held e.pulls e.none in
    let l = c.let_go.ensures in
    an_item_is_let_go (place_of k f) (place_of c.let_go.new.consumer c.let_go.new.front) f.item still.held (e.ready.first (sym e.is ∙ e.value.1 some)) l.popped l.ahead l.part

pub invariant_of-self : goal.invariant_of-self
invariant_of-self c =
    let s = c.args.self.now in
    let g = goes c in
    let still = still_held (place_of s.consumer s.front) (place_of c.read.new.consumer c.read.new.front) s.held c.read.ensures.pulls c.read.ensures.none in
    let received_then = g.received ∙ ap (λ (xs : List Item). xs ++ c.read.new.front.item ∷ []) still.same in
    record {
      held = g.held;
      ready = nothing_ready c.let_go.new.consumer c.let_go.new.front c.let_go.ensures.there c.let_go.ensures.not_ready;
      counted = counts_one_more s.count (items_in (received s.consumer)) (items_in (received c.let_go.new.consumer)) c.read.new.front.item s.counted received_then;
    }

pub returns-clause-passes : goal.returns-clause-passes
returns-clause-passes c =
    let s = c.args.self.now in
    let g = goes c.before in
    let still = still_held (place_of s.consumer s.front) (place_of c.read.new.consumer c.read.new.front) s.held c.read.ensures.pulls c.read.ensures.none in
    let same = ap items_in (pulls_keep (place_of s.consumer s.front) (place_of c.read.new.consumer c.read.new.front) c.read.ensures.pulls) in
    record {
      item = c.read.new.front.item;
      was_first = same ∙ g.known;
      taken = g.received ∙ ap (λ (xs : List Item). xs ++ c.read.new.front.item ∷ []) still.same;
    }
