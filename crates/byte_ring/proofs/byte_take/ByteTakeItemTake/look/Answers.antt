use Rattle.std.proofs.Common.{◌%◌, ◌^◌, ◌++◌, ◌∙◌, List, ap, length, subst, sym, ℕ}
use Rattle.rtrb.specs.Ring.{known_items, received}
use Rattle.xcp_base.specs.declared.item.Item.{Item}
use Rattle.byte_ring.specs.Fronts.{part, place_of}
use Rattle.byte_ring.specs.Held.{IsHeld}
use Rattle.byte_ring.specs.Places.{place}
use Rattle.byte_ring.specs.Reading.{items_in}
use Rattle.byte_ring.proofs.FrontLemmas.{known_grows, none_held, pulls_keep, still_held}
use Rattle.byte_ring.proofs.byte_take.ByteTakeItemTake.look.Goals as goal

pub read-requires-clause-none : goal.read-requires-clause-none
read-requires-clause-none c = none_held (received c.args.self.now.consumer) (part c.args.self.now.front) c.args.self.now.held

-- a part of a record was popped at most
pub invariant_of-self : goal.invariant_of-self
invariant_of-self c =
    let s = c.args.self.now in
    let still = still_held (place_of s.consumer s.front) (place_of c.read.new.consumer c.read.new.front) s.held c.read.ensures.pulls c.read.ensures.none in
    record { held = still.held; ready = c.read.ensures.ready; counted = s.counted ∙ ap (λ (xs : List Item). length xs % 2 ^ 64) (sym still.same) }

pub returns-then-read-clause-received_stays : goal.returns-then-read-clause-received_stays
returns-then-read-clause-received_stays c =
    let s = c.args.self.now in
    (still_held (place_of s.consumer s.front) (place_of c.read.new.consumer c.read.new.front) s.held c.read.ensures.pulls c.read.ensures.none).same

-- and of what the look showed
pub invariant_of-self-3 : goal.invariant_of-self-3
invariant_of-self-3 c =
    let s = c.args.self.now in
    let t = c.slots-self.new.self in
    let f = c.read.new.front in
    let still = still_held (place_of s.consumer s.front) (place_of c.read.new.consumer f) s.held c.read.ensures.pulls c.read.ensures.none in
    let seen = c.slots-self.ensures.looked.1 in
    let again = still_held (place t c.slots-self.result (part f)) (place_of c.read-2.new.consumer c.read-2.new.front) (subst (λ l. IsHeld l (part f)) (sym seen) still.held) c.read-2.ensures.pulls c.read-2.ensures.none in
    record {
      held = again.held;
      ready = c.read-2.ensures.ready;
      counted = s.counted ∙ ap (λ (xs : List Item). length xs % 2 ^ 64) (sym (again.same ∙ ap items_in seen ∙ still.same));
    }

pub returns-clause-received_stays : goal.returns-clause-received_stays
returns-clause-received_stays c =
    let s = c.args.self.now in
    let t = c.slots-self.new.self in
    let f = c.read.new.front in
    let still = still_held (place_of s.consumer s.front) (place_of c.read.new.consumer f) s.held c.read.ensures.pulls c.read.ensures.none in
    let seen = c.slots-self.ensures.looked.1 in
    let again = still_held (place t c.slots-self.result (part f)) (place_of c.read-2.new.consumer c.read-2.new.front) (subst (λ l. IsHeld l (part f)) (sym seen) still.held) c.read-2.ensures.pulls c.read-2.ensures.none in
    again.same ∙ ap items_in seen ∙ still.same

-- more bytes may be there
pub returns-clause-grows : goal.returns-clause-grows
returns-clause-grows c =
    let s = c.args.self.now in
    let t = c.slots-self.new.self in
    let k = c.read.new.consumer in
    let f = c.read.new.front in
    let l = c.slots-self.ensures.looked.2 in
    let first = pulls_keep (place_of s.consumer s.front) (place_of k f) c.read.ensures.pulls in
    let more = known_grows f.ahead c.slots-self.result (part f) (known_items k) l.0 (known_items t) l.1 c.slots-self.ensures.value in
    let again = pulls_keep (place t c.slots-self.result (part f)) (place_of c.read-2.new.consumer c.read-2.new.front) c.read-2.ensures.pulls in
    (more.0, ap (λ (b : List ℕ). items_in b ++ more.0) first ∙ more.1 ∙ ap items_in again)
