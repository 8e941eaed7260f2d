use Rattle.std.proofs.Common.{drop, sym, take}
use Rattle.rtrb.specs.Ring.{known_items}
use Rattle.byte_ring.specs.Fronts.{part}
use Rattle.byte_ring.specs.Reading.{items_in}
use Rattle.byte_ring.proofs.FrontLemmas.{the_first}
use Rattle.byte_ring.proofs.byte_take.ByteTakeItemTake.first.Goals as goal

-- the item whose record stands first
pub returns : goal.returns
returns c =
    let s = c.args.self.now in
    let ahead = take s.front.ahead (known_items s.consumer) in
    record { first = (items_in (drop 1 ahead), sym (the_first s.front.item (part s.front) ahead (s.ready.first c.requires))) }
