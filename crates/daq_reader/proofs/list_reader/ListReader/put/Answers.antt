use Rattle.std.proofs.Common.{◌∙◌, ◌+◌, ◌<◌, ◌++◌, ◌∷◌, [], ℕ, List, ap, arith, map, sym, vec_items}
use Rattle.std.specs.Prelude.{All}
use Rattle.std.proofs.lemmas.List.{length-map}
use Rattle.std.proofs.lemmas.List.Elements.{All-from_get_or}
use Rattle.daq_reader.specs.Inner.Places.{reading_in}
use Rattle.daq_reader.specs.Reading.{Reading, under_way}
use Rattle.daq_reader.proofs.FieldLemmas.{len_is}
use Rattle.daq_reader.proofs.PlaceLemmas.{awaited_there, place_len, places_count, put_reader, taken_one_more}
use Rattle.daq_reader.proofs.list_reader.ListReader.put.Goals as goal

-- the place that is awaited is there
pub fill_place-requires-clause-there : goal.fill_place-requires-clause-there
fill_place-requires-clause-there c =
    let places : List (List ℕ) = map vec_items c.self.inside.places.items in
    let at = rw (← c.self.view_is) at c.requires.awaited in
    omega (arith, awaited_there c.self.inside.shape c.self.inside.taken c.args.k places c.self.invariant at, places_count c.self.inside.shape places c.self.invariant.there, length-map c.self.inside.places.items vec_items)

-- it has the length of the packet
pub fill_place-requires-clause-long : goal.fill_place-requires-clause-long
fill_place-requires-clause-long c =
    let places : List (List ℕ) = map vec_items c.self.inside.places.items in
    let at = rw (← c.self.view_is) at c.requires.awaited in
    let none = rw (← c.self.view_is) at c.requires.fits in
    len_is c.self.inside.shape c.args.k c.args.packet.now none
    ∙ sym (place_len c.self.inside.shape places c.args.k c.self.invariant.there (awaited_there c.self.inside.shape c.self.inside.taken c.args.k places c.self.invariant at))

-- the packets that wait and one that fits
pub invariant_of-self : goal.invariant_of-self
invariant_of-self c =
    let small : All (λ (b : ℕ). b < 256) c.args.packet.now = All-from_get_or (λ (b : ℕ). b < 256) c.args.packet.now 0 (λ k h. (c.type_inv.packet k).fits) in
    let at = rw (← c.self.view_is) at c.requires.awaited in
    let none = rw (← c.self.view_is) at c.requires.fits in
    rw c.fill_place.ensures (put_reader c.self.inside.shape c.self.inside.taken c.args.k (map vec_items c.self.inside.places.items) c.args.packet.now c.self.invariant at small none)

pub returns : goal.returns
returns c =
    let a : Reading = reading_in c.self.inside.shape c.self.inside.taken (map vec_items c.self.inside.places.items) in
    let at = rw (← c.self.view_is) at c.requires.awaited in
    let one_more = taken_one_more c.self.inside.shape c.self.inside.taken c.args.k (map vec_items c.self.inside.places.items) c.args.packet.now c.self.invariant at in
    ap (reading_in c.self.inside.shape (c.args.k + 1)) c.fill_place.ensures
    ∙ ap (λ (qs : List (List ℕ)). record a { packets = qs }) one_more
    ∙ ap (λ (b : Reading). record b { packets = under_way b ++ c.args.packet.now ∷ [] }) c.self.view_is
