use Rattle.std.proofs.Common.{◌≡◌, ◌∙◌, ℕ, List, length, map, subst, sym, vec_items}
use Rattle.daq_reader.specs.Inner.Cut.{recorded_in}
use Rattle.daq_reader.specs.Inner.Fitting.{IsWhole}
use Rattle.daq_reader.specs.Inner.Places.{reading_in}
use Rattle.daq_reader.specs.Reading.{Reading}
use Rattle.daq_reader.specs.Recorded.{AreOf}
use Rattle.daq_reader.proofs.PlaceLemmas.{places_whole, taken_count, whole_sample}
use Rattle.daq_reader.proofs.ReadingLemmas.{whole_len}
use Rattle.daq_reader.proofs.RecordedLemmas.{are_of}
use Rattle.daq_reader.proofs.list_reader.ListReader.sample.Goals as goal
use Rattle.daq_reader.proofs.list_reader.ListReader.sample.Goals.{After-as_slice}

-- each ODT has its packet
all_taken : (c : After-as_slice) → c.self.inside.taken ≡ length c.self.inside.shape.odts
all_taken c =
    let places : List (List ℕ) = map vec_items c.self.inside.places.items in
    let whole = rw (← c.self.view_is) at (sym c.is_whole.ensures ∙ c.if-not-is_whole.false) in
    sym (taken_count c.self.inside.shape c.self.inside.taken places c.self.invariant) ∙ whole_len (reading_in c.self.inside.shape c.self.inside.taken places) whole

all_there : (c : After-as_slice) → IsWhole c.self.inside.shape (map vec_items c.self.inside.places.items)
all_there c = whole_sample c.self.inside.shape c.self.inside.taken (map vec_items c.self.inside.places.items) c.self.invariant (all_taken c)

pub invariant_of-result : goal.invariant_of-result
invariant_of-result c = rw c.as_slice.ensures.value (all_there (goal.at.invariant_of-result c).After-as_slice)

-- the places are the packets that were taken
pub returns-clause-value : goal.returns-clause-value
returns-clause-value c =
    let w : After-as_slice = (goal.at.returns-clause-value c).After-as_slice in
    let shape = c.self.inside.shape in
    let places : List (List ℕ) = map vec_items c.self.inside.places.items in
    let there : IsWhole shape places = all_there w in
    let of : AreOf shape (recorded_in shape places) places = are_of shape places there.plan there.fit there.each there.all in
    rw c.as_slice.ensures.value (
    subst (λ (b : Reading). AreOf b.plan (recorded_in shape places) b.packets) c.self.view_is (
    subst (λ (qs : List (List ℕ)). AreOf shape (recorded_in shape places) qs) (sym (places_whole shape c.self.inside.taken places c.self.invariant (all_taken w))) of
    ))
