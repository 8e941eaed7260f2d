-- What the sampler of a channel sends: the items of its history and decisions.
use Rattle.std.specs.Prelude.{ℕ, Bool, false, None, Some, if◌then◌else◌}
use Rattle.std.specs.Prelude.{List, [], ◌∷◌, length, take, slice_index_or, flat_map, filter_map}
use Rattle.std.specs.List.{enumerate_from}
use Rattle.copy_plan.specs.Config.{ListPlan}
use Rattle.copy_plan.specs.Packet.{packets}
use Rattle.xcp_base.specs.declared.item.Item.{Item}
use Rattle.xcp_base.specs.declared.item.Item.TheVariants.{Sample, Marker}
use Rattle.sampler.specs.History.{Event, Trigger, Start, Stop, Opening, due, due_at, with_past}
use Rattle.sampler.specs.Decisions.{overload_bit, accepted_in}

-- the sample of pair j, of this list, made of this image and timestamp
unfoldable pub sample : Opening → List Event → List Bool → ℕ → ListPlan → List ℕ → ℕ → Item
sample opening h d j plan image stamp = Sample (record {
  channel = opening.channel;
  list = plan.list;
  number = accepted_in (take j d);
  packets = packets plan image stamp (overload_bit opening h d j);
})

-- the samples of the pairs from number j on, of these plans, whose decision is true
unfoldable pub samples_from :
    Opening → List Event → List Bool → ℕ → List ListPlan → List ℕ → ℕ → List Item
samples_from opening h d j plans image stamp =
    filter_map
    (λ (pair : ℕ × ListPlan).
    if slice_index_or d pair.0 false then
    Some (sample opening h d pair.0 pair.1 image stamp)
    else None)
    (enumerate_from j plans)

-- the stop marker of list l
abbrev pub marker_of : ℕ → ℕ → Item
marker_of channel l = Marker (record { channel = channel; list = l })

-- the items of an event that follows past: a trigger's accepted samples, the marker of a stop,
-- nothing of a start
unfoldable pub items_at : Opening → List Event → List Bool → List Event × Event → List Item
items_at opening h d (past, Trigger image stamp) =
    let plans = due_at opening past (Trigger image stamp) in
    samples_from opening h d (length (due opening past)) plans image stamp
items_at opening h d (past, Start l) = []
items_at opening h d (past, Stop l) = marker_of opening.channel l ∷ []

-- all items of a history, by its decisions
unfoldable pub items : Opening → List Event → List Bool → List Item
items opening h d = flat_map (items_at opening h d) (with_past [] h)
