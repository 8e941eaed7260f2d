-- What the slave's thread did with the ring of one event channel: the orders that it sent to the
-- channel's task, the items that it took, and what became of those that it laid out.
use Rattle.std.specs.Prelude.{ℕ, ◌-◌, Bool, true, false, ◌&&◌, not, nat_eq, nat_lt}
use Rattle.std.specs.Prelude.{if◌then◌else◌}
use Rattle.std.specs.Prelude.{List, [], ◌∷◌, ◌++◌, find, count_by, Option, Some, None}
use Rattle.xcp_base.specs.Samples.{SampleParts}
use Rattle.xcp_base.specs.declared.item.Item.{Item}
use Rattle.xcp_base.specs.declared.item.Item.TheVariants.{Sample, Marker}
use Rattle.transmitter.specs.Items.{count_of}

-- a list was ordered to start or to stop, an item was taken off the ring, or a sample of a list
-- that was laid out was thrown away before it was sent
pub data Deed : Type 0 where
  Started : (list : ℕ) → Deed
  Stopped : (list : ℕ) → Deed
  Took : (item : Item) → Deed
  Unsent : (list : ℕ) → Deed

-- In each definition below the deeds are those so far, the newest first.

abbrev pub is_order_of : ℕ → Deed → Bool
is_order_of l (Started k) = nat_eq k l
is_order_of l (Stopped k) = nat_eq k l
is_order_of l (Took x) = false
is_order_of l (Unsent k) = false

abbrev pub is_stop_of : ℕ → Deed → Bool
is_stop_of l (Started k) = false
is_stop_of l (Stopped k) = nat_eq k l
is_stop_of l (Took x) = false
is_stop_of l (Unsent k) = false

abbrev pub is_mark_of : ℕ → Deed → Bool
is_mark_of l (Started k) = false
is_mark_of l (Stopped k) = false
is_mark_of l (Took (Sample s)) = false
is_mark_of l (Took (Marker m)) = nat_eq m.list l
is_mark_of l (Unsent k) = false

abbrev pub is_unsent_of : ℕ → Deed → Bool
is_unsent_of l (Started k) = false
is_unsent_of l (Stopped k) = false
is_unsent_of l (Took x) = false
is_unsent_of l (Unsent k) = nat_eq k l

abbrev pub is_start : Option Deed → Bool
is_start None = false
is_start (Some (Started k)) = true
is_start (Some (Stopped k)) = false
is_start (Some (Took x)) = false
is_start (Some (Unsent k)) = false

-- list l runs: its last order is a start
abbrev pub runs : List Deed → ℕ → Bool
runs deeds l = is_start (find (is_order_of l) deeds)

-- how many stops of list l were ordered, and how many of its stop markers were taken
abbrev pub stops_of : List Deed → ℕ → ℕ
stops_of deeds l = count_by (is_stop_of l) deeds

abbrev pub marks_of : List Deed → ℕ → ℕ
marks_of deeds l = count_by (is_mark_of l) deeds

-- a sample of list l that is taken next is laid out: the list runs, and as many of its stop markers
-- were taken as stops of it were ordered. So it isn't one from before a stop
abbrev pub passes : List Deed → ℕ → Bool
passes deeds l = runs deeds l && not (nat_lt (marks_of deeds l) (stops_of deeds l))

-- the items that were taken, oldest first
abbrev pub taken : List Deed → List Item
taken [] = []
taken (Started k ∷ deeds) = taken deeds
taken (Stopped k ∷ deeds) = taken deeds
taken (Took x ∷ deeds) = taken deeds ++ x ∷ []
taken (Unsent k ∷ deeds) = taken deeds

-- the samples that were laid out, oldest first
abbrev pub passed : List Deed → List SampleParts
passed [] = []
passed (Started k ∷ deeds) = passed deeds
passed (Stopped k ∷ deeds) = passed deeds
passed (Took (Sample s) ∷ deeds) =
    if passes deeds s.list then passed deeds ++ s ∷ [] else passed deeds
passed (Took (Marker m) ∷ deeds) = passed deeds
passed (Unsent k ∷ deeds) = passed deeds

-- how many samples of list l were thrown away before they were sent
abbrev pub unsent_of : List Deed → ℕ → ℕ
unsent_of deeds l = count_by (is_unsent_of l) deeds

-- how many were written: they were laid out, and not thrown away
abbrev pub written_by : List Deed → ℕ → ℕ
written_by deeds l = count_of l (passed deeds) - unsent_of deeds l
