-- One trigger, list by list, by what the sampler keeps.
use Rattle.std.specs.Prelude.{◌≡◌, ℕ, ◌+◌, ◌<◌, ◌≤◌, nat_eq, if◌then◌else◌}
use Rattle.std.specs.Prelude.{Bool, true, false, not, ◌&&◌, ◌||◌}
use Rattle.std.specs.Prelude.{List, [], ◌∷◌, ◌++◌, length, map, take, drop}
use Rattle.std.specs.List.{list_any}
use Rattle.xcp_base.specs.declared.item.Item.{Item}
use Rattle.xcp_base.specs.declared.item.Item.TheVariants.{Sample}
use Rattle.channel_ring.specs.Room.{units}
use Rattle.channel_ring.specs.declared.ends.SendEnd.{Ghosts as SendGhosts}
use Rattle.channel_ring.specs.declared.ends.RingEnd.{Ghosts as EndGhosts}
use Rattle.copy_plan.specs.Config.{ListPlan}
use Rattle.copy_plan.specs.Packet.{packets}
use Rattle.xcp_base.specs.Lists.{has_list}
use Rattle.sampler.specs.Inner.Moments.{MomentParts}
use Rattle.sampler.specs.declared.track.Track.{Track}
use Rattle.sampler.specs.declared.taken.Taken.{Taken}

-- a list at a trigger: its plan, what was kept of it before, whether it was due, and whether a
-- sample of it was accepted
pub record Row : Type 0 where
  pub plan : ListPlan
  pub track : Track
  pub due : Bool
  pub accepted : Bool

-- the same of these
abbrev pub row_of : ListPlan → Track → Bool → Bool → Row
row_of plan track due accepted =
    record { plan = plan; track = track; due = due; accepted = accepted }

-- the list is due at a trigger of this number
abbrev pub due_now : ℕ → Track → Bool
due_now trigger track = track.running && nat_eq track.next trigger

-- the list of the row was due
abbrev pub row_due : Row → Bool
row_due row = row.due

-- the lists of some rows were due if what was kept of them says so
abbrev pub AreDue : ℕ → List Row → Type 0
AreDue trigger [] = Unit {0}
AreDue trigger (row ∷ rows) = (row.due ≡ due_now trigger row.track) × AreDue trigger rows

-- and its sample was accepted
abbrev pub row_accepted : Row → Bool
row_accepted row = row.due && row.accepted

-- and its sample was dropped
abbrev pub row_dropped : Row → Bool
row_dropped row = row.due && not row.accepted

-- some row of list l passes
abbrev pub any_row : (Row → Bool) → ℕ → List Row → Bool
any_row test l rows = list_any (λ (row : Row). test row && nat_eq row.plan.list l) rows

-- the sample of a list, by the number of samples accepted before it and by whether it is marked
unfoldable pub item_of : MomentParts → ListPlan → ℕ → Bool → Item
item_of m plan number marked = Sample (record {
  channel = m.channel;
  list = plan.list;
  number = number;
  packets = packets plan m.image m.stamp marked;
})

-- what is kept of a list after the trigger, at which it was due or not
unfoldable pub triggered : ListPlan → Track → Bool → Bool → Track
triggered plan track due accepted = record {
  running = track.running;
  next = if due then track.next + plan.prescaler else track.next;
  pending = if due then not accepted else track.pending;
  counts = record {
    due = track.counts.due + (if due then 1 else 0);
    accepted = track.counts.accepted + (if due && accepted then 1 else 0);
    dropped = track.counts.dropped + (if due && not accepted then 1 else 0);
  };
}

-- and so of the list of a row
abbrev pub row_after : Row → Track
row_after row = triggered row.plan row.track row.due row.accepted

-- what one list sends
unfoldable pub row_items : MomentParts → ℕ → Row → List Item
row_items m number row =
    if row_accepted row then item_of m row.plan number row.track.pending ∷ [] else []

-- how many samples one list sends
abbrev pub row_count : Row → ℕ
row_count row = if row_accepted row then 1 else 0

-- what the lists send, if the first has this number
unfoldable pub rows_items : MomentParts → ℕ → List Row → List Item
rows_items m number [] = []
rows_items m number (row ∷ rows) =
    row_items m number row ++ rows_items m (number + row_count row) rows

-- how many samples they send
unfoldable pub rows_count : List Row → ℕ
rows_count [] = 0
rows_count (row ∷ rows) = row_count row + rows_count rows

-- the sets with one list added if it was due
pub record Adds (old new : Taken) (row : Row) : Type 0 where
  pub due :
      (l : ℕ)
      → has_list new.due l ≡ (has_list old.due l || (row_due row && nat_eq row.plan.list l))
  pub accepted :
      (l : ℕ)
      → has_list new.accepted l
      ≡ (has_list old.accepted l || (row_accepted row && nat_eq row.plan.list l))
  pub dropped :
      (l : ℕ)
      → has_list new.dropped l
      ≡ (has_list old.dropped l || (row_dropped row && nat_eq row.plan.list l))

-- how far a trigger has come: the send end, what is kept of the lists, the sets so far, and the
-- next sample's number
pub record Stage (S : Type 0) : Type 0 where
  pub end : S
  pub tracks : List Track
  pub taken : Taken
  pub next : ℕ

-- none has had its turn
abbrev pub first_stage : {S : Type 0} → S → List Track → ℕ → Stage S
first_stage end tracks number = record {
  end = end;
  tracks = tracks;
  taken = record { due = 0; accepted = 0; dropped = 0 };
  next = number;
}

-- a sample is dropped only if its cost, with those sent before it, is over what was known to be
-- free at the first
abbrev pub DropsOverFree :
    {S E : Type 0} → SendGhosts S E → EndGhosts E → MomentParts → Stage S → List Row → Type 0
DropsOverFree send ring m first rows =
    (done rest : List Row) (row : Row) → rows ≡ done ++ row ∷ rest
    → row.due ≡ true → row.accepted ≡ false
    → send.free first.end < units ring.cost (rows_items m first.next done)
    + ring.cost (item_of m row.plan (first.next + rows_count done) row.track.pending)

-- the lists of these plans were handled in order, from one stage to another: there is a row for
-- each
pub record HandlesLists
    {S E : Type 0} (send : SendGhosts S E) (ring : EndGhosts E) (m : MomentParts)
    (plans : List ListPlan) (first last : Stage S)
    : Type 0 where
  -- fixed by `of_plans`, `kept`, `dues` and `accepted`
  pub rows : List Row
  pub of_plans : map (λ (row : Row). row.plan) rows ≡ plans
  pub kept : map (λ (row : Row). row.track) rows ≡ take (length plans) first.tracks
  pub dues : AreDue m.trigger rows
  pub keeps : last.tracks ≡ map row_after rows ++ drop (length plans) first.tracks
  pub count : last.next ≡ first.next + rows_count rows
  pub sends : send.sent last.end ≡ send.sent first.end ++ rows_items m first.next rows
  pub free :
      send.free first.end
      ≤ send.free last.end + units ring.cost (rows_items m first.next rows)
  pub over : DropsOverFree send ring m first rows
  pub due : (l : ℕ) → has_list last.taken.due l ≡ any_row row_due l rows
  pub accepted : (l : ℕ) → has_list last.taken.accepted l ≡ any_row row_accepted l rows
  pub dropped : (l : ℕ) → has_list last.taken.dropped l ≡ any_row row_dropped l rows
