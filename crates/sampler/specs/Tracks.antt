-- What a sampler keeps of one DAQ list, as its history and decisions say it.
use Rattle.std.specs.Prelude.{ℕ, ◌+◌, ◌-◌, ◌%◌, Bool, not, List, length, if◌then◌else◌, count_by}
use Rattle.std.specs.Prelude.{nat_eq}
use Rattle.std.specs.Prelude.{Option, Some, None}
use Rattle.copy_plan.specs.Config.{ListPlan}
use Rattle.sampler.specs.History.{Event, Opening, is_list_of, is_trigger, runs_after}
use Rattle.sampler.specs.History.{triggers_since_start}
use Rattle.sampler.specs.Past.{Past}
use Rattle.sampler.specs.Decisions.{Decided, decided, pairs_of, overload_pending}
use Rattle.sampler.specs.declared.track.TheConstants.{NEVER}
use Rattle.sampler.specs.declared.track.Track.{Track}
use Rattle.sampler.specs.declared.counts.ListCounts.{ListCounts}

-- of the decided pairs of one list: how many there are, how many samples were accepted and how many
-- dropped
unfoldable pub counts_of : List Decided → ListCounts
counts_of pairs = record {
  due = length pairs;
  accepted = count_by (λ (pair : Decided). pair.1) pairs;
  dropped = count_by (λ (pair : Decided). not pair.1) pairs;
}

-- the counts of list l, if it is of the channel
abbrev pub counts_after : Past → ℕ → Option ListCounts
counts_after past l =
    let pairs = decided past.opening past.history past.decisions in
    if is_list_of past.opening l then Some (counts_of (pairs_of l pairs)) else None

-- how many triggers pass from so many since its start until a list of this prescaler is due: none
-- if these are a multiple of it, else what is missing to the next
abbrev pub until_due : ℕ → ℕ → ℕ
until_due prescaler since =
    if nat_eq (since % prescaler) 0 then 0 else prescaler - since % prescaler

-- the trigger at which a list is due next, counted from 0, if it isn't stopped or started
-- before; NEVER if it does not run
unfoldable pub next_after : Opening → List Event → ListPlan → ℕ
next_after opening h plan =
    if runs_after opening h plan.list then
    count_by is_trigger h + until_due plan.prescaler (triggers_since_start h plan.list)
    else NEVER

-- what is kept of a list
unfoldable pub track_of : Opening → List Event → List Bool → ListPlan → Track
track_of opening h d plan = record {
  running = runs_after opening h plan.list;
  next = next_after opening h plan;
  pending = overload_pending (decided opening h d) plan.list;
  counts = counts_of (pairs_of plan.list (decided opening h d));
}
