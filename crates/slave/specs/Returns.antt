-- What came back of each event channel, beside what came over the line with its task.
use Rattle.std.specs.Prelude.{◌≡◌, ◌⊎◌, ℕ, nat_eq, if◌then◌else◌, List, [], ◌∷◌, ◌++◌, length, map}
use Rattle.std.specs.Prelude.{option_to_list}
use Rattle.copy_plan.specs.Config.{ListPlan}
use Rattle.sampler.specs.Decisions.{decided, pairs_of}
use Rattle.sampler.specs.History.{due}
use Rattle.sampler.specs.Items.{items}
use Rattle.sampler.specs.Past.{Past}
use Rattle.sampler.specs.Tracks.{counts_of}
use Rattle.tasks.specs.Ways.{LeftState, SeenEnd}
use Rattle.slave.specs.Log.{Act, CameBack, Discarded, Heard, HungUp, Opened, Refused, Sent, Took}

-- this is left of a sampler that came to this past: what became of the samples of each list, and
-- what was sent
pub record IsEndOf (e : SeenEnd) (past : Past) : Type 0 where
  pub channel : e.channel ≡ past.opening.channel
  pub plans : e.plans ≡ past.opening.plans
  pub decisions : length past.decisions ≡ length (due past.opening past.history)
  pub sent : e.sent ≡ items past.opening past.history past.decisions
  pub counts :
      let pairs = decided past.opening past.history past.decisions in
      e.counts ≡ map (λ (plan : ListPlan). counts_of (pairs_of plan.list pairs)) past.opening.plans

-- nothing was sent, and no sample was due
pub record IsUntouched (past : Past) : Type 0 where
  pub sent : items past.opening past.history past.decisions ≡ []
  pub counts :
      let pairs = decided past.opening past.history past.decisions in
      map (λ (plan : ListPlan). counts_of (pairs_of plan.list pairs)) past.opening.plans
      ≡ map (λ (plan : ListPlan). counts_of []) past.opening.plans

-- the ends of samplers, among what a task gave back
abbrev pub ends_in : List LeftState → List SeenEnd
ends_in [] = []
ends_in (left ∷ lefts) = option_to_list left.end ++ ends_in lefts

-- these pasts came back, the newest first: each of them is that of the next of these ends, the
-- oldest first; or of a sampler that the task never fetched
abbrev pub AreReturns : List Past → List SeenEnd → Type 0
AreReturns [] ends = ends ≡ []
AreReturns (past ∷ pasts) ends =
    (IsUntouched past × AreReturns pasts ends)
    ⊎ ((before : List SeenEnd) × ((end : SeenEnd) × (ends ≡ before ++ end ∷ [])
    × IsEndOf end past × AreReturns pasts before))

-- the pasts that came back of event channel c, the newest first
abbrev pub returns_at : ℕ → List Act → List Past
returns_at c [] = []
returns_at c (Heard x ∷ log) = returns_at c log
returns_at c (Refused packet code ∷ log) = returns_at c log
returns_at c (Opened at ∷ log) = returns_at c log
returns_at c (Took m k x ∷ log) = returns_at c log
returns_at c (CameBack m k past ∷ log) =
    if nat_eq k c then past ∷ returns_at c log else returns_at c log
returns_at c (Sent n ∷ log) = returns_at c log
returns_at c (HungUp ∷ log) = returns_at c log
returns_at c (Discarded ∷ log) = returns_at c log
