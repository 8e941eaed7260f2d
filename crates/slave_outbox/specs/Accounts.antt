-- The line of a DAQ list in the account of a measurement, once what is left of its task's sampler
-- is back.
use Rattle.std.specs.Prelude.{◌≡◌, ℕ, ◌+◌, List, count_by, not, nat_eq, slice_get, Some}
use Rattle.copy_plan.specs.Config.{IsPlan, ListPlan}
use Rattle.sampler.specs.Decisions.{Decided, pairs_of}
use Rattle.sampler.specs.History.{due}
use Rattle.sampler.specs.Past.{Past}
use Rattle.transmitter.specs.Items.{count_of, samples}
use Rattle.daq_engine.specs.Order.{items_of}
use Rattle.daq_engine.specs.Overload.{decided_of}
use Rattle.daq_engine.specs.declared.report.ListReport.{ListReport}
use Rattle.slave_outbox.specs.Deeds.{Deed, written_by}

-- the plans that the channel was opened with are plans
abbrev pub HasPlans : Past → Type 0
HasPlans past =
    (i : ℕ) (plan : ListPlan) → slice_get past.opening.plans i ≡ Some plan → IsPlan plan

-- the line of list l: how many of its samples were due, how many of these dropped and how many
-- written; and left is the rest of those that were accepted: not taken, taken and not laid out, or
-- thrown away before they were sent
pub record IsLineOf (past : Past) (deeds : List Deed) (l : ℕ) (line : ListReport) : Type 0 where
  pub of_list : line.list ≡ l
  pub due_is :
      line.due
      ≡ count_by (λ (pair : ℕ × ℕ). nat_eq pair.1 l) (due past.opening past.history)
  pub dropped :
      line.dropped ≡ count_by (λ (pair : Decided). not pair.1) (pairs_of l (decided_of past))
  pub written : line.written ≡ written_by deeds l
  pub left : line.left + written_by deeds l ≡ count_of l (samples (items_of past))
  pub adds_up : line.due ≡ line.written + line.dropped + line.left

-- the line of a list that the event channel doesn't have
abbrev pub no_line : ℕ → ListReport
no_line l = record { list = l; due = 0; written = 0; dropped = 0; left = 0 }
