-- An item is taken off a ring.
use Rattle.std.proofs.Common.{◌≡◌, ℕ, ◌-◌, List, ap, ◌∙◌, arith}
use Rattle.frame_page.specs.Pages.{PageState}
use Rattle.slave_outbox.specs.Inner.{laid_of}
use Rattle.slave_outbox.specs.Intakes.{IntakeState}
use Rattle.slave_outbox.specs.Steps.{StepMeans}
use Rattle.slave_outbox.specs.declared.origin.Origin.{Origin}
use Rattle.slave_outbox.specs.declared.step.Step.{Step}
use Rattle.slave_outbox.specs.declared.step.Step.TheVariants.{Full, Marked, Nothing, Skipped, Wrote}
use Rattle.slave_outbox.specs.Outboxes.{OutboxState, bytes_in}
use Rattle.slave_outbox.specs.Taking.{TakesItem}
use Rattle.slave_outbox.proofs.KeptLemmas.{laid_push, some_bytes}

-- the outbox whose page this is
abbrev pub box_of : ℕ → List ℕ → PageState Origin → ℕ → OutboxState
box_of most sent p shown = record { sent = sent; counter = p.counter; waits = laid_of p.waits; shown = shown; page = most }

-- what became of the item is what became of it in the page
pub takes-item : (a b : IntakeState) (p q : PageState Origin) (most room : ℕ) (gone : List ℕ) (shown m k : ℕ) (step : Step)
    → room ≡ most - bytes_in (laid_of p.waits) → StepMeans a b p q m k room step → TakesItem a b (box_of most gone p shown) (box_of most gone q shown) m k step
takes-item a b p q most room gone shown m k Nothing is (looked, empty, same) = (looked, empty, ap (λ x. box_of most gone x shown) same)
takes-item a b p q most room gone shown m k Full is (s, len, looked, next, passes, over, same) =
    (s, len, looked, next, passes, omega (arith, over, is), ap (λ x. box_of most gone x shown) same)
takes-item a b p q most room gone shown m k (Marked l) is (x, takes, list, same) = (x, takes, list, ap (λ x. box_of most gone x shown) same)
takes-item a b p q most room gone shown m k (Skipped l) is (s, takes, list, held, same) = (s, takes, list, held, ap (λ x. box_of most gone x shown) same)
takes-item a b p q most room gone shown m k (Wrote l len) is (s, takes, list, passes, lays) = (
  s,
  takes,
  list,
  passes,
  lays.packets,
  omega (arith, is, lays.within, lays.long, some_bytes s.packets lays.packets.some),
  ap (λ x. box_of most gone x shown) lays.page ∙ ap (λ xs. record { sent = gone; counter = p.counter; waits = xs; shown = shown; page = most }) (laid_push p.waits _),
)
