use Rattle.std.proofs.Common.{Option, Some, subst, sym}
use Rattle.tasks.specs.Links.{AwayState, CanStart, SendsToNewest}
use Rattle.channel_ring.specs.declared.order.Order.TheVariants.{Start}
use Rattle.tasks.proofs.link.start_of.Goals as goal

pub start-requires : goal.start-requires
start-requires g c =
    let checked = c.requires.checked in
    record { checked = (checked.0, checked.1, subst (λ (newer : Option (AwayState _)). CanStart newer checked.0) c.in-Some.is checked.2) }

pub returns-in-Some-clause-sends : goal.returns-in-Some-clause-sends
returns-in-Some-clause-sends g c =
    subst (λ (newer : Option (AwayState _)). SendsToNewest newer (Some c.start.new.self) (Start c.args.l)) (sym c.in-Some.is) c.start.ensures.sends

pub returns-in-Some-clause-others : goal.returns-in-Some-clause-others
returns-in-Some-clause-others g c lists there fits =
    c.start.ensures.others lists there (subst (λ (newer : Option (AwayState _)). CanStart newer lists) c.in-Some.is fits)
