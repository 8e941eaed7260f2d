-- What waits behind an act.
use Rattle.std.proofs.Common.{◌≡◌, ℕ, ◌++◌, ◌∷◌, List, append-nil, refl, sym, ap, subst}
use Rattle.xcp_base.specs.declared.item.Item.{Item}
use Rattle.xcp_base.specs.declared.item.Item.TheVariants.{Marker, Sample}
use Rattle.session.specs.declared.profile.Profile.{Profile}
use Rattle.slave_outbox.specs.Outboxes.{Laid, LaysOut, OutboxState, StandsAfter}
use Rattle.slave.specs.Log.{Act, Took, laid_by, waits}

-- behind an item that was taken: what it lays out too
pub waits-took : (d : Profile) (m c : ℕ) (x : Item) (log : List Act) → waits d (Took m c x ∷ log) ≡ waits d log ++ laid_by d (Took m c x) log
waits-took d m c (Sample s) log = refl
waits-took d m c (Marker k) log = sym (append-nil (waits d log))

-- behind what was laid out: that too
pub laid-behind : (o p : OutboxState) (page : ℕ) (xs sent wait : List Laid) → LaysOut o p xs → StandsAfter o page sent wait → StandsAfter p page sent (wait ++ xs)
laid-behind o p page xs sent wait lays stands =
    subst (λ z. StandsAfter z page sent (wait ++ xs)) (sym lays)
    (record { gone = stands.gone; counter = stands.counter; waiting = ap (λ ys. ys ++ xs) stands.waiting; page_is = stands.page_is })
