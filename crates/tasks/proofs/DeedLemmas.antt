-- One deed more.
use Rattle.std.proofs.Common.{◌≡◌, ℕ, List, [], ◌∷◌, ◌++◌, refl, ap}
use Rattle.sampler.specs.Past.{Past}
use Rattle.sampler.specs.declared.taken.Taken.{Taken}
use Rattle.tasks.specs.Deeds.{Deed, Obeyed, Took, orders_in, past_after, past_after_deed}
use Rattle.channel_ring.specs.declared.order.Order.{Order}

pub past-more : (past : Past) (ds : List Deed) (d : Deed)
    → past_after past (ds ++ d ∷ []) ≡ past_after_deed (past_after past ds) d
past-more past [] d = refl
past-more past (x ∷ ds) d = past-more (past_after_deed past x) ds d

pub orders-took : (ds : List Deed) (taken : Taken) (image : List ℕ) (stamp : ℕ)
    → orders_in (ds ++ Took taken image stamp ∷ []) ≡ orders_in ds
orders-took [] taken image stamp = refl
orders-took (Took t i s ∷ ds) taken image stamp = orders-took ds taken image stamp
orders-took (Obeyed o ∷ ds) taken image stamp = ap (λ os. o ∷ os) (orders-took ds taken image stamp)

pub orders-obeyed : (ds : List Deed) (o : Order)
    → orders_in (ds ++ Obeyed o ∷ []) ≡ orders_in ds ++ o ∷ []
orders-obeyed [] o = refl
orders-obeyed (Took t i s ∷ ds) o = orders-obeyed ds o
orders-obeyed (Obeyed x ∷ ds) o = ap (λ os. x ∷ os) (orders-obeyed ds o)
