-- The places that orders about DAQ lists take in a ring of orders.
use Rattle.std.specs.Prelude.{ℕ, ◌+◌, Bool, ◌||◌}
use Rattle.xcp_base.specs.declared.limits.TheConstants.{MAX_LISTS}
use Rattle.xcp_base.specs.Counts.{how_many}

-- the places that starts of these lists take, with the stops of all lists that then run and an
-- order to end
abbrev pub places_for : (ℕ → Bool) → (ℕ → Bool) → ℕ
places_for running lists =
    1 + how_many MAX_LISTS lists + how_many MAX_LISTS (λ l. running l || lists l)
