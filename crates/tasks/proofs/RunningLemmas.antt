-- One order more, and the lists that run by it.
use Rattle.std.proofs.Common.{◌≡◌, ℕ, ◌+◌, ◌<◌, ◌≤◌, List, [], ◌∷◌, ◌++◌, Bool, true, ◌||◌, nat_eq, refl, sym, ap, ◌∙◌}
use Rattle.xcp_base.specs.declared.limits.TheConstants.{MAX_LISTS}
use Rattle.xcp_base.specs.Lists.{has_list}
use Rattle.sampler.specs.State.{SamplerState, runs_in}
use Rattle.tasks.specs.Links.{AwayState, HasPlacesFor, SendsOrder, runs_behind, runs_by, runs_of, without}
use Rattle.xcp_base.specs.Counts.{how_many}
use Rattle.channel_ring.specs.declared.order.Order.{Order}
use Rattle.channel_ring.specs.declared.order.Order.TheVariants as order
use Rattle.tasks.proofs.NeedLemmas.{start-leaves, start-others}

pub runs_by-more : (os : List Order) (o : Order) (before : Bool) (l : ℕ)
    → runs_by (os ++ o ∷ []) before l ≡ runs_behind o (runs_by os before l) l
runs_by-more [] o before l = refl
runs_by-more (x ∷ os) o before l = runs_by-more os o (runs_behind x before l) l

module _ {S : Type 0} where
  pub runs-sent : (a b : AwayState S) (o : Order) → SendsOrder a b o → (k : ℕ)
      → runs_of b k ≡ runs_behind o (runs_of a k) k
  runs-sent a b o sends k =
      ap (λ (os : List Order). runs_by os (runs_in b.sampler k) k) sends.orders
      ∙ ap (λ (s : SamplerState S). runs_by (a.orders ++ o ∷ []) (runs_in s k) k) sends.sampler
      ∙ runs_by-more a.orders o (runs_in a.sampler k) k

  -- the other lists that were checked with one that was started
  pub others-checked : (a b : AwayState S) (l : ℕ) → l < MAX_LISTS
      → (lists : ℕ → Bool) → lists l ≡ true → HasPlacesFor a lists
      → SendsOrder a b (order.Start l) → HasPlacesFor b (without l lists)
  others-checked a b l below lists there fits sends = record {
    takes_orders = sends.ended;
    places = start-others (runs_of a) (runs_of b) lists l a.free b.free below there sends.spent
        (λ k h. runs-sent a b (order.Start l) sends k) fits.places;
  }

  -- behind a start that was checked the stops of all lists that run find places
  pub places-kept : (a : AwayState S) (set now l left : ℕ) → l < MAX_LISTS
      → (lists : ℕ → Bool) → lists l ≡ true → HasPlacesFor a lists → a.free ≡ left + 1
      → ((k : ℕ) → k < MAX_LISTS → has_list set k ≡ runs_of a k)
      → ((k : ℕ) → has_list now k ≡ (has_list set k || nat_eq l k))
      → 1 + how_many MAX_LISTS (has_list now) ≤ left
  places-kept a set now l left below lists there fits spent was more =
      start-leaves (runs_of a) (has_list now) lists l a.free left below there spent
      (λ k h. more k ∙ ap (λ b. b || nat_eq l k) (was k h)) fits.places

-- the set that is kept is that of the lists that run by what was sent
pub running-sent : (set now : ℕ) (old new : List Order) (o : Order) (before : ℕ → Bool)
    → new ≡ old ++ o ∷ []
    → ((k : ℕ) → k < MAX_LISTS → has_list set k ≡ runs_by old (before k) k)
    → ((k : ℕ) → k < MAX_LISTS → has_list now k ≡ runs_behind o (has_list set k) k)
    → (k : ℕ) → k < MAX_LISTS → has_list now k ≡ runs_by new (before k) k
running-sent set now old new o before sends was more k h =
    more k h ∙ ap (λ b. runs_behind o b k) (was k h)
    ∙ sym (ap (λ (os : List Order). runs_by os (before k) k) sends ∙ runs_by-more old o (before k) k)
