-- The place of a line, in which a value lies until it is fetched or recalled.
use Rattle.std.specs.Prelude.{◌≡◌, ℕ, ◌≤◌, Bool, true, false, List, [], ◌∷◌, ◌++◌, length}
use mathlib.Core.List.{IsPrefix}
use mathlib.Core.Option.{some}
use lib.ListN.{get_elem?}
use Rattle.hand_over.specs.declared.known.Known.{Known}

-- what a pass knows: whether it lends, whether it fetches, what was lent through it and not
-- recalled, and what it knows to have been fetched
abbrev pub known : {T : Type 0} → Bool → Bool → List T → List T → Known T
known lends fetches lent fetched =
    record { lends = lends; fetches = fetches; lent = lent; fetched = fetched }

module _ {T : Type 0} where
  -- pass j may know this, where these were lent and not recalled, and those of them fetched
  pub record Fits (lender borrower : ℕ) (lent fetched : List T) (j : ℕ) (v : Known T)
      : Type 0 where
    pub lends : v.lends ≡ true → (j ≡ lender) × (v.lent ≡ lent)
    pub fetches : v.fetches ≡ true → (j ≡ borrower) × (v.fetched ≡ fetched)
    pub seen : IsPrefix v.fetched fetched

  -- one pass lends and one fetches; what was lent and not recalled is what was fetched, and then
  -- the value in the place, if one lies there
  pub record IsInTurn (items : List T) (views : List (Known T)) : Type 0 where
    pub lender : ℕ
    pub borrower : ℕ
    pub lent : List T
    pub fetched : List T
    pub in_turn : lent ≡ fetched ++ items
    pub few : length items ≤ 1
    pub each :
        (j : ℕ) (v : Known T) → get_elem? views j ≡ some v
        → Fits lender borrower lent fetched j v

  -- the value that was lent last was recalled, which was not fetched
  pub record IsRecalled (v : Known T) (x : T) (w : Known T) : Type 0 where
    pub rest : w ≡ known true false w.lent v.fetched
    pub last : v.lent ≡ w.lent ++ x ∷ []
    pub seen : IsPrefix v.fetched w.lent
