-- A pump step: all that was sent is looked at, one item of each ring that has one is taken, and all
-- is looked at again.
use Rattle.std.specs.Prelude.{◌≡◌, ℕ, ◌<◌, ◌++◌, List, length, Ok, Err, Result}
use mathlib.Core.List.{IsPrefix}
use Rattle.xcp_base.specs.declared.item.Item.{Item}
use Rattle.transmitter.specs.Looks.{Looked}
use Rattle.transmitter.specs.Merge.{of_ring}
use Rattle.transmitter.specs.Pumps.{IsPump}
use Rattle.transmitter.specs.Rounds.{round}
use Rattle.transmitter.specs.Written.{TransmitterState}
use Rattle.transmitter.specs.declared.pumped.Pumped.{Pumped}
use Rattle.transmitter.specs.declared.faults.PumpFault.{PumpFault}
use Rattle.transmitter.specs.declared.faults.PumpFault.TheVariants.{Failed}

-- of n rings, to which so much was sent, a step that answers so takes the first item left in each
-- ring that has one; where the writer fails, those up to the sample that stays in hand; where it
-- failed before, none. Then all that is left is known
pub record IsPumpStep (n : ℕ) (sent : ℕ → List Item) (a b : TransmitterState)
    (answer : Result Pumped PumpFault)
    : Type 0 where
  -- what was left in each ring, in rising channel: fixed by `leaves`
  pub left : List (List Item)
  pub as_many : length left ≡ n
  pub leaves : (c : ℕ) → c < n → of_ring a.received c ++ of_ring left c ≡ sent c
  -- fixed by `looks`, and what it knows by `pumps`
  pub pumped : TransmitterState
  pub pumps : IsPump (record a { known = left }) pumped answer
  pub takes_all : (p : Pumped) → answer ≡ Ok p → pumps.taken ≡ round 0 left
  pub takes_front : answer ≡ Err Failed → IsPrefix pumps.taken (round 0 left)
  pub looks : Looked pumped b
  pub rest : (c : ℕ) → c < n → of_ring b.received c ++ of_ring b.known c ≡ sent c
