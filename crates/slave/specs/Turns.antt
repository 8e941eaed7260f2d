-- What the turns of the rings come to over many calls.
use Rattle.std.specs.Prelude.{◌≡◌, ℕ, ◌+◌, ◌-◌, ◌<◌, ◌≤◌, false, List, [], ◌∷◌, length}
use Rattle.slave.specs.Hearing.{is_spent}
use Rattle.slave.specs.Standing.{SlaveState}
use Rattle.slave.specs.Taking.{TakesFairly, known_of, newest_at, received_of}

-- a call of `take`: the slave before it, and behind it
abbrev pub Call : Type 0
Call = SlaveState × SlaveState

-- how many items a call took of the newest ring of event channel c; and how many all calls took
abbrev pub taken_by : ℕ → Call → ℕ
taken_by c (a, b) = length (received_of (newest_at b c)) - length (received_of (newest_at a c))

abbrev pub taken_by_all : ℕ → List Call → ℕ
taken_by_all c [] = 0
taken_by_all c (x ∷ calls) = taken_by c x + taken_by_all c calls

-- each call took by turns and began where the one before it said, the first one at this event
-- channel; and none spent the slave
abbrev pub TakeByTurns : ℕ → List Call → Type 0
TakeByTurns next [] = Unit {0}
TakeByTurns next ((a, b) ∷ calls) =
    (a.next ≡ next) × TakesFairly a b × (is_spent b ≡ false) × TakeByTurns b.next calls

-- each call left an item in the newest ring of event channel c that was known before it
abbrev pub LeaveSome : ℕ → List Call → Type 0
LeaveSome c [] = Unit {0}
LeaveSome c ((a, b) ∷ calls) =
    (taken_by c (a, b) < length (known_of (newest_at a c))) × LeaveSome c calls

-- over as many calls as one likes, no ring gives more than one item more than a ring of which each
-- call leaves some
abbrev pub FairShares : Type 0
FairShares =
    (next : ℕ) (calls : List Call) (c k : ℕ) → TakeByTurns next calls
    → LeaveSome k calls → taken_by_all c calls ≤ taken_by_all k calls + 1
