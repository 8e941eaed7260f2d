-- What a page keeps to.
use Rattle.std.specs.Prelude.{◌≡◌, ℕ, ◌+◌, ◌*◌, ◌<◌, ◌≤◌, List, [], ◌∷◌, drop, length, take}
use Rattle.circular_buffer.specs.Buffer.{Buffer}
use Rattle.xcp_base.specs.declared.limits.TheConstants.{MAX_ODTS_IN_ALL}
use Rattle.frame_ring.specs.Reading.{flat}
use Rattle.frame_ring.specs.Sending.{AreFrames}
use Rattle.frame_page.specs.Queue.{QueueState}
use Rattle.frame_page.specs.declared.unit.Unit.{Unit as Frames}

-- in these blocks stand the frames of a unit
pub record IsUnit {O : Type 0} (region : List (List ℕ)) (u : Frames O) : Type 0 where
  pub long : length region ≡ u.blocks
  pub bytes : length (flat region) ≡ 8 * u.blocks
  pub within : u.at + u.len ≤ 8 * u.blocks
  pub some : 0 < u.count
  pub few : u.count ≤ MAX_ODTS_IN_ALL
  pub frames : AreFrames (take u.len (drop u.at (flat region))) u.count

-- in these blocks, and no more, stand the frames of units, one behind another
abbrev pub AreUnits : {O : Type 0} → List (List ℕ) → List (Frames O) → Type 0
AreUnits blocks [] = blocks ≡ []
AreUnits blocks (u ∷ us) = IsUnit (take u.blocks blocks) u × AreUnits (drop u.blocks blocks) us

-- the units stand in the blocks that wait, and in no others
pub record IsPage {O : Type 0} (queue : QueueState) (units : Buffer (Frames O)) : Type 0 where
  pub within : length queue.all ≤ queue.room
  pub few : queue.room ≤ 0xFFFFFFFF
  pub stand : AreUnits queue.all units.items
  pub room : length units.items ≤ units.capacity

-- the blocks of some units, and their frames
abbrev pub blocks_in : {O : Type 0} → List (Frames O) → ℕ
blocks_in [] = 0
blocks_in (u ∷ us) = u.blocks + blocks_in us

abbrev pub frames_in : {O : Type 0} → List (Frames O) → ℕ
frames_in [] = 0
frames_in (u ∷ us) = u.count + frames_in us

-- so many frames of the first unit, and not all; any where there is no unit
abbrev pub IsWithinNext : {O : Type 0} → ℕ → List (Frames O) → Type 0
IsWithinNext n [] = Unit {0}
IsWithinNext n (u ∷ us) = n < u.count
