-- Turns of a pump that writes into a buffer which may be too short.
use Rattle.std.specs.Prelude.{ℕ, ◌+◌, ◌*◌, ◌≤◌, ◌≡◌, List, ◌++◌, drop, length, take}
use Rattle.std.specs.Prelude.{None}
use Rattle.xcp_base.specs.declared.item.Item.{Item}
use Rattle.xcp_base.specs.declared.limits.TheConstants.{MAX_ODTS}
use Rattle.frame_writer.specs.Shown.{OutState}
use Rattle.frame_writer.specs.declared.layout.TheConstants.{MAX_SAMPLE_BYTES}
use Rattle.transmitter.specs.Fills.{TakesTurns, Tells}
use Rattle.transmitter.specs.Written.{TransmitterState}
use Rattle.transmitter.specs.declared.pumped_all.PumpedAll.{PumpedAll}

-- some text was written or none, and stands in the buffer from `at` to `end`; behind it nothing
-- changed
pub record LaysOn (a b : OutState) (old new : List ℕ) (at end : ℕ) : Type 0 where
  -- fixed by `wrote`
  pub text : List ℕ
  pub wrote : b.contents ≡ a.contents ++ text
  pub front : take end new ≡ take at old ++ text
  pub end_is : end ≡ at + length text
  pub behind : drop end new ≡ drop end old
  pub len : length new ≡ length old
  pub inside : end ≤ length old

-- what turns at n rings took and wrote, and the bytes of their frames, at most
pub record AreFew (n : ℕ) (p q : PumpedAll) (at end : ℕ) : Type 0 where
  pub taken : q.taken ≤ p.taken + n
  pub frames : q.frames ≤ p.frames + MAX_ODTS * n
  pub bytes : end ≤ at + MAX_SAMPLE_BYTES * n

-- a pump's turns at the rings from `low` on, below `high`, and what was told before and after them
pub record HasTurns (low high : ℕ) (a b : TransmitterState) (p q : PumpedAll) : Type 0 where
  pub hand : b.hand ≡ None
  -- fixed by `turns`: what was received, in rising number of the ring
  pub items : List (ℕ × Item)
  pub turns : TakesTurns low high a b items
  pub tells : (before : List (ℕ × Item)) → Tells p before → Tells q (before ++ items)
  pub count : q.taken ≡ p.taken + length items
