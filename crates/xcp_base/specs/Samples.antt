-- Samples and stop markers, the items of an event channel's ring.
use Rattle.std.specs.Prelude.{◌≡◌, ℕ, ◌<◌, ◌≤◌, ◌^◌, List, length}
use Rattle.xcp_base.specs.declared.limits.TheConstants.{MAX_CHANNELS, MAX_LISTS, MAX_ODTS}
use Rattle.xcp_base.specs.Packets.{ArePackets}

-- a sample: its event channel, its DAQ list, the number of samples that the channel accepted before
-- it, its packets
pub record SampleParts : Type 0 where
  pub channel : ℕ
  pub list : ℕ
  pub number : ℕ
  pub packets : List (List ℕ)

-- what every sample keeps to
pub record IsSample (s : SampleParts) : Type 0 where
  pub channel : s.channel < MAX_CHANNELS
  pub list : s.list < MAX_LISTS
  pub number : s.number < 2 ^ 64
  pub some : 0 < length s.packets
  pub limit : length s.packets ≤ MAX_ODTS
  pub each : ArePackets s.packets

-- a sample of this channel and list, which has this number
pub record HasParts (c l n : ℕ) (s : SampleParts) : Type 0 where
  pub channel : s.channel ≡ c
  pub list : s.list ≡ l
  pub number : s.number ≡ n

-- a stop marker: the event channel, and the DAQ list that was stopped
pub record MarkParts : Type 0 where
  pub channel : ℕ
  pub list : ℕ

-- what every stop marker keeps to
pub record IsMark (m : MarkParts) : Type 0 where
  pub channel : m.channel < MAX_CHANNELS
  pub list : m.list < MAX_LISTS
