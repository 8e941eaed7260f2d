-- What no public clause cites: how far a loop over event channels has come, and how the parts end
-- of a measurement that could be opened only in part. lists[c] is its set of DAQ lists at event
-- channel c; 0 is the empty set.
use Rattle.std.specs.Prelude.{◌≡◌, ◌≢◌, ℕ, ◌<◌, ◌≤◌, Bool, false, List, length, slice_get, Some}
use Rattle.slave_channels.specs.Channels.{ChannelState, keeps_two}
use Rattle.slave_channels.specs.Calls.{Ends}

module _ {A : Type 0} where
  -- each of the first n elements changed as R says of its place, before and after; the others
  -- didn't
  pub record IsFront (R : ℕ → A → A → Type 0) (n : ℕ) (old now : List A) : Type 0 where
    pub as_many : length now ≡ length old
    pub front :
        (k : ℕ) (a b : A) → k < n → slice_get old k ≡ Some a → slice_get now k ≡ Some b
        → R k a b
    pub rest : (k : ℕ) → n ≤ k → slice_get now k ≡ slice_get old k

-- the measurement ended at event channel c if lists[c] isn't empty; else nothing changed
abbrev pub EndsAt : List ℕ → ℕ → ChannelState → ChannelState → Type 0
EndsAt lists c a b =
    (set : ℕ) → slice_get lists c ≡ Some set
    → (set ≡ 0 → b ≡ a) × (set ≢ 0 → Ends a b)

-- `HaveRoom`, so far: at each of the first n event channels whose lists[c] isn't empty
abbrev pub HaveRoomBelow : List ℕ → List ChannelState → ℕ → Type 0
HaveRoomBelow lists now n =
    (c set : ℕ) (ch : ChannelState) → c < n
    → slice_get lists c ≡ Some set → slice_get now c ≡ Some ch → set ≢ 0
    → keeps_two ch ≡ false

-- none of the first n event channels passes this test
abbrev pub KeepNone : (ChannelState → Bool) → List ChannelState → ℕ → Type 0
KeepNone test now n =
    (c : ℕ) (ch : ChannelState) → c < n → slice_get now c ≡ Some ch → test ch ≡ false
