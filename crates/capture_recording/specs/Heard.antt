-- What a slave and its master said to one another in a datagram: the frames in it, one behind
-- another.
use Rattle.std.specs.Prelude.{◌≡◌, ℕ, ◌++◌, ◌∷◌, [], Bool, true, false, All, List}
use Rattle.captured_samples.specs.Frames.{Came, of_master, of_slave}
use Rattle.captured_samples.specs.Slaves.{IsFull, SlaveOf, StandsAfter}
use Rattle.captured_samples.specs.Standing.{Start, Told, set_up_of, told_of}
use Rattle.datagrams.specs.Udp.{IsUdp, udp_datagram}
use Rattle.frame_writer.specs.Frame.{IsFrame, frame}
use Rattle.frame_writer.specs.Split.{joined_frames}

-- bytes begin with these frames, and these bytes are behind them
pub record BeginsWith (bytes : List ℕ) (fs : List (ℕ × List ℕ)) (rest : List ℕ) : Type 0 where
  pub legal : All IsFrame fs
  pub whole : bytes ≡ joined_frames fs ++ rest

-- and none begins behind them
pub record AreFrames (bytes : List ℕ) (fs : List (ℕ × List ℕ)) (rest : List ℕ) : Type 0 where
  pub begins : BeginsWith bytes fs rest
  pub none : (n : ℕ) (q more : List ℕ) → IsFrame (n, q) → rest ≡ frame n q ++ more → ⊥

-- what came with them, the newest in front
abbrev pub came_by : Bool → ℕ × List ℕ → Came
came_by true f = of_master f.0 f.1
came_by false f = of_slave f.0 f.1

abbrev pub came_with : Bool → List (ℕ × List ℕ) → List Came → List Came
came_with is_of_master [] h = h
came_with is_of_master (f ∷ fs) h = came_with is_of_master fs (came_by is_of_master f ∷ h)

-- a slave heard them: it stands after all that came before and these, and who is handed its samples
-- stands after what that tells
pub record HearsFrames (is_of_master : Bool) (fs : List (ℕ × List ℕ)) (old new : SlaveOf)
    (told told_then : List Told → Type 0)
    : Type 0 where
  pub stands :
      (start : Start) (h : List Came) → StandsAfter start h old
      → StandsAfter start (came_with is_of_master fs h) new
  pub tells :
      (start : Start) (h : List Came) → StandsAfter start h old → told (told_of start h)
      → told_then (told_of start (came_with is_of_master fs h))

-- the frames of a UDP datagram, if it is one; of other bytes none
pub record HearsDatagram (is_of_master : Bool) (bytes : List ℕ) (old new : SlaveOf)
    (told told_then : List Told → Type 0)
    : Type 0 where
  pub some :
      IsUdp bytes
      → (fs : List (ℕ × List ℕ)) × (rest : List ℕ)
      × AreFrames (udp_datagram bytes).payload fs rest
      × HearsFrames is_of_master fs old new told told_then
  pub none : (IsUdp bytes → ⊥) → HearsFrames is_of_master [] old new told told_then

-- after frames in front of some bytes its set-up may have too many facts with a command more
pub record FillsUp (is_of_master : Bool) (bytes : List ℕ) (s : SlaveOf) : Type 0 where
  -- these are fixed by `begins`, but for how many they are
  pub frames : List (ℕ × List ℕ)
  pub behind : List ℕ
  pub begins : BeginsWith bytes frames behind
  pub full :
      (start : Start) (h : List Came) → StandsAfter start h s
      → IsFull (set_up_of start (came_with is_of_master frames h))

-- so it is with frames of a UDP datagram
abbrev pub FillsUpBy : Bool → List ℕ → SlaveOf → Type 0
FillsUpBy is_of_master bytes s =
    IsUdp bytes × FillsUp is_of_master (udp_datagram bytes).payload s
