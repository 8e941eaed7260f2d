-- Inner: what the ends of a ring of frames keep to.
use Rattle.std.specs.Prelude.{◌≡◌, ℕ, ◌+◌, ◌*◌, ◌%◌, ◌^◌, ◌≤◌, List, [], ◌∷◌, ◌++◌, length}
use Rattle.std.specs.Prelude.{drop, take}
use Rattle.std.specs.Simd.{first_chunks}
use Rattle.rtrb.specs.Fifo.{Allowed}
use mathlib.Core.List.{IsPrefix}
use Rattle.rtrb.specs.Ring.{SameConsumer, known_items, received}
use Rattle.rtrb.specs.declared.consumer.Consumer.{Consumer}
use Rattle.xcp_base.specs.declared.limits.TheConstants.{SLACK}
use Rattle.channel_ring.specs.Room.{units}
use Rattle.frame_ring.specs.Fronts.{AreRecords, BeginRecords}
use Rattle.frame_ring.specs.Reading.{items_in}
use Rattle.frame_ring.specs.Records.{cost}
use Rattle.frame_ring.specs.declared.limits.TheConstants.{MIN_ROOM}

-- the blocks that are held back: they stand first in a buffer
abbrev pub held_back : ℕ → List ℕ → List (List ℕ)
held_back held buffer = first_chunks 8 held buffer

-- a send end that pushed these blocks, whose buffer has room for so many, and for what may be
-- written over behind them; so many are held back, while so many are known to be free
pub record IsSend (pushed : List (List ℕ)) (buffer : List ℕ) (held room free : ℕ) : Type 0 where
  pub whole : AreRecords (pushed ++ held_back held buffer)
  pub fits : held ≤ room
  pub least : MIN_ROOM ≤ room
  pub long : 8 * room + SLACK ≡ length buffer
  pub there : held ≤ free
  pub costs : units cost (items_in (pushed ++ held_back held buffer)) ≡ length pushed + held

-- the first block, if there is one
abbrev pub front_block : List (List ℕ) → List ℕ
front_block [] = []
front_block (b ∷ bs) = b

-- so many items are read off these blocks, as 64 bits count them
abbrev pub counts : ℕ → List (List ℕ) → Type 0
counts n blocks = n ≡ length (items_in blocks) % 2 ^ 64

-- the first n blocks that are known were popped, and read by nobody
pub record PopsFront {A P : Type 0} (n : ℕ) (a b : Consumer (List ℕ) A P) : Type 0 where
  pub ring : SameConsumer a b
  pub popped : received b ≡ received a ++ take n (known_items a)
  pub known : known_items b ≡ drop n (known_items a)
  pub allowed :
      Allowed (λ past block. BeginRecords (past ++ block ∷ [])) (received a)
      (take n (known_items a))

-- n blocks that are known were popped into a page, from a block of it on
pub record PopsInto {A P : Type 0} (a b : Consumer (List ℕ) A P) (at n : ℕ)
    (page now : List (List ℕ)) : Type 0 where
  pub ring : SameConsumer a b
  pub len : length now ≡ length page
  pub front : take at now ≡ take at page
  pub behind : drop (at + n) now ≡ drop (at + n) page
  pub many : length (take n (drop at now)) ≡ n
  pub popped : received b ≡ received a ++ take n (drop at now)
  pub known : IsPrefix (known_items a) (take n (drop at now) ++ known_items b)
  pub allowed :
      Allowed (λ past block. BeginRecords (past ++ block ∷ [])) (received a)
      (take n (drop at now))
