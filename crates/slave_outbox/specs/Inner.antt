-- What no public clause cites: how an outbox keeps what waits.
use Rattle.std.specs.Prelude.{◌≡◌, ℕ, ◌+◌, ◌*◌, ◌/◌, ◌<◌, ◌≤◌, true, if◌then◌else◌}
use Rattle.std.specs.Prelude.{List, [], ◌∷◌, ◌++◌, length}
use Rattle.std.specs.Prelude.{take as first}
use Rattle.frame_writer.specs.Frame.{text, unnumbered}
use Rattle.frame_page.specs.Laid.{Laid as Kept, blocks_of}
use Rattle.frame_page.specs.Laid.{packets_in as packets_kept}
use Rattle.frame_page.specs.Pages.{PageState}
use Rattle.frame_page.specs.declared.replying.TheConstants.{REPLY_BLOCKS}
use Rattle.frame_ring.specs.Records.{blocks_for}
use Rattle.frame_ring.specs.declared.fitting.Front.{Front}
use Rattle.slave_outbox.specs.Outboxes.{Laid, together}
use Rattle.slave_outbox.specs.Origins.{is_reply}
use Rattle.slave_outbox.specs.declared.limits.TheConstants.{MAX_PAGE, MAX_REPLIES, MAX_REPLY}
use Rattle.slave_outbox.specs.declared.limits.TheConstants.{REPLIES}
use Rattle.slave_outbox.specs.declared.origin.Origin.{Origin}

-- packets that wait in a page, one by one
abbrev pub laid_of : List (Kept Origin) → List Laid
laid_of [] = []
laid_of (x ∷ xs) = together x.origin x.packets ++ laid_of xs

-- each has a packet at least
abbrev pub HaveSome : List (Kept Origin) → Type 0
HaveSome [] = Unit {0}
HaveSome (x ∷ xs) = (0 < length x.packets) × HaveSome xs

-- no sample of a page of so many bytes takes up more blocks, two of which are its head, and no
-- reply does
abbrev pub longest : ℕ → ℕ
longest room = 2 + blocks_for room + REPLY_BLOCKS

-- the blocks, and the places, for a page of so many bytes, and for replies
abbrev pub page_blocks : ℕ → ℕ
page_blocks room = (3 * (room + REPLIES) + 4) / 5 + longest room + REPLY_BLOCKS

abbrev pub page_places : ℕ → ℕ
page_places room = room / 4 + MAX_REPLIES + 1

-- each takes up no more than so many blocks, and few for its bytes
abbrev pub AreTight : ℕ → List (Kept Origin) → Type 0
AreTight n [] = Unit {0}
AreTight n (x ∷ xs) =
    (x.blocks ≤ n) × (5 * x.blocks ≤ 3 * length (unnumbered x.packets)) × AreTight n xs

-- so does each but the first, of which some packets may have been sent
abbrev pub AreTightBehind : ℕ → List (Kept Origin) → Type 0
AreTightBehind n [] = Unit {0}
AreTightBehind n (x ∷ xs) = (x.blocks ≤ n) × AreTight n xs

-- the frames of each reply are short
abbrev pub AreShort : List (Kept Origin) → Type 0
AreShort [] = Unit {0}
AreShort (x ∷ xs) =
    (is_reply x.origin ≡ true → length (unnumbered x.packets) ≤ MAX_REPLY) × AreShort xs

-- the bytes of the samples among them
abbrev pub sample_bytes : List (Kept Origin) → ℕ
sample_bytes [] = 0
sample_bytes (x ∷ xs) =
    (if is_reply x.origin then 0 else length (unnumbered x.packets)) + sample_bytes xs

-- how many are replies
abbrev pub replies_kept : List (Kept Origin) → ℕ
replies_kept [] = 0
replies_kept (x ∷ xs) = (if is_reply x.origin then 1 else 0) + replies_kept xs

-- so many bytes wait in the page, whose blocks and places are enough for `room` bytes of samples,
-- and for replies; samples are laid out up to `most` bytes; and those that were shown are the first
-- of the packets, numbered
pub record IsOutbox (most room : ℕ) (page : PageState Origin) (len : ℕ) (shown : Front)
    (bytes : List ℕ)
    : Type 0 where
  pub within : most ≤ room
  pub limit : room ≤ MAX_PAGE
  pub long : len ≡ length (unnumbered (packets_kept page.waits))
  pub blocks_are : page.blocks ≡ page_blocks room
  pub places_are : page.most ≡ page_places room
  pub used : page.used ≡ blocks_of page.waits
  pub some : HaveSome page.waits
  pub samples : sample_bytes page.waits ≤ room
  pub replies : replies_kept page.waits ≤ MAX_REPLIES
  pub short : AreShort page.waits
  pub tight : AreTightBehind (longest room) page.waits
  pub there : shown.count ≤ length (packets_kept page.waits)
  pub front : shown.len ≡ length (unnumbered (first shown.count (packets_kept page.waits)))
  pub shown_are : bytes ≡ text page.counter (first shown.count (packets_kept page.waits))
