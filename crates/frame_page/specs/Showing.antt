-- What waits is shown in a buffer.
use Rattle.std.specs.Prelude.{◌≡◌, ℕ, List, drop, length, take}
use Rattle.frame_writer.specs.Frame.{text}
use Rattle.frame_ring.specs.Sending.{FrontFits}
use Rattle.frame_ring.specs.declared.fitting.Front.{Front}
use Rattle.frame_page.specs.Laid.{packets_in}
use Rattle.frame_page.specs.Pages.{PageState}

-- the frames of the first packets that wait stand at the front of a buffer, numbered in a row from
-- the page's counter on: as many as find room, each whole; and behind them nothing changed
pub record Shows {O : Type 0} (p : PageState O) (before buffer : List ℕ) (front : Front)
    : Type 0 where
  pub fits : FrontFits (packets_in p.waits) (length before) front
  pub bytes : take front.len buffer ≡ text p.counter (take front.count (packets_in p.waits))
  pub behind : drop front.len buffer ≡ drop front.len before
  pub len : length buffer ≡ length before
