use Rattle.std.proofs.Common.{◌≡◌, ◌≤◌, map}
use Rattle.daq_store.specs.Calls.{numbers_below}
use Rattle.slave.specs.Pages.{greatest, ready_frames_of}
use Rattle.slave_outbox.specs.declared.limits.TheConstants.{MAX_PAGE, PAGE}
use Rattle.slave.proofs.page.page_over.Given as goal

-- the longest of the lists so far
abbrev pub invariant-loop-l : goal.invariant-loop-l
invariant-loop-l l =
    (l.page ≡ greatest PAGE (map (ready_frames_of l.store) (numbers_below l.l))) × (l.page ≤ MAX_PAGE)
