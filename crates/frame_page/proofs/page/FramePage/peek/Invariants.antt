use Rattle.std.proofs.Common.{drop}
use Rattle.frame_page.specs.Laid.{packets_in}
use Rattle.frame_page.specs.Pages.{waits_in}
use Rattle.frame_page.proofs.ShownLemmas.{IsShown, Stands}
use Rattle.frame_page.proofs.page.FramePage.peek.Given as goal

-- the units so far were laid out, and where the next one stands
abbrev pub invariant-loop-i : goal.invariant-loop-i
invariant-loop-i g l = record {
  shown : IsShown l.self.counter (packets_in l.self.waits) l.fn.buffer l.buffer l.shown (packets_in (waits_in (drop l.start l.self-inside.blocks.all) (drop l.i l.self-inside.units.items)));
  stands : Stands l.self-inside.blocks.all l.start (drop l.i l.self-inside.units.items);
}
