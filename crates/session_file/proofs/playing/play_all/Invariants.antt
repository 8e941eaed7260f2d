use Rattle.std.proofs.Common.{◌≡◌, ◌≤◌, map, take as first}
use Rattle.session_file.specs.Inner.{line_data}
use Rattle.session_file.specs.Playing.{Does, lines_of, sending}
use Rattle.session_file.proofs.playing.play_all.Given as goal

-- the lines so far were played, no more were refused, and the tasks are on their lines
abbrev pub invariant-loop-line : goal.invariant-loop-line
invariant-loop-line l =
    Does (sending l.fn.player.slave l.fn.player.out.contents) (sending l.player.slave l.player.out.contents)
    l.fn.player.refused l.player.refused (map line_data (first l.line-index l.script))
    × (l.player.refused ≤ l.line-index)
    × (lines_of l.player.tasks.items ≡ lines_of l.fn.player.tasks.items)
