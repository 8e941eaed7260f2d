use Rattle.std.proofs.Common.{map, sym, ◌∙◌, subst}
use Rattle.session_file.specs.Inner.{line_data}
use Rattle.session_file.specs.declared.played.Played.{Played}
use Rattle.session_file.specs.Playing.{Does, HasPlayed, sending}
use Rattle.session_file.proofs.PlayLemmas.{if-ok-both, played}
use Rattle.session_file.proofs.playing.play_over.Goals as goal

-- the tasks are on the lines that they were opened on, and so are the event channels
pub finish-requires : goal.finish-requires
finish-requires c = record {
  tasks = c.play_all.ensures.tasks ∙ c.in_ok-player.ensures.tasks ∙ sym c.in-Ok.ensures.does.advances.lines;
}

-- from the slave that was opened to its end
pub returns : goal.returns
returns c =
    let opened = c.in_ok-player.player in
    let last = c.play_all.new.player in
    let lines = map line_data c.args.script.now in
    let does = subst (λ n. Does (sending opened.slave opened.out.contents) (sending last.slave last.out.contents) n last.refused lines)
    c.in_ok-player.ensures.none_refused c.in-Ok.ensures.does in
    record {
      played =
          if-ok-both _ _ _ (λ (came : Played). HasPlayed c.args.profile lines came.refused came.sent.contents)
          (λ (came : Played) refused ends.
          subst (λ n. HasPlayed c.args.profile lines n came.sent.contents) (sym refused)
          (played c.args.profile (sending opened.slave opened.out.contents) (sending last.slave last.out.contents) (sending ends.0 came.sent.contents)
          lines last.refused c.in_ok-player.ensures.stands c.in_ok-player.ensures.none_sent does ends.1))
          c.finish.ensures.refused c.finish.ensures.ends;
    }
