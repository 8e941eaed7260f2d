use Rattle.std.proofs.Common.{◌≡◌, ◌+◌, [], ◌∷◌, ◌++◌, map, take as first, sym, ap, ◌∙◌, subst, arith}
use Rattle.std.proofs.lemmas.List.{map_more}
use Rattle.session_file.specs.Inner.{line_data}
use Rattle.session_file.specs.Playing.{Does, sending}
use Rattle.session_file.proofs.PlayLemmas.{does-more}
use Rattle.session_file.proofs.playing.play_all.Goals as goal

-- one more line was played
pub loop-line-preserved : goal.loop-line-preserved
loop-line-preserved c =
    let was = c.args.player.now in
    let mid = c.loop-line.player in
    let now = c.line.new.self in
    let i = c.loop-line.line-index in
    let script = c.args.script.now in
    let line = c.line-item.result in
    let one = c.in_ok-line.ensures.does in
    let more : map line_data (first (i + 1) script) ≡ map line_data (first i script) ++ line_data line ∷ [] =
    map_more line_data script i line c.loop-line-test.true ∙ ap (λ w. map line_data (first i script) ++ line_data w ∷ []) (sym c.line-item.is) in
    let does = does-more (sending was.slave was.out.contents) (sending mid.slave mid.out.contents) (sending now.slave now.out.contents)
    was.refused mid.refused now.refused (map line_data (first i script)) (line_data line ∷ []) c.loop-line.invariant.0 one in (
      subst (Does (sending was.slave was.out.contents) (sending now.slave now.out.contents) was.refused now.refused) (sym more) does,
      let most = one.most in
          let low = c.loop-line.invariant.1 in
          omega (arith, most, low),
      c.line.ensures.tasks ∙ c.loop-line.invariant.2,
    )
