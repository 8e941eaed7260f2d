use Rattle.std.proofs.Common.{ap, ◌∙◌, ◌++◌, ◌∷◌, [], map, filter}
use Rattle.daq_reader.specs.Ready.{first_reading, shows_ready}
use Rattle.daq_reader.proofs.ReadyLemmas.{ready-next}
use Rattle.daq_reader.proofs.ready.reader_of.Goals as goal

-- list l is looked at, and added if it is ready
pub loop-l-preserved : goal.loop-l-preserved
loop-l-preserved c =
    let s = c.args.store.now in
    let e = c.in_ok-add_list.ensures in
    let here = map (first_reading s) (filter (shows_ready s) (c.loop-l.l ∷ [])) in
    (e.value ∙ ap (λ ps. ps ++ here) c.loop-l.invariant.0 ∙ ready-next s c.loop-l.l, e.stands c.loop-l.invariant.1)
