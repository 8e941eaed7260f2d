use Rattle.std.proofs.Common.{◌++◌, ◌∷◌, ◌∙◌, [], ap, filter, map, sym}
use Rattle.std.proofs.lemmas.List.{map-append}
use Rattle.daq_reader.specs.Lists.{plans_of}
use Rattle.daq_reader.specs.Reading.{Reading}
use Rattle.daq_reader.specs.Ready.{first_reading, ready_below, shows_ready}
use Rattle.daq_reader.proofs.ReadyLemmas.{ready-next}
use Rattle.daq_reader.proofs.ready.shapes_of.Goals as goal

-- list l is looked at, and added if it is ready
pub loop-l-preserved : goal.loop-l-preserved
loop-l-preserved c =
    let s = c.args.store.now in
    let here = map (first_reading s) (filter (shows_ready s) (c.loop-l.l ∷ [])) in
    c.in_ok-add_shape.ensures ∙ ap (λ ps. ps ++ plans_of here) c.loop-l.invariant
    ∙ sym (map-append (λ (a : Reading). a.plan) (ready_below s c.loop-l.l) here)
    ∙ ap plans_of (ready-next s c.loop-l.l)
