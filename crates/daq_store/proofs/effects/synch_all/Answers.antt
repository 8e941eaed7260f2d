-- one list more is written
use Rattle.daq_store.specs.Inner.Effects.{synched}
use Rattle.std.proofs.lemmas.List.Edits.{map_over_more}
use Rattle.daq_store.proofs.effects.synch_all.Goals as goal

pub loop-state-preserved : goal.loop-state-preserved
loop-state-preserved c =
    rw (c.synch.ensures, ← c.state-item.is)
    (map_over_more (synched c.args.mode) c.args.lists.now c.loop-state.lists c.loop-state.state-index c.state-item.result c.loop-state-test.true c.loop-state.invariant c.state-item.is)
