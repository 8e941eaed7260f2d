use Rattle.std.proofs.Common.{ℕ}
use Rattle.session.specs.Starts.{is_on_after, shows_on}
use Rattle.session.proofs.ListSetLemmas.{below-next}
use Rattle.session.proofs.list_sets.ready_on.Goals as goal

-- list l is added if it is on the event channel
pub loop-l-preserved : goal.loop-l-preserved
loop-l-preserved c =
    let s = c.args.store.now in
    let one = rw c.at.ensures at c.with_list_if-set.ensures in
    let set : ℕ = c.loop-l.set in
    let new : ℕ = c.with_list_if-set.result in
    record {
      shown = below-next set new c.loop-l.l (shows_on s c.args.channel) c.is_on.result c.is_on.ensures.shown c.loop-l.invariant.shown one;
      after = λ calls h. below-next set new c.loop-l.l (is_on_after s.profile calls c.args.channel) c.is_on.result (c.is_on.ensures.after calls h) (c.loop-l.invariant.after calls h) one;
    }
