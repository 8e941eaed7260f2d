use Rattle.std.proofs.Common.{arith, ap, sym, ◌∙◌}
use Rattle.std.specs.Prelude.{slice_get, Some}
use Rattle.std.proofs.lemmas.Option.{slice_get_read}
use Rattle.daq_reader.specs.Inner.Slots.{slots_view}
use Rattle.daq_reader.proofs.SlotLemmas.{slots_at}
use Rattle.daq_reader.proofs.slots.Slots.get.Goals as goal

-- a slot stands where it was laid out
pub returns-clause-place : goal.returns-clause-place
returns-clause-place c =
    let read = slice_get_read c.self.inside.slots.items c.len.result c.args.entry c.index.result.now (omega arith) c.if-entry-len.false c.index.ensures in
    rw (← c.self.view_is) (slots_at (slots_view c.self.inside) c.args.entry (Some c.index.result.now) (sym read ∙ ap (λ xs. slice_get xs c.args.entry) c.self.invariant.slots))
