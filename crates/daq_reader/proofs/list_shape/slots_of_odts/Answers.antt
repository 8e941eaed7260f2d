use Rattle.std.proofs.Common.{◌<◌, ◌++◌, ◌∷◌, ◌∙◌, [], List, Option, ap, arith, length, map, sym, take}
use Rattle.std.proofs.lemmas.List.{map_more}
use Rattle.std.proofs.lemmas.Option.{unwrap_or-slice_get}
use Rattle.daq_store.specs.declared.entry.Entry.{Entry}
use Rattle.daq_store.specs.Configuration.{channel_of}
use Rattle.copy_plan.specs.Config.{OdtEntry, written_entries}
use Rattle.daq_reader.proofs.list_shape.slots_of_odts.Goals as goal

-- the slots of one ODT more
pub loop-odt-preserved : goal.loop-odt-preserved
loop-odt-preserved c =
    let f : List (Option Entry) → List OdtEntry = written_entries (channel_of c.args.conf.now.mode) c.args.segments.now in
    let odts : List (List (Option Entry)) = c.args.conf.now.odts in
    let k = c.loop-odt.odt in
    let there : k < length odts = omega (arith, c.loop-odt-test.true, c.odts-odt-end.ensures.count) in
    rw c.in_ok-push.ensures.items (
    ap (λ xs. xs ++ c.in_ok-of.field-0 ∷ []) c.loop-odt.invariant
    ∙ ap (λ x. map f (take k odts) ++ x ∷ []) (c.in_ok-of.ensures ∙ ap f (unwrap_or-slice_get odts k []))
    ∙ sym (map_more f odts k [] there)
    )
