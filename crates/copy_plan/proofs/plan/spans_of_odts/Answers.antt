use Rattle.std.proofs.Common.{◌≡◌, ◌<◌, ◌++◌, [], ◌∷◌, List, length, map, take, get_or, ap, sym, ◌∙◌, arith, Option}
use Rattle.std.proofs.lemmas.List.{take_more}
use Rattle.std.proofs.lemmas.List.Elements.{All-append, All-cons, All-nil}
use Rattle.std.proofs.lemmas.Option.{unwrap_or-slice_get}
use Rattle.copy_plan.specs.declared.span.Span.{Span}
use Rattle.daq_store.specs.declared.entry.Entry.{Entry}
use Rattle.copy_plan.specs.Config.{written_entries}
use Rattle.copy_plan.specs.Inner.Joined.{joined_spans}
use Rattle.copy_plan.specs.Inner.Stretched.{ArePlaced, SpansState}
use Rattle.copy_plan.proofs.StretchLemmas.{map_one}
use Rattle.copy_plan.proofs.plan.spans_of_odts.Goals as goal

-- the spans of one ODT more
pub loop-odt-preserved : goal.loop-odt-preserved
loop-odt-preserved c =
    let channel = c.args.channel in
    let segments = c.args.segments.now in
    let odts : List (List (Option Entry)) = c.args.conf.now.odts in
    let k = c.loop-odt.odt in
    let there : k < length odts = omega (arith, c.loop-odt-test.true, c.odts-odt-end.ensures.count) in
    let joined : List (Option Entry) → List Span = λ es. joined_spans (written_entries channel segments es) in
    let es : List (Option Entry) = get_or odts k [] in
    let new : SpansState = c.in_ok-of.field-0 in
    let own : new.spans ≡ joined es = c.in_ok-of.ensures.spans ∙ ap joined (unwrap_or-slice_get odts k []) in
    rw c.in_ok-push.ensures.items (
      map_one (λ (s : SpansState). s.spans) c.loop-odt.odts.items new
          ∙ ap (λ xs. xs ++ new.spans ∷ []) c.loop-odt.invariant.0
          ∙ ap (λ x. map joined (take k odts) ++ x ∷ []) own
          ∙ sym (ap (map joined) (take_more odts k [] there) ∙ map_one joined (take k odts) es),
      All-append (ArePlaced channel segments) c.loop-odt.odts.items (new ∷ []) c.loop-odt.invariant.1 (All-cons (ArePlaced channel segments) new [] c.in_ok-of.ensures.placed (All-nil (ArePlaced channel segments))),
    )
