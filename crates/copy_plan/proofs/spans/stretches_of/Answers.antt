use Rattle.std.proofs.Common.{◌≡◌, ◌<◌, length, ◌+◌, ◌++◌, [], ◌∷◌, take, get_or, sym, ◌∙◌, arith, List, refl}
use Rattle.std.proofs.lemmas.List.{take_more}
use Rattle.copy_plan.specs.declared.span.Span.{Span}
use Rattle.xcp_base.specs.declared.stretch.Stretch.{Stretch}
use Rattle.copy_plan.proofs.StretchLemmas.{near_in, no_span, same_both, span_more, stretch_more}
use Rattle.copy_plan.proofs.spans.stretches_of.Goals as goal
use Rattle.copy_plan.proofs.spans.stretches_of.Goals.{then-not-goes_on+in_ok-push-2, else-not-goes_on}

-- it begins near the start of its segment
pub offset_in-requires : goal.offset_in-requires
offset_in-requires c =
    let i = c.loop-span.span-index in
    let r : Span = get_or c.args.spans.now i no_span in
    let there : i < length c.args.spans.now = c.loop-span-test.true in
    let near = near_in c.args.channel c.args.segments.now r c.stretch_at-next.result (c.requires.lie i no_span there).ordered (c.requires.near i no_span there) c.stretch_at-next.ensures in
    record { begins = near.begins; near = near.near }

-- the span goes on with the stretch in hand, or begins one
pub loop-span-preserved : goal.loop-span-preserved
loop-span-preserved c =
    let spans : List Span = c.args.spans.now in
    let i = c.loop-span.span-index in
    let r : Span = get_or spans i no_span in
    let next : Stretch = c.stretch_at-next.result in
    let more : take (i + 1) spans ≡ take i spans ++ r ∷ [] = take_more spans i no_span c.loop-span-test.true in
    elim c.if-not-goes_on.branch [
      | then-not-goes_on+in_ok-push-2 w ↦ rw (w.stretches-is, w.stretch-is, w.in_ok-push-2.ensures.items, c.in_ok-push.ensures.items, c.offset_in.ensures, more) (
        omega (arith, c.stretch_at-next.ensures.none),
        span_more c.args.channel c.args.segments.now (c.loop-span.stretches.items ++ c.loop-span.stretch ∷ []) next next (take i spans) c.loop-span.offsets.items r
            (stretch_more c.args.channel c.args.segments.now (c.loop-span.stretches.items ++ c.loop-span.stretch ∷ []) next (take i spans) c.loop-span.offsets.items r c.loop-span.invariant.1 c.stretch_at-next.ensures)
            c.stretch_at-next.ensures refl refl,
      )
      | else-not-goes_on w ↦
          let both = same_both c.loop-span.stretch next (sym c.goes_on.ensures ∙ w.if-not-goes_on.false) in
          rw (w.stretches-is, w.stretch-is, c.in_ok-push.ensures.items, c.offset_in.ensures, more) (
            omega (arith, c.loop-span.invariant.0),
            span_more c.args.channel c.args.segments.now c.loop-span.stretches.items c.loop-span.stretch next (take i spans) c.loop-span.offsets.items r c.loop-span.invariant.1 c.stretch_at-next.ensures both.0 both.1,
          )
    ]
