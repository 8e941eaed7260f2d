use Rattle.std.proofs.Common.{◌≡◌, ◌<◌, Some, ap, length, slice_get, sym, arith, true≢false, ◌∙◌}
use Rattle.std.proofs.lemmas.Grind.{common_steps}
use Rattle.std.proofs.lemmas.Option.{slice_get-get_or}
use Rattle.captured_session.specs.declared.session_fault.SessionFault.TheVariants.{ManyFacts}
use Rattle.capture_recording.specs.Refusals.{OrMemory, RefusesConnection}
use Rattle.capture_recording.specs.Slaves.{IsOfDatagrams}
use Rattle.capture_recording.specs.declared.capture_read_fault.CaptureReadFault.TheVariants.{Session}
use Rattle.capture_recording.proofs.RefusalLemmas.{or-memory}
use Rattle.capture_recording.proofs.ResultLemmas.{handed-on}
use Rattle.capture_recording.proofs.SlavesLemmas.{all-end-more, kept-before}
use Rattle.capture_recording.proofs.slaves.end_all.Goals as goal

pub returns-in_err-give_up_holes-clause-err : goal.returns-in_err-give_up_holes-clause-err
returns-in_err-give_up_holes-clause-err g c =
    let within : c.slaves.i < length c.slaves.slaves.items = grind (arith, common_steps) in
    let was = c.index_mut.result.now in
    let at : slice_get c.slaves.slaves.items c.slaves.i ≡ Some was =
    slice_get-get_or c.slaves.slaves.items c.slaves.i was within ∙ ap Some (sym c.index_mut.ensures.value) in
    let kept : IsOfDatagrams was → ⊥ =
    λ plain. true≢false (sym (c.in_err-give_up_holes.ensures.none plain)) in
    let before = kept-before c.args.slaves.now.items c.slaves.slaves.items c.slaves.i was c.slaves.invariant at kept in
    handed-on c.from_residual.result (OrMemory (RefusesConnection c.args.slaves.now.items)) c.in_err-give_up_holes.field-0.0 c.from_residual.ensures.1
    (or-memory (λ f. f ≡ Session ManyFacts) (RefusesConnection c.args.slaves.now.items) c.in_err-give_up_holes.field-0.0
    (λ e. (e, c.slaves.i, before.0, before.1, before.2)) c.in_err-give_up_holes.ensures.err)

pub slaves-preserved : goal.slaves-preserved
slaves-preserved g c =
    let within : c.slaves.i < length c.slaves.slaves.items = grind (arith, common_steps) in
    let was = c.index_mut.result.now in
    all-end-more c.args.slaves.now.items c.slaves.slaves.items c.slaves.i was c.give_up_holes.new.self c.slaves.invariant
    (slice_get-get_or c.slaves.slaves.items c.slaves.i was within ∙ ap Some (sym c.index_mut.ensures.value))
    c.in_ok-give_up_holes.ensures.ok
