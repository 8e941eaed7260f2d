use Rattle.std.proofs.Common.{◌≡◌, ◌++◌, ◌∷◌, [], ℕ, List, Option, ap, sym, ◌∙◌}
use Rattle.std.proofs.lemmas.List.{append-nil}
use Rattle.captured_session.specs.Lists.{ListOf}
use Rattle.captured_samples.specs.Standing.{handed}
use Rattle.captured_samples.specs.declared.kept_samples.KeptSample.{KeptSample}
use Rattle.captured_samples.proofs.KeptLemmas.{kept-more, ok-of}
use Rattle.captured_samples.proofs.kept_samples.KeptSamplesSampleSink.hand.Goals as goal

pub returns-else-is_err : goal.returns-else-is_err
returns-else-is_err c before are short =
    let samples = c.args.self.now.samples.items in
    let bytes = c.args.self.now.bytes.items in
    let ok = sym c.is_err.ensures.value ∙ c.if-is_err.false in
    let list = c.list-2.ensures ∙ ap (λ (l : ListOf). l.list) c.list.ensures in
    let is : ◌≡◌ {A = KeptSample} (record { number = c.args.number; list = c.list-2.result; mark = c.args.mark; ticks = c.ticks.result })
    (record { number = c.args.number; list = c.args.sample.now.list.list; mark = c.args.mark; ticks = c.args.sample.now.ticks }) =
    ap (λ (n : ℕ). record { number = c.args.number; list = n; mark = c.args.mark; ticks = c.ticks.result }) list
    ∙ ap (λ (o : Option ℕ). record { number = c.args.number; list = c.args.sample.now.list.list; mark = c.args.mark; ticks = o }) c.ticks.ensures in
    kept-more samples c.keep.new.self.samples.items bytes c.keep.new.self.bytes.items before (handed c.args.number c.args.sample.now c.args.mark ∷ [])
    (are (sym c.keep.ensures.stays ∙ short))
    (ok-of c.keep.result _ c.keep.ensures.samples ok ∙ ap (λ (k : KeptSample). samples ++ k ∷ []) is)
    (ok-of c.keep.result _ c.keep.ensures.bytes ok
    ∙ ap (λ (bs : List ℕ). bytes ++ bs) (c.bytes.ensures ∙ sym (append-nil c.args.sample.now.bytes)))
