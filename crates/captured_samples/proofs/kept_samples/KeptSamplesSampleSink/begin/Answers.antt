use Rattle.std.proofs.Common.{◌∷◌, [], sym}
use Rattle.std.proofs.lemmas.List.{append-nil}
use Rattle.captured_samples.specs.Standing.{began}
use Rattle.captured_samples.proofs.KeptLemmas.{kept-more}
use Rattle.captured_samples.proofs.kept_samples.KeptSamplesSampleSink.begin.Goals as goal

pub returns : goal.returns
returns c before are short =
    let samples = c.args.self.now.samples.items in
    let bytes = c.args.self.now.bytes.items in
    kept-more samples samples bytes bytes before (began c.args._number c.args._list.now ∷ []) (are short) (sym (append-nil samples))
    (sym (append-nil bytes))
