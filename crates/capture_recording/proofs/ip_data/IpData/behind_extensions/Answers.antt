use Rattle.std.proofs.Common.{inr, refl, sym, ◌∙◌}
use Rattle.std.proofs.lemmas.Option.{none-some}
use Rattle.capture_recording.specs.Talks.{data_of}
use Rattle.capture_recording.proofs.ChainLemmas.{not-extended}
use Rattle.capture_recording.proofs.ip_data.IpData.behind_extensions.Goals as goal

pub returns-in-Some-part : goal.returns-in-Some-part
returns-in-Some-part c =
    let chain = c.in-Some.ensures.some in
    inr (λ x is. not-extended (data_of c.args.self) x chain.0 _ chain.1 (λ none. none-some _ (sym none ∙ c.in-Some-part.is)) is, refl)
