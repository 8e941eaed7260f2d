use Rattle.std.proofs.Common.{◌≡◌, ◌∙◌, ◌==◌, ◌++◌, ◌∷◌, [], ap, sym, subst, true, if◌then◌else◌, OnOk}
use Rattle.captured_samples.specs.Samples.{shown_of}
use Rattle.captured_samples.proofs.list_samples.ListSamples.go_on.Goals as goal

-- one of ODT 0 begins a sample
pub returns-then-odt-eq0-clause-shown : goal.returns-then-odt-eq0-clause-shown
returns-then-odt-eq0-clause-shown c l before stands =
    let first : (c.args.odt == 0) ≡ true = ap (λ n. n == 0) c.if-odt-eq0.true in
    let begun = c.add.ensures.shown l [] (c.clear.ensures ∙ ap (λ it. shown_of it.list []) stands) in
    subst (λ is. OnOk c.add.result (c.add.new.self ≡ shown_of l ((if is then [] else before) ++ c.args.packet.now ∷ []))) (sym first) begun
