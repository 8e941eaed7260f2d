use Rattle.std.proofs.Common.{◌≡◌, ◌++◌, ◌∷◌, [], Some, None, sym, ap, ◌∙◌, rules}
use Rattle.toml.specs.View.{view}
use Rattle.run_file.specs.Keys.{cap_in}
use Rattle.run_file.proofs.KeyLemmas.{all_of-more, all_of-none}
use Rattle.run_file.proofs.keys.numbers_in.Goals as goal

pub returns-in_default : goal.returns-in_default
returns-in_default c =
    let none : cap_in c.args.kind (view c.value-item.result) ≡ None = search (rules, c.number_in.ensures.value, c.in_default.is) in
    sym (all_of-none (cap_in c.args.kind) c.args.values.now c.loop-value.value-index c.value-item.result c.loop-value-test.true
    (ap (λ v. cap_in c.args.kind (view v)) (sym c.value-item.is) ∙ none))

pub loop-value-preserved : goal.loop-value-preserved
loop-value-preserved c =
    let read : cap_in c.args.kind (view c.value-item.result) ≡ Some c.in-Some.cap = search (rules, c.number_in.ensures.value, c.in-Some.is) in
    let pushed : c.push.new.self.items ≡ c.loop-value.caps.items ++ c.in-Some.cap ∷ [] = search (rules, c.push.ensures.items) in
    all_of-more (cap_in c.args.kind) c.args.values.now c.loop-value.value-index c.value-item.result c.loop-value.caps.items c.in-Some.cap
    c.loop-value-test.true c.value-item.is c.loop-value.invariant read ∙ ap Some (sym pushed)
