use Rattle.std.proofs.Common.{◌≡◌, ◌++◌, ◌∷◌, [], length, None, Some, refl, sym, ap, ◌∙◌, rules, inr}
use Rattle.toml.specs.View.{view}
use Rattle.run_file.proofs.KeyLemmas.{all_of-more}
use Rattle.session_file.specs.Memory.{segment_in}
use Rattle.session_file.proofs.ItemLemmas.{first_none-at}
use Rattle.session_file.proofs.memory.segments_in.Goals as goal

-- the value is no segment, and its place is how many were read
pub returns-in_default-clause-err : goal.returns-in_default-clause-err
returns-in_default-clause-err c =
    let none : segment_in c.args.channels (view c.value-item.result) ≡ None = search (rules, c.segment_in.ensures, c.in_default.is) in
    let size : c.len.result ≡ length c.loop-value.segments.items = search (rules, c.len.ensures) in
    inr (
      c.len.result,
      refl,
      first_none-at (segment_in c.args.channels) c.args.values.now c.loop-value.value-index c.value-item.result c.loop-value.segments.items
          c.loop-value-test.true c.loop-value.invariant (ap (λ v. segment_in c.args.channels (view v)) (sym c.value-item.is) ∙ none)
          ∙ ap Some (sym size),
    )

-- one more segment was read
pub loop-value-preserved : goal.loop-value-preserved
loop-value-preserved c =
    let read : segment_in c.args.channels (view c.value-item.result) ≡ Some c.in-Some.segment = search (rules, c.segment_in.ensures, c.in-Some.is) in
    let pushed : c.push.new.self.items ≡ c.loop-value.segments.items ++ c.in-Some.segment ∷ [] = search (rules, c.push.ensures.items) in
    all_of-more (segment_in c.args.channels) c.args.values.now c.loop-value.value-index c.value-item.result c.loop-value.segments.items c.in-Some.segment
    c.loop-value-test.true c.value-item.is c.loop-value.invariant read ∙ ap Some (sym pushed)
