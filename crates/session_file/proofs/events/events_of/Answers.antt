use Rattle.std.proofs.Common.{◌≡◌, ◌++◌, ◌∷◌, [], length, map, None, Some, option_map, refl, sym, ap, ◌∙◌, rules, inr}
use Rattle.toml.specs.View.{view}
use Rattle.run_file.proofs.KeyLemmas.{all_of-more}
use Rattle.run_file.proofs.ReadLemmas.{length-map-any, map-push}
use Rattle.session_file.specs.Events.{event_data, event_in}
use Rattle.session_file.proofs.ItemLemmas.{first_none-at}
use Rattle.session_file.proofs.events.events_of.Goals as goal

-- the value is no event channel, and its place is how many were read
pub returns-in_default-read-clause-err : goal.returns-in_default-read-clause-err
returns-in_default-read-clause-err c =
    let read : None ≡ event_in (view c.value-item.result) = ap (option_map event_data) (sym c.in_default-read.is) ∙ c.in-Ok.ensures in
    let count : c.len.result ≡ length c.loop-value.events.items = search (rules, c.len.ensures) in
    let size = count ∙ sym (length-map-any event_data c.loop-value.events.items) in
    inr (
      c.len.result,
      refl,
      first_none-at event_in c.args.values.now c.loop-value.value-index c.value-item.result (map event_data c.loop-value.events.items)
          c.loop-value-test.true c.loop-value.invariant (ap (λ v. event_in (view v)) (sym c.value-item.is) ∙ sym read)
          ∙ ap Some (sym size),
    )

-- one more event channel was read
pub loop-value-preserved : goal.loop-value-preserved
loop-value-preserved c =
    let read : Some (event_data c.in-Some.event) ≡ event_in (view c.value-item.result) =
    ap (option_map event_data) (sym c.in-Some.is) ∙ c.in-Ok.ensures in
    let pushed : c.push.new.self.items ≡ c.loop-value.events.items ++ c.in-Some.event ∷ [] = search (rules, c.push.ensures.items) in
    let at_end = ap (map event_data) pushed ∙ map-push event_data c.loop-value.events.items c.in-Some.event in
    all_of-more event_in c.args.values.now c.loop-value.value-index c.value-item.result (map event_data c.loop-value.events.items)
    (event_data c.in-Some.event) c.loop-value-test.true c.value-item.is c.loop-value.invariant (sym read)
    ∙ ap Some (sym at_end)
