use Rattle.std.proofs.Common.{ap, sym, ◌∙◌, refl, arith, map, option_map, [], ◌∷◌, None, Some}
use Rattle.std.proofs.lemmas.Grind.{common_steps}
use Rattle.std.proofs.lemmas.List.{map-append}
use Rattle.captured_session.specs.Lists.{odt_at}
use Rattle.captured_session.proofs.ListLemmas.{never-all, next-odt}
use Rattle.captured_session.proofs.lists.all_odts.Goals as goal

-- an ODT that isn't known leaves all unknown
pub returns-in_default-clause-value : goal.returns-in_default-clause-value
returns-in_default-clause-value c =
    let here = sym (ap (option_map (λ v. v.items)) c.in_default.is) ∙ c.in_ok-elements.ensures.value in
    never-all (odt_at c.args.facts.now c.args.list) c.args.count c.loop-odt.odt c.loop-odt-test.true
    (next-odt (odt_at c.args.facts.now c.args.list) c.loop-odt.odt (map (λ xs. xs.items) c.loop-odt.odts.items) None None
    c.loop-odt.invariant.0 here refl)

-- one ODT more
pub loop-odt-preserved : goal.loop-odt-preserved
loop-odt-preserved c =
    let here = sym (ap (option_map (λ v. v.items)) c.in-Some.is) ∙ c.in_ok-elements.ensures.value in (
      next-odt (odt_at c.args.facts.now c.args.list) c.loop-odt.odt (map (λ xs. xs.items) c.loop-odt.odts.items)
          (Some c.in-Some.elements.items) (Some (map (λ xs. xs.items) c.push.new.self.items)) c.loop-odt.invariant.0 here
          (ap Some (sym (ap (map (λ xs. xs.items)) c.in_ok-push.ensures.items
          ∙ map-append (λ xs. xs.items) c.loop-odt.odts.items (c.in-Some.elements ∷ [])))),
      grind (arith, common_steps, c.in_ok-push.ensures.items, c.loop-odt.invariant.1, c.in_ok-elements.ensures.few, c.in-Some.is),
    )
