use Rattle.std.proofs.Common.{◌∙◌, Bor, List, ℕ, ap, arith, map, string_bytes}
use Rattle.std.proofs.lemmas.List.{map_more, map_push}
use Rattle.mdf_groups.specs.Names.{is_taken}
use Rattle.mdf_groups.proofs.NameLemmas.{names_step}
use Rattle.mdf_groups.proofs.names.names_of.Goals as goal

-- one name more
pub loop-name-preserved : goal.loop-name-preserved
loop-name-preserved c =
    names_step _ _ _ _ _ _ (is_taken c.loop-name.numbers) (is_taken c.next_name.new.numbers)
    (map_more (λ (w : Bor (List ℕ)). w.now) c.args.wanted.now c.loop-name.name-index _
    (omega (arith, c.loop-name-test.true)))
    (ap (map string_bytes) c.in_ok-push.ensures.items
    ∙ map_push string_bytes c.loop-name.names.items c.in_ok-given.given)
    c.loop-name.invariant.0 c.loop-name.invariant.1 c.in_ok-given.ensures.name
    c.in_ok-given.ensures.takes
