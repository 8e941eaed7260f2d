use Rattle.std.proofs.Common.{◌∙◌, ◌++◌, ◌∷◌, [], List, ap, arith, refl}
use Rattle.std.proofs.lemmas.List.{map_push}
use Rattle.std.proofs.lemmas.List.Elements.{All-push}
use Rattle.copy_plan.specs.Config.{ListPlan}
use Rattle.value_tables.specs.Lists.{HasSources}
use Rattle.value_tables.specs.declared.list_columns.ListColumns.{ListColumns}
use Rattle.value_tables.proofs.list_columns.lists_of.Goals as goal

-- there are none yet
pub loop-shape-init : goal.loop-shape-init
loop-shape-init c = rw c.in_ok-lists.ensures.items (refl, λ k d below. absurd (omega (arith, below)))

-- the list of the shape stands behind those before, with its sources
pub loop-shape-preserved : goal.loop-shape-preserved
loop-shape-preserved c =
    let lists = c.loop-shape.lists.items in
    let one : ListColumns = record { shape = c.in-Some.shape; sources = c.in_ok-sources.sources } in
    let plans = map_push (λ (l : ListColumns). l.shape) lists one ∙ ap (λ (ps : List ListPlan). ps ++ c.in-Some.shape ∷ []) c.loop-shape.invariant.0 in
    rw c.in_ok-push.ensures.items
    (plans, All-push (HasSources c.args.columns.now) lists one c.loop-shape.invariant.1 c.in_ok-sources.ensures)
