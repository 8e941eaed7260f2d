use Rattle.std.proofs.Common.{[], ap, ◌++◌, ◌∷◌, ◌∙◌, subst, sym, take}
use Rattle.std.proofs.lemmas.List.{take_more}
use Rattle.recording.specs.Measured.{HaveGroups}
use Rattle.recording.proofs.MeasuredLemmas.{list_more}
use Rattle.recording.proofs.file_groups.add_lists.Goals as goal

-- the group of one list more
pub loop-shape-preserved : goal.loop-shape-preserved
loop-shape-preserved g c =
    let values = c.args.values in
    let shapes = c.args.shapes.now in
    let old = c.loop-shape.file in
    let new = c.add_list.new.file in
    let i = c.loop-shape.shape-index in
    let adds = c.in_ok-add_list.ensures.group in
    let more = list_more values.tick values.columns.now (take i shapes) c.shape-item.result old new c.loop-shape.invariant.0 adds in (
      subst (λ plans. HaveGroups values.tick values.columns.now plans [] new.forms new.file.groups) (ap (λ x. take i shapes ++ x ∷ []) c.shape-item.is ∙ sym (take_more shapes i _ c.loop-shape-test.true)) more,
      adds.adds.group.about ∙ c.loop-shape.invariant.1,
      λ before stays. c.in_ok-add_list.ensures.unfinished before (c.loop-shape.invariant.2 before stays),
    )
