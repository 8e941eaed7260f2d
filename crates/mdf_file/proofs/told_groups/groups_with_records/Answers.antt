use Rattle.std.proofs.Common.{◌≡◌, ◌∙◌, All, List, [], map, map-id, subst, sym}
use Rattle.std.proofs.lemmas.Iterator.Adapters.{YieldsList-from_vec}
use Rattle.std.proofs.lemmas.Iterator.Consumers.{YieldsList-end}
use Rattle.mdf_file.specs.Ending.{AreOf, HoldRecords}
use Rattle.mdf_file.specs.Standing.{AllHold, IsEmpty, IsHandled, seen}
use Rattle.mdf_file.specs.Writing.{told_groups}
use Rattle.mdf_file.specs.declared.open_group.OpenGroup.{OpenGroup}
use Rattle.mdf_file.specs.declared.streamed_group.StreamedGroup.{StreamedGroup}
use Rattle.mdf_file.proofs.TellingLemmas.{AreThose, none_are, those_more}
use Rattle.mdf_file.proofs.told_groups.groups_with_records.Goals as goal

-- no group was looked at yet
pub loop-group-init : goal.loop-group-init
loop-group-init c handled none =
    subst (λ (out : List StreamedGroup). AreThose [] out) (sym c.new-out.ensures.items) none_are

-- one group more
pub loop-group-preserved : goal.loop-group-preserved
loop-group-preserved c handled none =
    those_more c.loop-group.yielded c.in-Some.group c.loop-group.out.items
    c.push_if_any.new.out.items c.loop-group.invariant c.in_ok-push_if_any.ensures.none
    c.in_ok-push_if_any.ensures.some handled none

-- all groups were looked at
pub returns-clause-told : goal.returns-clause-told
returns-clause-told c =
    let given = c.into_iter-group-iterator.ensures.into_iter_gives in
    let seen_all = YieldsList-end
    (YieldsList-from_vec {s = c.into_iter-group-iterator.result} c.args.groups.items given.0
    (given.1 ∙ c.args.groups.ok.0))
    c.loop-group.yielded c.loop-group.group-iterator c.loop-group.yielded_by c.next.result
    c.next.new.self c.in-None.is c.next.ensures.steps in
    let same : c.args.groups.items ≡ c.loop-group.yielded =
    sym (sym (map-id c.loop-group.yielded) ∙ seen_all.0) in
    let those = c.loop-group.invariant (subst (All IsHandled) same c.requires.handled)
    (subst (All IsEmpty) same c.requires.empty) in
    subst (λ (gs : List OpenGroup). AreOf c.loop-group.out.items (told_groups (map seen gs)))
    (sym same) those.are

pub returns-clause-hold : goal.returns-clause-hold
returns-clause-hold c bytes all =
    let given = c.into_iter-group-iterator.ensures.into_iter_gives in
    let seen_all = YieldsList-end
    (YieldsList-from_vec {s = c.into_iter-group-iterator.result} c.args.groups.items given.0
    (given.1 ∙ c.args.groups.ok.0))
    c.loop-group.yielded c.loop-group.group-iterator c.loop-group.yielded_by c.next.result
    c.next.new.self c.in-None.is c.next.ensures.steps in
    let same : c.args.groups.items ≡ c.loop-group.yielded =
    sym (sym (map-id c.loop-group.yielded) ∙ seen_all.0) in
    let those = c.loop-group.invariant (subst (All IsHandled) same c.requires.handled)
    (subst (All IsEmpty) same c.requires.empty) in
    subst (λ (gs : List OpenGroup).
    HoldRecords bytes c.loop-group.out.items (told_groups (map seen gs)))
    (sym same)
    (those.hold bytes (subst (λ (gs : List OpenGroup). AllHold gs bytes) same all))
