use Rattle.std.proofs.Common.{sym, ◌∙◌, ◌≡◌}
use Rattle.std.proofs.lemmas.Iterator.Adapters.{YieldsList-from_vec}
use Rattle.std.proofs.lemmas.Iterator.Consumers.{YieldsList-end}
use Rattle.std.proofs.lemmas.List.{map-id}
use Rattle.captured_samples.specs.Standing.{stands}
use Rattle.captured_samples.proofs.ListsLemmas.{has_last, kept-more, kept-none, kept-same, stands-last}
use Rattle.captured_samples.proofs.list_states.kept.Goals as goal

pub loop-list-init : goal.loop-list-init
loop-list-init c start xs e = c.new-kept.ensures.items ∙ kept-none (stands start c.args.set_up.now) xs e

pub loop-list-preserved-in-Continue-branch-2 : goal.loop-list-preserved-in-Continue-branch-2
loop-list-preserved-in-Continue-branch-2 c start xs e =
    let last = has_last xs c.loop-list.yielded c.in-Some.list e in
    kept-more (stands start c.args.set_up.now) xs c.loop-list.yielded c.loop-list.kept.items c.push.new.self.items c.in-Some.list last
    (stands-last start c.args.set_up.now last.x c.in-Some.list c.in_ok-stands.field-0 last.last (c.in_ok-stands.ensures start) ∙ c.if-branch.true)
    (c.loop-list.invariant start last.earlier last.others)
    c.in_ok-push.ensures.items

pub loop-list-preserved : goal.loop-list-preserved
loop-list-preserved c start xs e =
    let last = has_last xs c.loop-list.yielded c.in-Some.list e in
    kept-same (stands start c.args.set_up.now) xs c.loop-list.yielded c.loop-list.kept.items c.in-Some.list last
    (stands-last start c.args.set_up.now last.x c.in-Some.list c.in_ok-stands.field-0 last.last (c.in_ok-stands.ensures start) ∙ c.if-branch.false)
    (c.loop-list.invariant start last.earlier last.others)

pub returns : goal.returns
returns c start xs e =
    let given = c.into_iter-list-iterator.ensures.into_iter_gives in
    let seen = YieldsList-end (YieldsList-from_vec {s = c.into_iter-list-iterator.result} c.args.lists.items given.0 (given.1 ∙ c.args.lists.ok.0))
    c.loop-list.yielded c.loop-list.list-iterator c.loop-list.yielded_by c.next.result c.next.new.self c.in-None.is c.next.ensures.steps in
    let same : c.loop-list.yielded ≡ c.args.lists.items = sym (map-id c.loop-list.yielded) ∙ seen.0 in
    c.loop-list.invariant start xs (same ∙ e)
