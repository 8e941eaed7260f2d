use Rattle.std.proofs.Common.{ap, ◌∙◌, arith, None, Ok, Some}
use Rattle.captured_session.specs.Lists.{entry_at}
use Rattle.captured_session.proofs.ListLemmas.{never-written, next-written}
use Rattle.captured_session.proofs.lists.written_in.Goals as goal

-- an entry that isn't known leaves all unknown
pub returns-then-not-branch-clause-value : goal.returns-then-not-branch-clause-value
returns-then-not-branch-clause-value c =
    let is = c.in_ok-push_known.was ∙ ap Ok c.if-not-branch.true in
    never-written (entry_at c.args.facts.now c.args.list c.args.odt) c.args.count c.loop-entry.entry c.loop-entry-test.true
    (next-written (entry_at c.args.facts.now c.args.list c.args.odt) c.loop-entry.entry c.loop-entry.elements.items c.entry_in.result None
    c.loop-entry.invariant.0 c.entry_in.ensures (c.push_known.ensures.open is))

-- one entry more
pub loop-entry-preserved : goal.loop-entry-preserved
loop-entry-preserved c =
    let is = c.in_ok-push_known.was ∙ ap Ok c.if-not-branch.false in (
      next-written (entry_at c.args.facts.now c.args.list c.args.odt) c.loop-entry.entry c.loop-entry.elements.items c.entry_in.result
          (Some c.push_known.new.elements.items) c.loop-entry.invariant.0 c.entry_in.ensures (c.push_known.ensures.known is),
      omega (arith, c.push_known.ensures.few, c.loop-entry.invariant.1),
    )
