use Rattle.slave_outbox.proofs.AbsentLemmas.{no-line-stands}
use Rattle.slave_outbox.proofs.AccountLemmas.{counts-are, line-of}
use Rattle.slave_outbox.proofs.intake.Intake.line.Goals as goal

-- the counts are those of the list's pairs, and so many of its samples were written
pub returns-clause-line : goal.returns-clause-line
returns-clause-line c = λ past deeds stands ends plans front.
    let counts = counts-are past c.args.l c.counts.result c.in_ok-counts.counts c.in_ok-counts.was (rw c.byte-list.ensures.value at c.counts.ensures.after _ _ past ends) in
    rw c.byte-list.ensures.value (line-of past deeds c.args.l c.in_ok-counts.counts c.written-written.result c.saturating_sub.result counts (c.written-written.ensures.after deeds stands) c.saturating_sub.ensures plans ends.decisions front)

-- a list without counts is none of the channel's
pub returns-in_err-counts-clause-nothing : goal.returns-in_err-counts-clause-nothing
returns-in_err-counts-clause-nothing c = λ none past deeds stands ends plans front.
    no-line-stands past deeds c.args.l c.counts.result c.in_err-counts.was (rw c.byte-list.ensures.value at c.counts.ensures.after _ _ past ends) plans ends.decisions front
