use Rattle.std.proofs.Common.{◌<◌, length, sym, ◌∙◌, arith}
use Rattle.slave_channels.specs.Channels.{keeps_within}
use Rattle.slave_channels.proofs.CallLemmas.{keep-all, keep-first, keep-more, keeps-here}
use Rattle.slave_channels.proofs.channels.Channels.has_parts_within.Goals as goal

pub loop-c-init : goal.loop-c-init
loop-c-init c = keep-first (keeps_within c.args.from c.args.to) c.self.inside.all.items

-- one is kept here
pub returns-then-has_part_within-clause-some : goal.returns-then-has_part_within-clause-some
returns-then-has_part_within-clause-some c = λ _.
    let here : c.loop-c.c < length c.self.inside.all.items = omega (arith, c.loop-c-test.true, c.len-c-end.ensures) in
    keeps-here (keeps_within c.args.from c.args.to) c.self.inside.all.items c.args.self.now c.loop-c.c c.index.result.now c.self.view_is c.index.ensures here (sym c.has_part_within.ensures ∙ c.if-has_part_within.true)

-- none is kept here
pub loop-c-preserved : goal.loop-c-preserved
loop-c-preserved c =
    let here : c.loop-c.c < length c.self.inside.all.items = omega (arith, c.loop-c-test.true, c.len-c-end.ensures) in
    keep-more (keeps_within c.args.from c.args.to) c.self.inside.all.items c.loop-c.c c.index.result.now c.index.ensures here (sym c.has_part_within.ensures ∙ c.if-has_part_within.false) c.loop-c.invariant

pub returns-clause-none : goal.returns-clause-none
returns-clause-none c = λ _. keep-all (keeps_within c.args.from c.args.to) c.self.inside.all.items c.args.self.now c.loop-c.c c.self.view_is (omega (arith, c.loop-c-test.false, c.len-c-end.ensures)) c.loop-c.invariant
