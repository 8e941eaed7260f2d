use Rattle.std.proofs.Common.{◌≡◌, ◌≢◌, ◌<◌, false, get_or, length, ap, subst, ◌∙◌, arith}
use Rattle.std.proofs.lemmas.Grind.{get_or_default_zero}
use Rattle.slave_channels.specs.Channels.{keeps_two}
use Rattle.slave_channels.specs.Calls.{HasSome}
use Rattle.slave_channels.proofs.CallLemmas.{full-here, room-all, room-first, room-more}
use Rattle.slave_channels.proofs.channels.Channels.can_open.Goals as goal

pub loop-c-init : goal.loop-c-init
loop-c-init c = room-first c.args.lists.now c.self.inside.all.items

-- there is none here
pub returns-then-not-can_open_one-clause-no : goal.returns-then-not-can_open_one-clause-no
returns-then-not-can_open_one-clause-no c = λ _.
    let view : length c.self.inside.all.items ≡ length c.args.self.now = ap length c.self.view_is in
    let here : c.loop-c.c < length c.self.inside.all.items = omega (arith, c.loop-c-test.true, c.len-c-end.ensures) in
    let within : c.loop-c.c < length c.args.lists.now = omega (arith, here, view, c.requires.lists) in
    let set : c.index-lists-c.result ≡ get_or c.args.lists.now c.loop-c.c 0 = c.index-lists-c.is ∙ get_or_default_zero c.args.lists.now c.loop-c.c c.index-lists-c.result within in
    full-here c.args.lists.now c.self.inside.all.items c.args.self.now c.loop-c.c c.index.result.now c.self.view_is c.index.ensures here within
    (subst HasSome set (c.can_open_one.ensures.some c.if-not-can_open_one.true)) (c.can_open_one.ensures.no c.if-not-can_open_one.true)

-- there is room here
pub loop-c-preserved : goal.loop-c-preserved
loop-c-preserved c =
    let view : length c.self.inside.all.items ≡ length c.args.self.now = ap length c.self.view_is in
    let here : c.loop-c.c < length c.self.inside.all.items = omega (arith, c.loop-c-test.true, c.len-c-end.ensures) in
    let within : c.loop-c.c < length c.args.lists.now = omega (arith, here, view, c.requires.lists) in
    let set : c.index-lists-c.result ≡ get_or c.args.lists.now c.loop-c.c 0 = c.index-lists-c.is ∙ get_or_default_zero c.args.lists.now c.loop-c.c c.index-lists-c.result within in
    room-more c.args.lists.now c.self.inside.all.items c.loop-c.c c.index.result.now c.index.ensures here within
    (subst (λ n. n ≢ 0 → keeps_two c.index.result.now ≡ false) set (c.can_open_one.ensures.yes c.if-not-can_open_one.false)) c.loop-c.invariant

pub returns-clause-yes : goal.returns-clause-yes
returns-clause-yes c = λ _. room-all c.args.lists.now c.self.inside.all.items c.args.self.now c.loop-c.c c.self.view_is (omega (arith, c.loop-c-test.false, c.len-c-end.ensures)) c.loop-c.invariant
