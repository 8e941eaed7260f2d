use Rattle.std.proofs.Common.{◌≡◌, ◌≢◌, ◌<◌, ◌≤◌, get_or, length, ap, arith, sym, subst, ◌∙◌}
use Rattle.std.proofs.lemmas.Grind.{get_or_default_zero}
use Rattle.std.proofs.lemmas.List.{length-set}
use Rattle.xcp_base.specs.declared.limits.TheConstants.{MAX_CHANNELS}
use Rattle.xcp_base.specs.Lists.{has_list}
use Rattle.tasks.specs.Links.{CanStart}
use Rattle.slave_channels.proofs.EachLemmas.{front-next, front-seen}
use Rattle.slave_channels.proofs.CallLemmas.{FindsPlaces, all-find, all-looked, finds-places, last-looked, no-places}
use Rattle.slave_channels.proofs.channels.Channels.can_start.Goals as goal

-- as many as before
pub invariant_of-self : goal.invariant_of-self
invariant_of-self c =
    let view : length c.self.inside.all.items ≡ length c.args.self.now = ap length c.self.view_is in
    subst (λ n. n ≤ MAX_CHANNELS) (view ∙ sym c.loop-c.invariant.as_many) c.self.invariant

pub invariant_of-self-then-not-can_start_one : goal.invariant_of-self-then-not-can_start_one
invariant_of-self-then-not-can_start_one c =
    let view : length c.self.inside.all.items ≡ length c.args.self.now = ap length c.self.view_is in
    let same = length-set c.loop-c.self-inside.all.items c.loop-c.c c.can_start_one.new.channel in
    subst (λ n. n ≤ MAX_CHANNELS) (view ∙ sym c.loop-c.invariant.as_many ∙ sym same) c.self.invariant

-- no channel yet
pub loop-c-init : goal.loop-c-init
loop-c-init c = front-seen (FindsPlaces c.args.lists.now) c.self.inside.all.items c.args.self.now c.self.view_is

-- there are none at this channel
pub returns-then-not-can_start_one-clause-no : goal.returns-then-not-can_start_one-clause-no
returns-then-not-can_start_one-clause-no c = λ _.
    let view : length c.self.inside.all.items ≡ length c.args.self.now = ap length c.self.view_is in
    let here : c.loop-c.c < length c.args.self.now = omega (arith, c.loop-c-test.true, c.loop-c.auto.c-end, c.len-c-end.ensures, c.self.inside.all.ok.0, view) in
    let within : c.loop-c.c < length c.args.lists.now = omega (arith, here, c.requires.lists) in
    let set : c.index-lists-c.result ≡ get_or c.args.lists.now c.loop-c.c 0 = c.index-lists-c.is ∙ get_or_default_zero c.args.lists.now c.loop-c.c c.index-lists-c.result within in
    no-places c.args.lists.now c.loop-c.c c.loop-c.self-inside.all.items c.can_start_one.new.channel within (omega (arith, here, c.loop-c.invariant.as_many))
    (subst (λ n. n ≢ 0) set (c.can_start_one.ensures.some c.if-not-can_start_one.true))
    (subst (λ n. ¬ CanStart c.can_start_one.new.channel.link.newer (has_list n)) set (c.can_start_one.ensures.no c.if-not-can_start_one.true))

-- and the channels behind it are as they were
pub returns-then-not-can_start_one-clause-looked : goal.returns-then-not-can_start_one-clause-looked
returns-then-not-can_start_one-clause-looked c =
    let view : length c.self.inside.all.items ≡ length c.args.self.now = ap length c.self.view_is in
    let here : c.loop-c.c < length c.args.self.now = omega (arith, c.loop-c-test.true, c.loop-c.auto.c-end, c.len-c-end.ensures, c.self.inside.all.ok.0, view) in
    last-looked c.args.lists.now c.loop-c.c _ c.loop-c.self-inside.all.items c.index_mut.result.now c.can_start_one.new.channel c.index_mut.ensures.value (omega (arith, here, c.loop-c.invariant.as_many))
    c.loop-c.invariant c.can_start_one.ensures.looked

-- one channel more
pub loop-c-preserved : goal.loop-c-preserved
loop-c-preserved c =
    let view : length c.self.inside.all.items ≡ length c.args.self.now = ap length c.self.view_is in
    let here : c.loop-c.c < length c.args.self.now = omega (arith, c.loop-c-test.true, c.loop-c.auto.c-end, c.len-c-end.ensures, c.self.inside.all.ok.0, view) in
    let within : c.loop-c.c < length c.args.lists.now = omega (arith, here, c.requires.lists) in
    let set : c.index-lists-c.result ≡ get_or c.args.lists.now c.loop-c.c 0 = c.index-lists-c.is ∙ get_or_default_zero c.args.lists.now c.loop-c.c c.index-lists-c.result within in
    front-next (FindsPlaces c.args.lists.now) c.loop-c.c _ _ c.index_mut.result.now c.can_start_one.new.channel c.index_mut.ensures.value (omega (arith, here, c.loop-c.invariant.as_many)) c.loop-c.invariant
    (finds-places c.args.lists.now c.loop-c.c c.index_mut.result.now c.can_start_one.new.channel within c.can_start_one.ensures.looked
    (subst (λ n. n ≢ 0 → CanStart c.can_start_one.new.channel.link.newer (has_list n)) set (c.can_start_one.ensures.yes c.if-not-can_start_one.false)))

-- these are all
pub returns-clause-yes : goal.returns-clause-yes
returns-clause-yes c = λ _.
    let view : length c.self.inside.all.items ≡ length c.args.self.now = ap length c.self.view_is in
    let all : length c.args.self.now ≤ c.loop-c.c = omega (arith, c.loop-c-test.false, c.loop-c.auto.c-end, c.len-c-end.ensures, c.self.inside.all.ok.0, view) in
    all-find c.args.lists.now c.loop-c.c c.args.self.now c.loop-c.self-inside.all.items c.loop-c.invariant all

pub returns-clause-looked : goal.returns-clause-looked
returns-clause-looked c = all-looked c.args.lists.now c.loop-c.c c.args.self.now c.loop-c.self-inside.all.items c.loop-c.invariant
