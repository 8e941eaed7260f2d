use Rattle.std.proofs.Common.{◌≡◌, ℕ, ◌<◌, ◌≤◌, ◌≢◌, ap, arith, get_or, length, subst, sym, ◌∙◌}
use Rattle.std.proofs.lemmas.Grind.{get_or_default_zero}
use Rattle.xcp_base.specs.declared.limits.TheConstants.{MAX_CHANNELS}
use Rattle.slave_channels.specs.Calls.{Ends}
use Rattle.slave_channels.specs.Inner.{EndsAt, IsFront}
use Rattle.slave_channels.proofs.EachLemmas.{front-next, front-seen}
use Rattle.slave_channels.proofs.CallLemmas.{at-place}
use Rattle.slave_channels.proofs.channels.Channels.end_below.Goals as goal

-- as many as before
pub invariant_of-self : goal.invariant_of-self
invariant_of-self c =
    let view : length c.self.inside.all.items ≡ length c.args.self.now = ap length c.self.view_is in
    subst (λ n. n ≤ MAX_CHANNELS) (view ∙ sym c.loop-c.invariant.as_many) c.self.invariant

-- no channel yet
pub loop-c-init : goal.loop-c-init
loop-c-init c = front-seen (EndsAt c.args.lists.now) c.self.inside.all.items c.args.self.now c.self.view_is

-- one channel more
pub loop-c-preserved : goal.loop-c-preserved
loop-c-preserved c =
    let here : c.loop-c.c < length c.args.self.now = omega (arith, c.loop-c-test.true, c.requires.below) in
    let within : c.loop-c.c < length c.args.lists.now = omega (arith, here, c.requires.lists) in
    let set : c.index-lists-c.result ≡ get_or c.args.lists.now c.loop-c.c 0 = c.index-lists-c.is ∙ get_or_default_zero c.args.lists.now c.loop-c.c c.index-lists-c.result within in
    let ends = λ (n : ℕ). (n ≡ 0 → c.end_if_any.new.channel ≡ c.index_mut.result.now) × (n ≢ 0 → Ends c.index_mut.result.now c.end_if_any.new.channel) in
    front-next (EndsAt c.args.lists.now) c.loop-c.c _ _ c.index_mut.result.now c.end_if_any.new.channel c.index_mut.ensures.value (omega (arith, here, c.loop-c.invariant.as_many)) c.loop-c.invariant
    (at-place ends c.args.lists.now c.loop-c.c within (subst ends set (c.end_if_any.ensures.none, c.end_if_any.ensures.ends)))

-- these are the first n
pub returns : goal.returns
returns c =
    let all : c.loop-c.c ≡ c.args.n = omega (arith, c.loop-c-test.false) in
    record { ends = subst (λ k. IsFront (EndsAt c.args.lists.now) k c.args.self.now c.loop-c.self-inside.all.items) all c.loop-c.invariant }
