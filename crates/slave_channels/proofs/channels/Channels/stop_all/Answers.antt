use Rattle.std.proofs.Common.{◌≡◌, ◌<◌, ◌≤◌, length, ap, arith, sym, subst, ◌∙◌}
use Rattle.xcp_base.specs.declared.limits.TheConstants.{MAX_CHANNELS}
use Rattle.slave_channels.specs.Calls.{StopsAll}
use Rattle.slave_channels.proofs.EachLemmas.{front-all, front-next, front-seen}
use Rattle.slave_channels.proofs.channels.Channels.stop_all.Goals as goal

-- as many as before
pub invariant_of-self : goal.invariant_of-self
invariant_of-self c =
    let view : length c.self.inside.all.items ≡ length c.args.self.now = ap length c.self.view_is in
    subst (λ n. n ≤ MAX_CHANNELS) (view ∙ sym c.loop-c.invariant.as_many) c.self.invariant

-- no channel yet
pub loop-c-init : goal.loop-c-init
loop-c-init c = front-seen (λ k. StopsAll c.args.lists) c.self.inside.all.items c.args.self.now c.self.view_is

-- one channel more
pub loop-c-preserved : goal.loop-c-preserved
loop-c-preserved c =
    let view : length c.self.inside.all.items ≡ length c.args.self.now = ap length c.self.view_is in
    let here : c.loop-c.c < length c.loop-c.self-inside.all.items =
    omega (arith, c.loop-c-test.true, c.loop-c.auto.c-end, c.len-c-end.ensures, c.self.inside.all.ok.0, c.loop-c.invariant.as_many, view) in
    front-next (λ k. StopsAll c.args.lists) c.loop-c.c _ _ c.index_mut.result.now c.stop_all.new.self c.index_mut.ensures.value here c.loop-c.invariant c.stop_all.ensures.orders

-- these are all
pub returns : goal.returns
returns c =
    let view : length c.self.inside.all.items ≡ length c.args.self.now = ap length c.self.view_is in
    let all : length c.args.self.now ≤ c.loop-c.c = omega (arith, c.loop-c-test.false, c.loop-c.auto.c-end, c.len-c-end.ensures, c.self.inside.all.ok.0, view) in
    record { orders = front-all (λ k. StopsAll c.args.lists) c.loop-c.c _ _ c.loop-c.invariant all }
