use Rattle.std.proofs.Common.{◌≡◌, arith, [], refl, rules, subst}
use Rattle.slave_channels.specs.Calls.{AreNew}
use Rattle.slave_channels.proofs.NewLemmas.{one-new}
use Rattle.slave_channels.proofs.channels.Channels.new.Goals as goal

-- none yet
pub loop-c-init : goal.loop-c-init
loop-c-init c = record {
  made = record { rings = []; many = refl; channels_are = search rules; tasks_are = search rules };
  channels_len = search rules;
  tasks_len = search rules;
  channels_room = search rules;
  tasks_room = search rules;
}

-- one more of the same
pub loop-c-preserved : goal.loop-c-preserved
loop-c-preserved c =
    let v = c.loop-c.invariant in
    let xs = c.push_reserved.ensures in
    let ys = c.push_reserved-in-loop-c.ensures in
    record {
      made = one-new c.loop-c.c _ _ _ _ _ _ v.made c.in_ok-channel.ensures.channel c.in_ok-channel.ensures.task xs.items ys.items;
      channels_len = omega (arith, xs.len, v.channels_len);
      tasks_len = omega (arith, ys.len, v.tasks_len);
      channels_room = omega (arith, xs.capacity, v.channels_room);
      tasks_room = omega (arith, ys.capacity, v.tasks_room);
    }

-- that is all of them
pub returns : goal.returns
returns c =
    let all : c.loop-c.c ≡ c.args.count = omega (arith, c.loop-c-test.false) in
    subst (λ n. AreNew n c.loop-c.all.items c.loop-c.tasks.items) all c.loop-c.invariant.made
