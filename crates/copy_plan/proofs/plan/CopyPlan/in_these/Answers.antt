use Rattle.std.proofs.Common.{arith, sym, ◌∙◌}
use Rattle.copy_plan.specs.Config.{IsPlan, plan_of}
use Rattle.copy_plan.proofs.FrameLemmas.{lens_are}
use Rattle.copy_plan.proofs.JoinedLemmas.{map-joined_spans-written_entries}
use Rattle.copy_plan.proofs.ReadyLemmas.{filled, ready, plan_is}
use Rattle.copy_plan.proofs.plan.CopyPlan.in_these.Goals as goal
use Rattle.copy_plan.proofs.plan.CopyPlan.in_these.Goals.{After-of-2}

-- each entry of a ready list lies where its event channel may read it
pub spans_of_odts-requires-clause-filled : goal.spans_of_odts-requires-clause-filled
spans_of_odts-requires-clause-filled c =
    rw (c.as_slice.ensures.value, c.channel-channel.ensures.value) (filled c.args.segments.now.items c.args.conf.now (ready c.args.segments.now.items c.args.conf.now c.requires.ready))

-- a ready list makes a plan
planned : (c : After-of-2) → IsPlan (plan_of c.args.list c.args.conf.now c.args.first_pid c.args.segments.now.items)
planned c =
    plan_is c.args.list c.args.conf.now c.args.first_pid c.args.segments.now.items c.requires.image c.requires.list
    (omega (arith, c.channel-channel.ensures.limit, c.channel-channel.ensures.value))
    (λ some. omega (arith, c.prescaler.ensures.positive some, c.prescaler.ensures.value))
    c.in_ok-odts.ensures.limit (rw c.form.ensures.value at c.form.ensures.limits) c.requires.pids (ready c.args.segments.now.items c.args.conf.now c.requires.ready)

pub invariant_of-result : goal.invariant_of-result
invariant_of-result c = record {
  plan = rw (c.channel-channel.ensures.value, c.prescaler.ensures.value, c.form.ensures.value, c.stamped.ensures, c.of.ensures, c.of-2.ensures) (planned c);
  len = rw (c.of-2.ensures, ← c.as_slice-2.ensures.value) c.image_len.ensures;
  odts = rw (c.of.ensures, c.of-2.ensures) (c.in_ok-odts.ensures.value ∙ rw c.as_slice.ensures.value (map-joined_spans-written_entries c.channel-channel.result c.args.segments.now.items c.args.conf.now.odts));
  placed = rw c.of-2.ensures (rw c.as_slice.ensures.value at c.in_ok-odts.ensures.placed);
  frames = rw (c.channel-channel.ensures.value, c.prescaler.ensures.value, c.form.ensures.value, c.stamped.ensures, c.of.ensures, c.of-2.ensures)
      (c.frames_len_of.ensures ∙ sym (lens_are c.args.list c.args.conf.now c.args.first_pid c.args.segments.now.items));
}

pub returns-clause-plan : goal.returns-clause-plan
returns-clause-plan c = rw (c.channel-channel.ensures.value, c.prescaler.ensures.value, c.form.ensures.value, c.stamped.ensures, c.of.ensures, c.of-2.ensures) (planned c)
