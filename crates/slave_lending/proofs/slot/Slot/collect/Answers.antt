use Rattle.std.proofs.Common.{◌≡◌, ◌∙◌, true, Option, ap, subst}
use Rattle.std.specs.Prelude.{IfSome}
use Rattle.std.specs.Option.{is_some}
use Rattle.frame_ring.specs.declared.frame_send.FrameSend.{FrameSend}
use Rattle.tasks.specs.Tasks.{TaskState}
use Rattle.slave_lending.proofs.SlotLemmas.{comes-back, coming-alone, is-alone, no-line}
use Rattle.slave_lending.proofs.slot.Slot.collect.Goals as goal

-- what came back is alone, and of the slot's line
pub invariant_of-self-2 : goal.invariant_of-self-2
invariant_of-self-2 c =
    let on : is_some c.self.inside.coming ≡ true = ap (λ (o : Option (TaskState FrameSend)). is_some o) c.in-Some.is in
    let alone = coming-alone c.self.inside.here (is_some c.self.inside.coming) c.self.inside.back on c.self.invariant.0 in
    let line : c.in-Some.coming.ring ≡ c.self.inside.first.value.ring
    = subst (λ (o : Option (TaskState FrameSend)). IfSome o (λ t. t.ring ≡ c.self.inside.first.value.ring)) c.in-Some.is c.self.invariant.2 in (
      is-alone c.self.inside.here alone.0,
      no-line c.self.inside.here c.self.inside.first.value.ring alone.0,
      tt,
      c.in-Some-take.ensures.left ∙ line,
    )

pub returns-clause-may : goal.returns-clause-may
returns-clause-may c =
    let on : is_some c.self.inside.coming ≡ true = ap (λ (o : Option (TaskState FrameSend)). is_some o) c.in-Some.is in
    let alone = coming-alone c.self.inside.here (is_some c.self.inside.coming) c.self.inside.back on c.self.invariant.0 in
    let line : c.in-Some.coming.ring ≡ c.self.inside.first.value.ring
    = subst (λ (o : Option (TaskState FrameSend)). IfSome o (λ t. t.ring ≡ c.self.inside.first.value.ring)) c.in-Some.is c.self.invariant.2 in
    comes-back c.self.inside.first.value.ring c.self.inside.here c.self.inside.back c.args.self.now c.in-Some-take.end c.self.view_is alone.0 alone.1 (c.in-Some-take.ensures.left ∙ line)
