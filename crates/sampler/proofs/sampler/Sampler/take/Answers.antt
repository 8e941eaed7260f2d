use Rattle.std.proofs.Common.{◌+◌, ◌^◌, List, length, take, refl, sym, ap, ◌∙◌, subst, arith}
use Rattle.copy_plan.specs.Config.{ListPlan}
use Rattle.copy_plan.specs.Memory.{image_in}
use Rattle.sampler.specs.State.{SamplerState}
use Rattle.sampler.specs.Standing.{StandsAfter, TakesTrigger}
use Rattle.sampler.specs.Inner.AtTrigger.{HandlesLists, Stage, first_stage}
use Rattle.sampler.specs.Inner.Fits.{NoneDueBefore}
use Rattle.sampler.specs.Inner.Moments.{MomentParts}
use Rattle.sampler.proofs.Handled.{TracksFit-mono, IsSampler-handled, handles-published}
use Rattle.sampler.specs.declared.taken.Taken.{Taken}
use Rattle.sampler.proofs.NoneDue.{IsSampler-none_due, handles-none_due}
use Rattle.sampler.proofs.Triggers.{takes-trigger}
use Rattle.sampler.proofs.sampler.Sampler.take.Given.{Over}
use Rattle.sampler.proofs.sampler.Sampler.take.Goals as goal
use Rattle.sampler.proofs.sampler.Sampler.take.Goals.{After-publish}

pub sample_lists-accepted-requires-clause-fit : goal.sample_lists-accepted-requires-clause-fit
sample_lists-accepted-requires-clause-fit g c = rw c.as_slice.ensures.value (TracksFit-mono c.self.inside.triggers (2 ^ 59) c.self.inside.lists.plans.items c.self.inside.lists.tracks c.self.invariant.limit c.self.invariant.tracks_fit)

abbrev moment_of : (g : Over) (c : After-publish g) → MomentParts
moment_of g c = record { channel = c.self.inside.channel; trigger = c.self.inside.triggers; segments = c.self.inside.segments.items; image = image_in c.self.inside.channel c.self.inside.segments.items c.args.memory; stamp = c.args.stamp }

abbrev first_of : (g : Over) (c : After-publish g) → Stage g.row.S.Denot
first_of g c = first_stage c.self.inside.end c.self.inside.lists.tracks c.self.inside.accepted

abbrev last_of : (g : Over) (c : After-publish g) → Stage g.row.S.Denot
last_of g c = record { end = c.publish.new.self; tracks = c.sample_lists-accepted.new.tracks; taken = c.sample_lists-accepted.result.0; next = c.sample_lists-accepted.result.1 }

the_lists : (g : Over) (c : After-publish g) → HandlesLists g.S.SendEnd g.S.End.RingEnd (moment_of g c) c.self.inside.lists.plans.items (first_of g c) (last_of g c)
the_lists g c =
    let E = g.S.SendEnd in
    let R = g.S.End.RingEnd in
    let sampled : Stage g.row.S.Denot = record { end = c.sample_lists-accepted.new.end; tracks = c.sample_lists-accepted.new.tracks; taken = c.sample_lists-accepted.result.0; next = c.sample_lists-accepted.result.1 } in
    let P : List ListPlan → Type 0 = λ ps. HandlesLists E R (moment_of g c) ps (first_of g c) sampled in
    handles-published E R (moment_of g c) c.self.inside.lists.plans.items (first_of g c) sampled c.publish.new.self c.publish.ensures.sent_stays c.publish.ensures.grows
    (subst P c.as_slice.ensures.value c.sample_lists-accepted.ensures.handled)

-- where none of the lists is due
pub invariant_of-self : goal.invariant_of-self
invariant_of-self g c =
    IsSampler-none_due c.self.inside.channel c.self.inside.image_len c.self.inside.segments.items c.self.inside.lists.plans.items c.self.inside.lists.tracks c.self.inside.triggers c.self.inside.soonest c.self.inside.accepted (g.S.SendEnd.limit c.self.inside.end)
    c.self.invariant (omega (arith, c.self.invariant.limit, c.requires.more, ap (λ (s : SamplerState _). s.triggers) c.self.view_is))

pub returns-then-self-clause-taken : goal.returns-then-self-clause-taken
returns-then-self-clause-taken g c = λ past stands.
    let E = g.S.SendEnd in
    let R = g.S.End.RingEnd in
    let plans : List ListPlan = c.self.inside.lists.plans.items in
    let m : MomentParts = record { channel = c.self.inside.channel; trigger = c.self.inside.triggers; segments = c.self.inside.segments.items; image = image_in c.self.inside.channel c.self.inside.segments.items c.args.memory; stamp = c.args.stamp } in
    let before : SamplerState g.row.S.Denot = record { channel = c.self.inside.channel; segments = c.self.inside.segments.items; plans = plans; end = c.self.inside.end; tracks = take (length plans) c.self.inside.lists.tracks; triggers = c.self.inside.triggers; accepted = c.self.inside.accepted } in
    let after : SamplerState g.row.S.Denot = record before { triggers = c.self.inside.triggers + 1 } in
    let none : Taken = record { due = 0; accepted = 0; dropped = 0 } in
    let Old : SamplerState g.row.S.Denot → Type 0 = λ s. StandsAfter E R s past in
    let New : SamplerState g.row.S.Denot → Type 0 = λ s. TakesTrigger E R s after none past (image_in s.channel s.segments c.args.memory) c.args.stamp in
    let handled : HandlesLists E R m plans (first_stage c.self.inside.end c.self.inside.lists.tracks c.self.inside.accepted) (first_stage c.self.inside.end c.self.inside.lists.tracks c.self.inside.accepted) =
    handles-none_due E R m plans c.self.inside.end c.self.inside.lists.tracks c.self.inside.accepted c.self.inside.soonest (omega (arith, c.self.invariant.room, c.self.invariant.places)) c.if-self.true c.self.invariant.soonest_due in
    subst New c.self.view_is
    (takes-trigger E R before after past (image_in c.self.inside.channel c.self.inside.segments.items c.args.memory) c.args.stamp c.self.inside.lists.tracks c.self.inside.lists.tracks none
    c.self.inside.segments.items c.self.invariant.plans_of c.self.invariant.rising (subst Old (sym c.self.view_is) stands) handled refl (g.met.S.SendEnd.enough c.self.inside.end) refl refl refl refl refl)

-- where the lists had their turns
pub invariant_of-self-2 : goal.invariant_of-self-2
invariant_of-self-2 g c =
    let w : After-publish g = (goal.at.invariant_of-self-2 g c).After-publish in
    IsSampler-handled g.S.SendEnd g.S.End.RingEnd (moment_of g w) c.self.inside.image_len c.self.inside.segments.items c.self.inside.lists.plans.items (first_of g w) (last_of g w) c.self.inside.triggers c.self.inside.soonest c.sample_lists-accepted.result.2 (g.S.SendEnd.limit c.self.inside.end) (g.S.SendEnd.limit c.publish.new.self)
    c.self.invariant (c.publish.ensures.limit_stays ∙ c.sample_lists-accepted.ensures.limit_stays) (the_lists g w) (omega (arith, c.sample_lists-accepted.ensures.next, ap (λ (ps : List ListPlan). length ps) c.as_slice.ensures.value)) c.sample_lists-accepted.auto.tracks (omega (arith, c.self.invariant.limit, c.requires.more, ap (λ (s : SamplerState _). s.triggers) c.self.view_is)) (subst (λ (ps : List ListPlan). NoneDueBefore c.sample_lists-accepted.result.2 (take (length ps) c.sample_lists-accepted.new.tracks)) c.as_slice.ensures.value c.sample_lists-accepted.ensures.soonest)

pub returns-clause-taken : goal.returns-clause-taken
returns-clause-taken g c = λ past stands.
    let E = g.S.SendEnd in
    let R = g.S.End.RingEnd in
    let w : After-publish g = (goal.at.returns-clause-taken g c).After-publish in
    let before : SamplerState g.row.S.Denot = record { channel = c.self.inside.channel; segments = c.self.inside.segments.items; plans = c.self.inside.lists.plans.items; end = c.self.inside.end; tracks = take (length c.self.inside.lists.plans.items) c.self.inside.lists.tracks; triggers = c.self.inside.triggers; accepted = c.self.inside.accepted } in
    let after : SamplerState g.row.S.Denot = record { channel = c.self.inside.channel; segments = c.self.inside.segments.items; plans = c.self.inside.lists.plans.items; end = c.publish.new.self; tracks = take (length c.self.inside.lists.plans.items) c.sample_lists-accepted.new.tracks; triggers = c.self.inside.triggers + 1; accepted = c.sample_lists-accepted.result.1 } in
    let Old : SamplerState g.row.S.Denot → Type 0 = λ s. StandsAfter E R s past in
    let New : SamplerState g.row.S.Denot → Type 0 = λ s. TakesTrigger E R s after c.sample_lists-accepted.result.0 past (image_in s.channel s.segments c.args.memory) c.args.stamp in
    subst New c.self.view_is
    (takes-trigger E R before after past (image_in c.self.inside.channel c.self.inside.segments.items c.args.memory) c.args.stamp c.self.inside.lists.tracks c.sample_lists-accepted.new.tracks c.sample_lists-accepted.result.0
    c.self.inside.segments.items c.self.invariant.plans_of c.self.invariant.rising (subst Old (sym c.self.view_is) stands) (the_lists g w) refl (g.met.S.SendEnd.enough c.self.inside.end) refl refl refl refl (c.publish.ensures.capacity_stays ∙ c.sample_lists-accepted.ensures.capacity_stays))
