use Rattle.std.proofs.Common.{◌≡◌, ◌++◌, ◌+◌, ◌≤◌, ap, sym, subst, ◌∙◌}
use Rattle.channel_ring.specs.Room.{units}
use Rattle.sampler.specs.State.{SamplerState}
use Rattle.transmitter.specs.Looks.{LookedAt}
use Rattle.transmitter.specs.Merge.{of_ring}
use Rattle.transmitter.specs.Written.{transmission}
use Rattle.daq_engine.proofs.BesideLemmas.{channel_at, ring_at, sent_at}
use Rattle.daq_engine.proofs.ChangedLemmas.{kept_at, only_at, roomy-set, sent-set, slice_get-set_other}
use Rattle.daq_engine.proofs.beside.look_at.Goals as goal

-- the sampler at place c is that of ring c
pub beside-requires : goal.beside-requires
beside-requires g c = record {
  one_ring = ring_at g.T.Send.SendEnd c.args.samplers.now.items c.args.c c.index_mut-sampler.result.now c.index_mut-sampler.ensures.value c.requires.place (transmission g.O.Out g.T.TakeEnd c.args.transmitter.now) c.requires.beside;
}

-- a look changes neither channel nor ring of the sampler, sends nothing, and is none of what it stands after
pub returns-clause-samplers : goal.returns-clause-samplers
returns-clause-samplers g c =
    let send = g.T.Send.SendEnd in
    let xs = c.args.samplers.now.items in
    let i = c.args.c in
    let old = c.index_mut-sampler.result.now in
    let new = c.beside.new.sampler in
    let at = c.index_mut-sampler.ensures.value in
    let look = c.beside.ensures.sampler_looked in
    let only = only_at send xs i old new at c.requires.place (record { channel = ap (λ (s : SamplerState _). s.channel) look.rest; segments = ap (λ (s : SamplerState _). s.segments) look.rest; plans = ap (λ (s : SamplerState _). s.plans) look.rest; capacity = look.capacity; held = look.held; ring = look.ring }) in
    record {
      those = only.those;
      sent = sent-set send xs i old new at c.requires.place look.sent;
      stand = kept_at send xs i old new at c.requires.place g.T.Send.End.RingEnd look.stands;
    }

-- the others are at other places
pub returns-clause-others_stay : goal.returns-clause-others_stay
returns-clause-others_stay g c = λ k other. slice_get-set_other c.args.samplers.now.items c.args.c k c.beside.new.sampler other

-- the channel of the sampler is c
pub returns-clause-looked : goal.returns-clause-looked
returns-clause-looked g c =
    let t = transmission g.O.Out g.T.TakeEnd c.args.transmitter.now in
    let at = channel_at g.T.Send.SendEnd c.args.samplers.now.items c.args.c c.index_mut-sampler.result.now c.index_mut-sampler.ensures.value c.requires.place t c.requires.beside in
    subst (λ j. LookedAt j t (transmission g.O.Out g.T.TakeEnd c.beside.new.self)) at c.beside.ensures.looked

-- what was received and what is left is what that sampler sent
pub returns-clause-left : goal.returns-clause-left
returns-clause-left g c =
    let send = g.T.Send.SendEnd in
    let e = c.beside.ensures in
    let t = transmission g.O.Out g.T.TakeEnd c.beside.new.self in
    let xs = c.args.samplers.now.items in
    let old = c.index_mut-sampler.result.now in
    let is = c.index_mut-sampler.ensures.value in
    let at = channel_at send xs c.args.c old is c.requires.place (transmission g.O.Out g.T.TakeEnd c.args.transmitter.now) c.requires.beside in
    let left = subst (λ j. of_ring t.received j ++ of_ring t.known j ≡ send.sent c.beside.new.sampler.end) at e.left in
    left ∙ e.sampler_looked.sent ∙ sym (sent_at send xs c.args.c old is c.requires.place)

-- and that sampler knows the room beside it
pub returns-clause-roomy : goal.returns-clause-roomy
returns-clause-roomy g c =
    let send = g.T.Send.SendEnd in
    let ring = g.T.Send.End.RingEnd in
    let t = transmission g.O.Out g.T.TakeEnd c.beside.new.self in
    let xs = c.args.samplers.now.items in
    let old = c.index_mut-sampler.result.now in
    let new = c.beside.new.sampler in
    let is = c.index_mut-sampler.ensures.value in
    let at = channel_at send xs c.args.c old is c.requires.place (transmission g.O.Out g.T.TakeEnd c.args.transmitter.now) c.requires.beside in
    roomy-set send xs c.args.c old new is c.requires.place ring t
    (subst (λ j. send.capacity new.end ≤ send.free new.end + units ring.cost (of_ring t.known j)) at c.beside.ensures.roomy)
