use Rattle.std.proofs.Common.{◌≡◌, ◌≤◌, length, map, refl, ap, ◌∙◌, arith}
use Rattle.std.proofs.lemmas.List.{length-map}
use Rattle.std.proofs.lemmas.Option.{slice_get_within}
use Rattle.sampler.specs.State.{SamplerState}
use Rattle.transmitter.specs.Written.{TransmitterState, transmission}
use Rattle.transmitter.proofs.RingLemmas.{as_many, each_left}
use Rattle.daq_engine.proofs.BesideLemmas.{as_many_stay, looked_below-more, looked_below-none, stay_beside}
use Rattle.daq_engine.proofs.beside.look.Goals as goal
use Rattle.daq_engine.proofs.beside.look.Goals.{After-loop-c}
use Rattle.daq_engine.proofs.beside.look.Given.{Over}

-- none was looked at yet
pub loop-c-init : goal.loop-c-init
loop-c-init g c = record {
  below = looked_below-none g.T.Send.SendEnd g.T.Send.End.RingEnd c.args.samplers.now.items (transmission g.O.Out g.T.TakeEnd c.args.transmitter.now);
  next = refl;
}

-- they are still beside the transmitter of their rings
pub look_at-requires-clause-beside : goal.look_at-requires-clause-beside
look_at-requires-clause-beside g c =
    let i = c.loop-c.invariant.below in
    stay_beside g.T.Send.SendEnd c.args.samplers.now.items c.loop-c.samplers.items (transmission g.O.Out g.T.TakeEnd c.args.transmitter.now) (transmission g.O.Out g.T.TakeEnd c.loop-c.transmitter)
    c.requires.beside i.samplers.those (ap (λ (t : TransmitterState). t.rings) i.looked)

-- one ring more
pub loop-c-preserved : goal.loop-c-preserved
loop-c-preserved g c =
    let e = c.look_at.ensures in
    record {
      below = looked_below-more g.T.Send.SendEnd g.T.Send.End.RingEnd c.loop-c.c c.args.samplers.now.items c.loop-c.samplers.items c.look_at.new.samplers.items
          (transmission g.O.Out g.T.TakeEnd c.args.transmitter.now) (transmission g.O.Out g.T.TakeEnd c.loop-c.transmitter) (transmission g.O.Out g.T.TakeEnd c.look_at.new.transmitter)
          c.loop-c.invariant.below e.samplers e.others_stay e.looked e.left e.roomy;
      next = e.next_stays ∙ c.loop-c.invariant.next;
    }

-- there is a ring for each sampler
many : (g : Over) (c : After-loop-c g) {Q : Type 0} (f : g.row.T.Denot → Q) → length (map f c.loop-c.transmitter.ends.items) ≡ length c.args.samplers.now.items
many g c f =
    as_many g.T.TakeEnd.ring (λ (s : SamplerState g.row.T-Send.Denot). g.T.Send.SendEnd.ring s.end) f c.loop-c.transmitter.ends.items c.args.samplers.now.items
    (ap (λ (t : TransmitterState). t.rings) c.loop-c.invariant.below.looked ∙ c.requires.beside.rings)

pub returns-clause-as_many : goal.returns-clause-as_many
returns-clause-as_many g c = many g c g.T.TakeEnd.known

-- beyond these there is none
pub returns-clause-left : goal.returns-clause-left
returns-clause-left g c =
    let xs = c.args.samplers.now.items in
    let all : length xs ≤ c.loop-c.c = omega (arith, c.loop-c-test.false, c.len-c-end.ensures, c.args.samplers.now.ok.0) in
    each_left _ _ _ (length xs) (many g c g.T.TakeEnd.received) (many g c g.T.TakeEnd.known) (length-map xs (λ (s : SamplerState g.row.T-Send.Denot). g.T.Send.SendEnd.sent s.end))
    (λ k h. c.loop-c.invariant.below.left k (omega (arith, all, h)))

pub returns-clause-roomy : goal.returns-clause-roomy
returns-clause-roomy g c = λ k s at.
    let same = as_many_stay g.T.Send.SendEnd c.args.samplers.now.items c.loop-c.samplers.items c.loop-c.invariant.below.samplers.those in
    let within = slice_get_within c.loop-c.samplers.items k s at in
    c.loop-c.invariant.below.roomy k (omega (arith, within, same, c.loop-c-test.false, c.len-c-end.ensures, c.args.samplers.now.ok.0)) s at
