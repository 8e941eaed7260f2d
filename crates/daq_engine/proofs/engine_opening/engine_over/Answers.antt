use Rattle.std.proofs.Common.{◌≡◌, [], List, length, ap, sym, subst, ◌∙◌}
use Rattle.std.proofs.lemmas.List.{length-map}
use Rattle.frame_writer.specs.Writing.{state_of}
use Rattle.sampler.specs.State.{SamplerState}
use Rattle.transmitter.specs.Written.{HasTaken}
use Rattle.daq_engine.specs.Configuration.{IsConfiguration}
use Rattle.daq_engine.specs.Openings.{AreOpened}
use Rattle.sampler.specs.Past.{first_past}
use Rattle.daq_engine.specs.Standings.{StandInOrder}
use Rattle.daq_engine.proofs.EndLemmas.{length-upto}
use Rattle.daq_engine.proofs.engine_opening.engine_over.Goals as goal

-- the samplers stand after nothing, and nothing was taken
pub returns-clause-opened : goal.returns-clause-opened
returns-clause-opened g c =
    let s = c.args.store.now in
    let parts = c.in_ok-samplers.ensures.opened in
    let openings = parts.openings in
    let opened = parts.opened in
    let same = c.new.ensures.samplers in
    let channel_of = λ (x : SamplerState _). x.channel in
    let as_many : length c.new.result.samplers.items ≡ s.profile.channels =
    ap length same ∙ sym (length-map c.in_ok-samplers.samplers.items channel_of) ∙ ap length opened.channels ∙ length-upto 0 s.profile.channels in
    record {
      openings = openings;
      opened = subst (λ (ss : List (SamplerState _)). AreOpened g.R.Send.SendEnd g.R.Send.End.RingEnd s c.args.caps.now ss openings) (sym same) opened;
      stands = record {
        configuration = subst (λ n. IsConfiguration n openings) (sym as_many) opened.configuration;
        samplers = subst (λ (ss : List (SamplerState _)). StandInOrder g.R.Send.SendEnd g.R.Send.End.RingEnd ss (λ k. first_past (openings k))) (sym same) opened.stands;
        transmitter = subst (λ t. HasTaken (state_of g.O.Out c.args.writer) t []) (sym c.new.ensures.transmitter) parts.paired.taken;
      };
    }
