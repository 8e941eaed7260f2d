use Rattle.std.proofs.Common.{◌≡◌, length, map, ap, sym, subst, ◌∙◌}
use Rattle.std.proofs.lemmas.List.{length-map}
use Rattle.sampler.specs.State.{SamplerEndState, SamplerState, joined}
use Rattle.daq_engine.specs.Configuration.{IsConfiguration}
use Rattle.daq_engine.specs.Headline.{AllStand}
use Rattle.daq_engine.proofs.FinishLemmas.{capacities-joined, costs-joined}
use Rattle.daq_engine.proofs.engine.Engine.close.Goals as goal

-- the ends stand after what the samplers stood after
pub returns-in-Some-clause-closed : goal.returns-in-Some-clause-closed
returns-in-Some-clause-closed g c = λ st stands.
    let ring = g.T.End.RingEnd in
    let samplers = c.args.self.samplers.items in
    let ends = map (joined ring) c.in-Some.ends.items in
    let e = c.in-Some.ensures.finishes in
    let channel_of = λ (s : SamplerState g.row.T-Send.Denot). s.channel in
    let as_many : length ends ≡ length samplers =
    length-map c.in-Some.ends.items (joined ring) ∙ sym (length-map c.in-Some.ends.items (λ (x : SamplerEndState g.row.T-End.Denot). x.channel)) ∙ ap length e.channels ∙ length-map samplers channel_of in
    let all : AllStand ends st.past = record {
      configuration = subst (λ n. IsConfiguration n (λ k. (st.past k).opening)) (sym as_many) stands.configuration;
      stand = e.stand st.past stands.samplers;
    } in
    record {
      ends = ends;
      as_many = as_many;
      sent = e.sent;
      capacities = capacities-joined ring c.in-Some.ends.items ∙ e.capacities;
      costs = costs-joined ring c.in-Some.ends.items;
      stand = e.stand st.past stands.samplers;
      closed = c.account_after.ensures st.start st.taken st.past stands.transmitter all;
    }
