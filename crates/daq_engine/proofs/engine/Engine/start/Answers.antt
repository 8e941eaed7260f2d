use Rattle.std.proofs.Common.{[], ◌<◌, set, length, ap, refl, ◌∙◌, arith, rules}
use Rattle.sampler.specs.History.{Start}
use Rattle.transmitter.specs.Written.{transmission}
use Rattle.daq_engine.proofs.AskingLemmas.{leads-event}
use Rattle.daq_engine.proofs.BesideLemmas.{stay_beside}
use Rattle.daq_engine.proofs.ChangedLemmas.{event_at, only_at, set_back, stood}
use Rattle.daq_engine.proofs.engine.Engine.start.Goals as goal

-- the samplers are still those of their channels and rings
pub invariant_of-self : goal.invariant_of-self
invariant_of-self g c =
    let send = g.T.Send.SendEnd in
    let xs = c.args.self.now.samplers.items in
    let new = c.start.new.self in
    let here : c.args.c < length xs = omega (arith, c.if-c-len.false, c.len.ensures, c.args.self.now.samplers.ok.0) in
    let t = transmission g.O.Out g.T.TakeEnd c.args.self.now.transmitter in
    let only = only_at send xs c.args.c c.index_mut.result.now new c.index_mut.ensures.value here c.start.ensures.set_up_stays in
    record { beside = stay_beside send xs (set xs c.args.c new) t t c.args.self.now.beside only.those refl }

-- one event more
pub returns-in-Ok : goal.returns-in-Ok
returns-in-Ok g c =
    let send = g.T.Send.SendEnd in
    let ring = g.T.End.RingEnd in
    let xs = c.args.self.now.samplers.items in
    let i = c.args.c in
    let old = c.index_mut.result.now in
    let new = c.start.new.self in
    let is = c.index_mut.ensures.value in
    let here : i < length xs = omega (arith, c.if-c-len.false, c.len.ensures, c.args.self.now.samplers.ok.0) in
    let t = transmission g.O.Out g.T.TakeEnd c.args.self.now.transmitter in
    let only = only_at send xs i old new is here c.start.ensures.set_up_stays in
    record {
      asks = record {
        ok = leads-event send ring xs (set xs i new) t only.those i (Start c.args.l) []
            (event_at send xs i old new is here ring (Start c.args.l) c.in-Ok.ensures.ok);
        refused = λ st stands within. c.in-Ok.ensures.refused (st.past i) (stood send xs i old new is here ring st.past stands.samplers);
        no_channel = search rules;
        err = tt;
        others_stay = record { samplers = only; transmitter = refl };
      };
    }

-- none, and nothing changed
pub returns-in-Err : goal.returns-in-Err
returns-in-Err g c =
    let send = g.T.Send.SendEnd in
    let ring = g.T.End.RingEnd in
    let xs = c.args.self.now.samplers.items in
    let i = c.args.c in
    let old = c.index_mut.result.now in
    let new = c.start.new.self in
    let is = c.index_mut.ensures.value in
    let here : i < length xs = omega (arith, c.if-c-len.false, c.len.ensures, c.args.self.now.samplers.ok.0) in
    let t = transmission g.O.Out g.T.TakeEnd c.args.self.now.transmitter in
    let only = only_at send xs i old new is here c.start.ensures.set_up_stays in
    record {
      asks = record {
        ok = tt;
        refused = λ st stands within. c.in-Err.ensures.refused (st.past i) (stood send xs i old new is here ring st.past stands.samplers);
        no_channel = search rules;
        err = ap (λ ss. record { samplers = ss; transmitter = t }) (ap (set xs i) c.in-Err.ensures.err ∙ set_back xs i old is);
        others_stay = record { samplers = only; transmitter = refl };
      };
    }
