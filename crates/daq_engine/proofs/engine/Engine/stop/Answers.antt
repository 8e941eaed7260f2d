use Rattle.std.proofs.Common.{[], ◌≡◌, ◌<◌, set, length, refl, arith, rules}
use Rattle.std.specs.Prelude.{Err}
use Rattle.sampler.specs.History.{Stop}
use Rattle.sampler.specs.declared.faults.StopFault.TheVariants.{NoRoom}
use Rattle.transmitter.specs.Written.{transmission}
use Rattle.daq_engine.proofs.AskingLemmas.{leads-event, leads-still}
use Rattle.daq_engine.proofs.BesideLemmas.{stay_beside}
use Rattle.daq_engine.proofs.ChangedLemmas.{event_at, kept_at, no_room_at, only_at, stood, stop_leaves}
use Rattle.daq_engine.proofs.engine.Engine.stop.Goals as goal

-- the samplers are still those of their channels and rings
pub invariant_of-self : goal.invariant_of-self
invariant_of-self g c =
    let send = g.T.Send.SendEnd in
    let xs = c.args.self.now.samplers.items in
    let new = c.stop.new.self in
    let here : c.args.c < length xs = omega (arith, c.if-c-len.false, c.len.ensures, c.args.self.now.samplers.ok.0) in
    let t = transmission g.O.Out g.T.TakeEnd c.args.self.now.transmitter in
    let only = only_at send xs c.args.c c.index_mut.result.now new c.index_mut.ensures.value here c.stop.ensures.set_up_stays in
    record { beside = stay_beside send xs (set xs c.args.c new) t t c.args.self.now.beside only.those refl }

-- one event more
pub returns-in-Ok : goal.returns-in-Ok
returns-in-Ok g c =
    let send = g.T.Send.SendEnd in
    let ring = g.T.End.RingEnd in
    let xs = c.args.self.now.samplers.items in
    let i = c.args.c in
    let old = c.index_mut.result.now in
    let new = c.stop.new.self in
    let is = c.index_mut.ensures.value in
    let here : i < length xs = omega (arith, c.if-c-len.false, c.len.ensures, c.args.self.now.samplers.ok.0) in
    let t = transmission g.O.Out g.T.TakeEnd c.args.self.now.transmitter in
    let only = only_at send xs i old new is here c.stop.ensures.set_up_stays in
    record {
      asks = record {
        ok = leads-event send ring xs (set xs i new) t only.those i (Stop c.args.l) []
            (event_at send xs i old new is here ring (Stop c.args.l) c.in-Ok.ensures.ok);
        refused = λ st stands within. c.in-Ok.ensures.refused (st.past i) (stood send xs i old new is here ring st.past stands.samplers);
        no_room = λ none. absurd cc;
        no_channel = search rules;
        err = tt;
        err_stands = tt;
        others_stay = record { samplers = only; transmitter = refl };
      };
    }

-- none more
pub returns-in-Err : goal.returns-in-Err
returns-in-Err g c =
    let send = g.T.Send.SendEnd in
    let ring = g.T.End.RingEnd in
    let xs = c.args.self.now.samplers.items in
    let i = c.args.c in
    let old = c.index_mut.result.now in
    let new = c.stop.new.self in
    let is = c.index_mut.ensures.value in
    let here : i < length xs = omega (arith, c.if-c-len.false, c.len.ensures, c.args.self.now.samplers.ok.0) in
    let t = transmission g.O.Out g.T.TakeEnd c.args.self.now.transmitter in
    let only = only_at send xs i old new is here c.stop.ensures.set_up_stays in
    let e = c.stop.ensures in
    record {
      asks = record {
        ok = tt;
        refused = λ st stands within. c.in-Err.ensures.refused (st.past i) (stood send xs i old new is here ring st.past stands.samplers);
        no_room = λ none.
            let is_none : c.stop.result ≡ Err NoRoom = cc (none, c.in-Err.is) in
            no_room_at send xs i old new is here ring c.args.l (e.no_room is_none);
        no_channel = search rules;
        err = stop_leaves send xs i old new is here ring t c.stop.result c.in-Err.fault c.in-Err.is e.not_of_channel_stays e.not_running_stays e.err;
        err_stands = leads-still send ring xs (set xs i new) t only.those (kept_at send xs i old new is here ring c.in-Err.ensures.err.stands);
        others_stay = record { samplers = only; transmitter = refl };
      };
    }
