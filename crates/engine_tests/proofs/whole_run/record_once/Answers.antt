use Rattle.std.proofs.Common.{subst}
use Rattle.channel_ring.specs.contracts.sample_ring.SendHalfSendEnd.TheImpl as send
use Rattle.channel_ring.specs.contracts.sample_ring.SendLeftRingEnd.TheImpl as ring
use Rattle.channel_ring.specs.contracts.sample_ring.TakeHalfTakeEnd.TheImpl as take_end
use Rattle.frame_writer.specs.Shown.{shown}
use Rattle.frame_writer.specs.Writing.{WriterState, fresh_writer}
use Rattle.daq_engine.specs.Engines.{Stands, engine_state, first_standing}
use Rattle.daq_engine.proofs.AskingLemmas.{if_ok}
use Rattle.engine_tests.proofs.whole_run.record_once.Goals as goal

-- it stands after nothing at its opening, and the run goes on from there
pub returns-in-Ok : goal.returns-in-Ok
returns-in-Ok g c =
    let openings = c.in-Ok.ensures.opened.openings in
    let opened = c.in-Ok.ensures.opened.opened in
    let stands = subst (λ (s : WriterState). Stands send.ghosts ring.ghosts (engine_state g.O.Out take_end.ghosts c.in-Ok.engine) (first_standing s openings)) c.new.ensures.fresh c.in-Ok.ensures.opened.stands in
    if_ok _ _ c.run_once.result (λ r runs. record {
      openings = openings;
      engine = engine_state g.O.Out take_end.ghosts c.in-Ok.engine;
      opened = opened;
      stands = stands;
      runs = runs (first_standing (fresh_writer (shown g.O.Out c.args.out)) openings) stands;
    })
    c.run_once.ensures
