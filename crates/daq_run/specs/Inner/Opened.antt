-- The engine of a run, as it was opened.
use Rattle.std.specs.Prelude.{◌≡◌, ℕ, true}
use Rattle.channel_ring.specs.declared.ends.SendEnd.{Ghosts as SendGhosts}
use Rattle.channel_ring.specs.declared.ends.RingEnd.{Ghosts as EndGhosts}
use Rattle.daq_store.specs.Standing.{IsStore, StoreState}
use Rattle.frame_writer.specs.Shown.{OutState}
use Rattle.frame_writer.specs.Writing.{WriterState}
use Rattle.run_file.specs.Limits.{HasLimits}
use Rattle.run_file.specs.RunFile.{RunData}
use Rattle.sampler.specs.History.{Opening}
use Rattle.daq_engine.specs.Engines.{EngineState, Stands, first_standing}
use Rattle.daq_engine.specs.Openings.{AreOpened, some_list_runs}
use Rattle.daq_run.specs.SetUps.{IsSetUp}

-- a run was set up, and this engine opened over its store, with the frame writer of the replies
pub record IsRunOpened {S E : Type 0} (send : SendGhosts S E) (ring : EndGhosts E) (run : RunData)
    (before : OutState) (e : EngineState S)
    : Type 0 where
  pub limits : HasLimits run
  -- fixed by `set_up`
  pub store : StoreState
  pub writer : WriterState
  pub set_up : IsSetUp run before store writer
  pub keeps : IsStore store
  pub running : some_list_runs store ≡ true
  -- fixed by `opened`, for the channels that there are
  pub openings : ℕ → Opening
  pub opened : AreOpened send ring store run.caps e.samplers openings
  pub stands : Stands send ring e (first_standing writer openings)
