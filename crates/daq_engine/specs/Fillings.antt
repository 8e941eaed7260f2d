-- Pumps that fill a buffer, between two looks at all that was sent.
use Rattle.std.specs.Prelude.{◌≡◌, ◌≢◌, ℕ, ◌<◌, ◌++◌, List, length, Err}
use Rattle.xcp_base.specs.declared.item.Item.{Item}
use Rattle.channel_ring.specs.declared.ends.SendEnd.{Ghosts as SendGhosts}
use Rattle.channel_ring.specs.declared.ends.RingEnd.{Ghosts as EndGhosts}
use Rattle.channel_ring.specs.declared.ends.TakeEnd.{Ghosts as TakeGhosts}
use Rattle.frame_writer.specs.contracts.sink_out.SinkOutOut.TheImpl.{ghosts as sink}
use Rattle.frame_writer.specs.declared.out.Out.{Ghosts as OutGhosts}
use Rattle.frame_writer.specs.declared.sink_out.SinkOut.{SinkOut}
use Rattle.transmitter.specs.Fills.{Fills, IsInFront, all_taken}
use Rattle.transmitter.specs.Looks.{Looked}
use Rattle.transmitter.specs.Merge.{of_ring}
use Rattle.transmitter.specs.Written.{TransmitterState, next_of}
use Rattle.transmitter.specs.declared.faults.PumpFault.{PumpFault}
use Rattle.transmitter.specs.declared.faults.PumpFault.TheVariants.{Failed}
use Rattle.transmitter.specs.declared.pumped_all.PumpedAll.{PumpedAll}
use Rattle.daq_engine.specs.Engines.{EngineState, LeadsTo, engine_state}
use Rattle.daq_engine.specs.Events.{PumpsOn, with_taken}
use Rattle.daq_engine.specs.PumpSteps.{IsPumpStep}
use Rattle.daq_engine.specs.Samplers.{AllOnlyLooked, AreRoomy, sent_of_each}
use Rattle.daq_engine.specs.declared.engine.Engine.{Engine}

-- the ring at which an engine's pumps that fill a buffer go on
abbrev pub next_ring :
    {O T S E : Type 0} {out : OutGhosts O} {take : TakeGhosts T E} {left : EndGhosts E}
    {send : SendGhosts S E} {ring : EndGhosts E} → Engine O T S E E out take left send ring → ℕ
next_ring e = next_of e.transmitter

-- an engine whose frames go to memory
abbrev pub sink_engine :
    {T S E : Type 0} {left : EndGhosts E} {send : SendGhosts S E} {ring : EndGhosts E}
    (take : TakeGhosts T E) → Engine SinkOut T S E E sink take left send ring → EngineState S
sink_engine take e = engine_state sink take e

-- of n rings, to which so much was sent, pumps from ring `from` on take what is left, until nothing
-- is left or the next sample doesn't fit. Then all that is left is known
pub record IsFillStep (n : ℕ) (sent : ℕ → List Item) (from next room end : ℕ)
    (a b : TransmitterState) (p : PumpedAll)
    : Type 0 where
  -- what was left in each ring, in rising channel: fixed by `leaves`
  pub left : List (List Item)
  pub as_many : length left ≡ n
  pub leaves : (c : ℕ) → c < n → of_ring a.received c ++ of_ring left c ≡ sent c
  -- fixed by `looks`, and what it knows by `fills`
  pub filled : TransmitterState
  pub fills : Fills from next room end (record a { known = left }) filled p
  pub looks : Looked filled b
  pub rest : (c : ℕ) → c < n → of_ring b.received c ++ of_ring b.known c ≡ sent c

-- an engine filled a buffer: what was sent stays, and it stands with the items taken that the step
-- took
pub record FillsOn {S E : Type 0} (send : SendGhosts S E) (ring : EndGhosts E)
    (from next room end : ℕ) (before after : EngineState S) (p : PumpedAll)
    : Type 0 where
  pub step :
      IsFillStep (length before.samplers) (of_ring (sent_of_each send before.samplers))
      from next room end before.transmitter after.transmitter p
  pub samplers : AllOnlyLooked send ring before.samplers after.samplers
  pub stands :
      LeadsTo send ring before after
      (with_taken (all_taken step.fills.pumps ++ step.fills.last))
  pub roomy : AreRoomy send ring after.samplers after.transmitter

-- such a step filled the front of a buffer: what its pumps did, and how many bytes their frames
-- have
pub record FillsFrontStep (n : ℕ) (sent : ℕ → List Item) (a b : TransmitterState)
    (old new : List ℕ) (done : PumpedAll × ℕ)
    : Type 0 where
  pub step : IsFillStep n sent a.next b.next (length old) done.1 a b done.0
  pub front : IsInFront a.writer.out b.writer.out old new done.1

-- a call that fills a buffer was refused as a pump step is; it left the buffer, and begins at the
-- same ring the next time. A writer to memory doesn't fail
pub record RefusesFillStep (n : ℕ) (sent : ℕ → List Item) (a b : TransmitterState)
    (old new : List ℕ) (fault : PumpFault)
    : Type 0 where
  pub step : IsPumpStep n sent a b (Err fault)
  pub never_fails : fault ≢ Failed
  pub next_stays : b.next ≡ a.next
  pub buffer_stays : new ≡ old

-- an engine filled the front of a buffer: what its pumps did, and how many bytes their frames have
pub record FillsFrontOn {S E : Type 0} (send : SendGhosts S E) (ring : EndGhosts E)
    (before after : EngineState S) (old new : List ℕ) (done : PumpedAll × ℕ)
    : Type 0 where
  pub fills :
      FillsOn send ring before.transmitter.next after.transmitter.next (length old) done.1
      before after done.0
  pub front :
      IsInFront before.transmitter.writer.out after.transmitter.writer.out old new done.1

-- an engine refused to fill a buffer, as it refuses a pump; the buffer is as it was, and the next
-- call begins at the same ring. A writer to memory doesn't fail
pub record RefusesFillOn {S E : Type 0} (send : SendGhosts S E) (ring : EndGhosts E)
    (before after : EngineState S) (old new : List ℕ) (fault : PumpFault)
    : Type 0 where
  pub pump : PumpsOn send ring before after (Err fault)
  pub never_fails : fault ≢ Failed
  pub next_stays : after.transmitter.next ≡ before.transmitter.next
  pub buffer_stays : new ≡ old
