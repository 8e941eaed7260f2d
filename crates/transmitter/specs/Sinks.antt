-- A transmitter whose frames go to memory.
use Rattle.std.specs.Prelude.{◌≡◌, ◌≢◌, ℕ, List, length, Err}
use Rattle.channel_ring.specs.declared.ends.TakeEnd.{Ghosts as TakeGhosts}
use Rattle.frame_writer.specs.contracts.sink_out.SinkOutOut.TheImpl.{ghosts as out}
use Rattle.frame_writer.specs.declared.sink_out.SinkOut.{SinkOut}
use Rattle.transmitter.specs.Fills.{Fills, IsInFront}
use Rattle.transmitter.specs.Pumps.{IsPump}
use Rattle.transmitter.specs.Written.{TransmitterState, transmission}
use Rattle.transmitter.specs.declared.faults.PumpFault.{PumpFault}
use Rattle.transmitter.specs.declared.faults.PumpFault.TheVariants.{Failed}
use Rattle.transmitter.specs.declared.pumped_all.PumpedAll.{PumpedAll}
use Rattle.transmitter.specs.declared.transmitter.Transmitter.{Transmitter}

-- what it shows
abbrev pub sink_transmitter :
    {T E : Type 0} → TakeGhosts T E → Transmitter SinkOut T → TransmitterState
sink_transmitter give t = transmission out give t

-- pumps filled the front of a buffer: what they did, and how many bytes their frames have
pub record FillsFront (a b : TransmitterState) (old new : List ℕ) (done : PumpedAll × ℕ)
    : Type 0 where
  pub fills : Fills a.next b.next (length old) done.1 a b done.0
  pub front : IsInFront a.writer.out b.writer.out old new done.1

-- a call that fills a buffer was refused as a pump is; it left the buffer, and begins at the same
-- ring the next time. A writer to memory doesn't fail
pub record RefusesFill (a b : TransmitterState) (old new : List ℕ) (fault : PumpFault)
    : Type 0 where
  pub pump : IsPump a b (Err fault)
  pub never_fails : fault ≢ Failed
  pub next_stays : b.next ≡ a.next
  pub buffer_stays : new ≡ old
