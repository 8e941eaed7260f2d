-- What pumps that fill a buffer answer and what they leave, by their status.
use Rattle.std.specs.Prelude.{◌≡◌, ℕ, ◌<◌, ◌≤◌, List, length, Option, Err}
use Rattle.channel_ring.specs.declared.ends.TakeEnd.{Ghosts as TakeGhosts}
use Rattle.frame_writer.specs.declared.layout.TheConstants.{MAX_SAMPLE_BYTES}
use Rattle.frame_writer.specs.declared.out.Out.{Ghosts as OutGhosts}
use Rattle.frame_writer.specs.declared.sink_out.SinkOut.{SinkOut}
use Rattle.transmitter.specs.Fills.{Fills, IsInFront}
use Rattle.transmitter.specs.Pumps.{IsPump}
use Rattle.transmitter.specs.Written.{next_of, transmission}
use Rattle.transmitter.specs.declared.faults.PumpFault.TheVariants as fault
use Rattle.transmitter.specs.declared.pumped_all.PumpedAll.{PumpedAll}
use Rattle.c_engine.specs.Engines.{OnEngine}
use Rattle.c_engine.specs.States.{Bytes, EngineState, Items}
use Rattle.c_engine.specs.declared.content.Content.{Content}
use Rattle.c_engine.specs.declared.pumped_all_out.PumpedAllOut.{PumpedAllOut}
use Rattle.c_engine.specs.declared.status.Status.{Status}
use Rattle.c_engine.specs.declared.status.Status.TheVariants as status

-- what goes out of what several pumps did
abbrev pub pumped_all_out : PumpedAll → PumpedAllOut
pumped_all_out pumped =
    record { taken = pumped.taken; frames = pumped.frames; stopped = pumped.stopped }

-- the buffer of frames, how many bytes of it they take up, and what the pumps did
pub record FillRoom : Type 0 where
  pub buffer : List ℕ
  pub len : ℕ
  pub pumped : PumpedAllOut

module _ {S T E : Type 0} (out : OutGhosts SinkOut) (give : TakeGhosts T E) where
  -- an engine pumps until nothing is left or the next sample doesn't fit. All that it writes stands
  -- in the front of the buffer and nothing else, and its length is told
  pub record FillsOut (s t : EngineState S T E) (before after : FillRoom) : Type 0 where
    pub room : MAX_SAMPLE_BYTES ≤ length before.buffer
    pub pumped : PumpedAll
    pub fills :
        Fills (next_of s.transmitter) (next_of t.transmitter) (length before.buffer) after.len
        (transmission out give s.transmitter) (transmission out give t.transmitter) pumped
    pub front :
        IsInFront (transmission out give s.transmitter).writer.out
        (transmission out give t.transmitter).writer.out before.buffer after.buffer after.len
    pub told : after.pumped ≡ pumped_all_out pumped
    pub lending : t.lending ≡ s.lending

  -- an engine took so many items that it takes no more
  pub record FillsNoMore (s t : EngineState S T E) (before after : FillRoom) : Type 0 where
    pub room : MAX_SAMPLE_BYTES ≤ length before.buffer
    pub pump :
        IsPump (transmission out give s.transmitter) (transmission out give t.transmitter)
        (Err fault.Spent)
    pub next_stays : next_of t.transmitter ≡ next_of s.transmitter
    pub stays : after ≡ before
    pub lending : t.lending ≡ s.lending

  -- what an engine does at such a call; its frames are always written whole
  abbrev pub FillsEngine
      : EngineState S T E → EngineState S T E → FillRoom → FillRoom → Status → Type 0
  FillsEngine s t before after status.Ok = FillsOut s t before after
  FillsEngine s t before after status.Spent = FillsNoMore s t before after
  FillsEngine s t before after status.SmallBuffer =
      (length before.buffer < MAX_SAMPLE_BYTES) × (t ≡ s) × (after ≡ before)
  FillsEngine s t before after _ = ⊥

module _ (items : Items) (bytes : Bytes) where
  -- what ng_pump_all does to a handle
  abbrev pub FillsHandle
      : Option Content → Option Content → FillRoom → FillRoom → Status → Type 0
  FillsHandle old new before after result =
      OnEngine old new result (after ≡ before)
      (λ s t. FillsEngine items.out items.give s t before after result)
      (λ s t. FillsEngine bytes.out bytes.give s t before after result)
