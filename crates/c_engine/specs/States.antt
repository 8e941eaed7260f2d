-- What contracts see of rings of one kind, and of an engine over them.
use Rattle.std.specs.Prelude.{ℕ, Bool, List, Vec}
use Rattle.std.specs.declared.alloc.Global.{Global}
use Rattle.rtrb.specs.declared.AnyItems.{AnyItems}
use Rattle.rtrb.specs.declared.finished.Finished.{Finished}
use Rattle.xcp_base.specs.declared.item.Item.{Item}
use Rattle.byte_ring.specs.declared.byte_left.ByteLeft.{ByteLeft}
use Rattle.byte_ring.specs.declared.byte_send.ByteSend.{ByteSend}
use Rattle.byte_ring.specs.declared.byte_take.ByteTake.{ByteTake}
use Rattle.channel_ring.specs.declared.ends.SendEnd.{Ghosts as SendGhosts}
use Rattle.channel_ring.specs.declared.ends.RingEnd.{Ghosts as EndGhosts}
use Rattle.channel_ring.specs.declared.ends.TakeEnd.{Ghosts as TakeGhosts}
use Rattle.channel_ring.specs.declared.sample_ring.SendHalf.{SendHalf}
use Rattle.channel_ring.specs.declared.sample_ring.TakeHalf.{TakeHalf}
use Rattle.frame_writer.specs.declared.out.Out.{Ghosts as OutGhosts}
use Rattle.frame_writer.specs.declared.sink_out.SinkOut.{SinkOut}
use Rattle.sampler.specs.State.{SamplerState}
use Rattle.transmitter.specs.declared.transmitter.Transmitter.{Transmitter}
use Rattle.daq_engine.specs.declared.report.ListReport.{ListReport}
use Rattle.c_engine.specs.Lendings.{LendingState}

-- what contracts speak of where they speak of one kind of ring: the writer that frames go to, the
-- rings' ends, and the capacities that such a ring may have
pub record Rings (S T E : Type 0) : Type 1 where
  pub out : OutGhosts SinkOut
  pub give : TakeGhosts T E
  pub send : SendGhosts S E
  pub ring : EndGhosts E
  pub may_have : ℕ → Bool

-- an engine: its transmitter, its samplers, and the room for the lines of its account
pub record EngineState (S T E : Type 0) : Type 0 where
  pub transmitter : Transmitter SinkOut T
  pub lending : LendingState S E
  pub lines : Vec ListReport Global

-- the samplers that weren't handed out, in rising order of their event channels
abbrev pub samplers_in : {S T E : Type 0} → EngineState S T E → List (SamplerState S)
samplers_in e = e.lending.samplers

-- what is left of the send end of a ring of items
abbrev pub Left : Type 0
Left = Finished Item Global AnyItems

-- rings of items, and an engine over them
abbrev pub Items : Type 1
Items = Rings SendHalf TakeHalf Left

abbrev pub ItemEngine : Type 0
ItemEngine = EngineState SendHalf TakeHalf Left

-- rings of bytes, and an engine over them
abbrev pub Bytes : Type 1
Bytes = Rings ByteSend ByteTake ByteLeft

abbrev pub ByteEngine : Type 0
ByteEngine = EngineState ByteSend ByteTake ByteLeft

-- the samplers of either
abbrev pub ItemSampler : Type 0
ItemSampler = SamplerState SendHalf

abbrev pub ByteSampler : Type 0
ByteSampler = SamplerState ByteSend
