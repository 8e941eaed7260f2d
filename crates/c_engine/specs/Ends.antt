-- How an engine ends: its rings are drained, and it is closed with its account.
use Rattle.std.specs.Prelude.{◌≡◌, ◌⊎◌, ℕ, ◌<◌, ◌≤◌, Bool, false, true, List, ◌++◌, length}
use Rattle.std.specs.Prelude.{drop, map, Option, Some, None, Result, Ok, Err}
use Rattle.xcp_base.specs.declared.limits.TheConstants.{MAX_LISTS}
use Rattle.channel_ring.specs.declared.ends.SendEnd.{Ghosts as SendGhosts}
use Rattle.channel_ring.specs.declared.ends.RingEnd.{Ghosts as EndGhosts}
use Rattle.channel_ring.specs.declared.ends.TakeEnd.{Ghosts as TakeGhosts}
use Rattle.frame_writer.specs.declared.out.Out.{Ghosts as OutGhosts}
use Rattle.frame_writer.specs.declared.sink_out.SinkOut.{SinkOut}
use Rattle.sampler.specs.Past.{Past, first_past}
use Rattle.sampler.specs.State.{JoinedEnd, SamplerEndState, joined}
use Rattle.transmitter.specs.Looks.{KnowsNone, KnowsSome}
use Rattle.transmitter.specs.Written.{TransmitterState, transmission}
use Rattle.daq_engine.specs.Headline.{AllStand, Headline}
use Rattle.daq_engine.specs.declared.report.ListReport.{ListReport}
use Rattle.daq_engine.specs.declared.report.Report.{Report}
use Rattle.c_engine.specs.Engines.{FrameRoom, KeepsAll, OnEngine, PumpsEngine}
use Rattle.c_engine.specs.Lendings.{AreBack, LooksAtEnds, WasOpened}
use Rattle.c_engine.specs.States.{ByteEngine, Bytes, EngineState, ItemEngine, Items}
use Rattle.c_engine.specs.Ways.{GoesOnFrom}
use Rattle.c_engine.specs.declared.report_out.ReportOut.{ReportOut}
use Rattle.c_engine.specs.declared.content.Content.{Content}
use Rattle.c_engine.specs.declared.content.Content.TheVariants.{Engine as OverItems}
use Rattle.c_engine.specs.declared.content.Content.TheVariants.{ByteEngine as OverBytes}
use Rattle.c_engine.specs.declared.pumping.TheConstants.{PUMP_BYTES}
use Rattle.c_engine.specs.declared.status.Status.{Status}
use Rattle.c_engine.specs.declared.status.Status.TheVariants as status
use Rattle.c_engine.specs.declared.taken_back.TakenBack.{TakenBack}
use Rattle.c_engine.specs.declared.taken_back.TakenBack.TheVariants as taken

-- where nothing was pumped: no byte of the buffer is taken up
abbrev pub nothing_in : FrameRoom → FrameRoom
nothing_in room =
    record room { len = 0; pumped = record { stopped = 0; taken = 0; frames = 0 } }

-- the room for what a pump gives, and whether something was left before it
pub record DrainRoom : Type 0 where
  pub frames : FrameRoom
  pub left : Bool

-- the room for the lines of an account, and for the rest of it
pub record AccountRoom : Type 0 where
  pub lines : List ListReport
  pub report : ReportOut

module _ {S T E : Type 0} where
  -- an engine may be closed with so much room for lines: all its samplers came back
  abbrev pub MayClose
      : SendGhosts S E → EndGhosts E → EngineState S T E → EngineState S T E → ℕ → Type 0
  MayClose send ring s t room =
      KeepsAll s t × AreBack send ring t.lending × (MAX_LISTS ≤ room)

  -- why it stays open
  abbrev pub StaysOpen : EngineState S T E → EngineState S T E → ℕ → Status → Type 0
  StaysOpen s t room status.SmallBuffer = (room < MAX_LISTS) × (t ≡ s)
  StaysOpen s t room status.Unfinished = (MAX_LISTS ≤ room) × KeepsAll s t
  StaysOpen s t room _ = ⊥

module _ {S T E : Type 0} (out : OutGhosts SinkOut) (give : TakeGhosts T E)
    (send : SendGhosts S E) (ring : EndGhosts E) where
  abbrev pub state_in : EngineState S T E → TransmitterState
  state_in e = transmission out give e.transmitter

  abbrev pub ends_in : EngineState S T E → List JoinedEnd
  ends_in e = map (joined ring) e.lending.ends

  -- all samplers came back, and all that they sent was looked at
  abbrev pub LooksAtAll : EngineState S T E → EngineState S T E → Type 0
  LooksAtAll s t = LooksAtEnds send ring (state_in s) (state_in t) s.lending t.lending

  -- then it pumps, where something is left
  abbrev pub DrainsOn
      : EngineState S T E → EngineState S T E → FrameRoom → FrameRoom → Bool → Status → Type 0
  DrainsOn s t before after true result =
      KnowsSome (state_in s) × PumpsEngine out give s t before after result
  DrainsOn s t before after false result =
      (result ≡ status.Ok) × KnowsNone (state_in s) × (t ≡ s) × (after ≡ nothing_in before)

  -- the buffer is too short
  abbrev pub IsShort : EngineState S T E → EngineState S T E → DrainRoom → DrainRoom → Type 0
  IsShort s t before after =
      (length before.frames.buffer < PUMP_BYTES) × (t ≡ s) × (after ≡ before)

  -- a sampler didn't come back yet
  abbrev pub AwaitsSome : EngineState S T E → EngineState S T E → DrainRoom → DrainRoom → Type 0
  AwaitsSome s t before after =
      (PUMP_BYTES ≤ length before.frames.buffer) × KeepsAll s t × (after ≡ before)

  -- all came back
  abbrev pub DrainsAll
      : EngineState S T E → EngineState S T E → DrainRoom → DrainRoom → Status → Type 0
  DrainsAll s t before after result =
      (m : EngineState S T E) × (PUMP_BYTES ≤ length before.frames.buffer) × LooksAtAll s m
      × DrainsOn m t before.frames after.frames after.left result

  -- what an engine does where its rings are drained
  abbrev pub DrainsEngine
      : EngineState S T E → EngineState S T E → DrainRoom → DrainRoom → Status → Type 0
  DrainsEngine s t before after result =
      ((result ≡ status.SmallBuffer) × IsShort s t before after)
      ⊎ (((result ≡ status.Unfinished) × AwaitsSome s t before after)
      ⊎ DrainsAll s t before after result)

  -- what came back stands after pasts that go on from the openings of its channels; and the
  -- headline holds for all pasts that it stands after, so also for those of its samplers
  pub record HasHeadlineSince (e : EngineState S T E)
      (opened : WasOpened send ring e.lending.began (state_in e)) (report : Report)
      : Type 0 where
    pub past : ℕ → Past
    pub goes_on : (c : ℕ) → GoesOnFrom (first_past (opened.openings c)) (past c)
    pub stand : AllStand (ends_in e) past
    pub headline :
        (pasts : ℕ → Past) → AllStand (ends_in e) pasts
        → Headline opened.start (state_in e) (ends_in e) pasts report

  -- an account is that of the engine, by what came back: the engine was opened, and has the
  -- headline for all that it was opened with
  pub record IsAccountOf (e : EngineState S T E) (before after : AccountRoom) (report : Report)
      : Type 0 where
    pub back : AreBack send ring e.lending
    pub opened : WasOpened send ring e.lending.began (state_in e)
    pub headline :
        (opened : WasOpened send ring e.lending.began (state_in e))
        → HasHeadlineSince e opened report
    pub told :
        after.report
        ≡ record { lines = length report.lists.items; failed = report.failed }
    pub lines :
        after.lines
        ≡ report.lists.items ++ drop (length report.lists.items) before.lines

  -- an engine is given up with the account of all that came back of its samplers
  abbrev pub ClosesEngine :
      EngineState S T E → List (SamplerEndState E) → AccountRoom → AccountRoom → Type 0
  ClosesEngine s back before after =
      (t : EngineState S T E) × KeepsAll s t × (back ≡ t.lending.ends)
      × ((report : Report) × IsAccountOf t before after report)

-- why what is held stays, where it is to be closed with so much room for lines
abbrev pub StaysHeld : Option Content → Option Content → ℕ → Status → Type 0
StaysHeld (Some (OverItems s)) new room result =
    (t : ItemEngine) × (new ≡ Some (OverItems t)) × StaysOpen s t room result
StaysHeld (Some (OverBytes s)) new room result =
    (t : ByteEngine) × (new ≡ Some (OverBytes t)) × StaysOpen s t room result
StaysHeld old new room result = (result ≡ status.Empty) × (new ≡ old)

-- what a close is to C
abbrev pub status_of_close : Result TakenBack Status → Status
status_of_close (Ok back) = status.Ok
status_of_close (Err status) = status

module _ (items : Items) (bytes : Bytes) where
  -- what ng_drain does to a handle
  abbrev pub Drains : Option Content → Option Content → DrainRoom → DrainRoom → Status → Type 0
  Drains old new before after result =
      OnEngine old new result (after ≡ before)
      (λ s t. DrainsEngine items.out items.give items.send items.ring s t before after result)
      (λ s t. DrainsEngine bytes.out bytes.give bytes.send bytes.ring s t before after result)

  -- what is held is an engine that may be closed
  abbrev pub MayCloseHeld : Content → Content → ℕ → Type 0
  MayCloseHeld (OverItems s) new room =
      (t : ItemEngine) × (new ≡ OverItems t) × MayClose items.send items.ring s t room
  MayCloseHeld (OverBytes s) new room =
      (t : ByteEngine) × (new ≡ OverBytes t) × MayClose bytes.send bytes.ring s t room
  MayCloseHeld old new room = ⊥

  -- the engine that is held is given up
  abbrev pub ClosesHeld : Option Content → TakenBack → AccountRoom → AccountRoom → Type 0
  ClosesHeld (Some (OverItems s)) (taken.Items back) before after =
      ClosesEngine items.out items.give items.send items.ring s back before after
  ClosesHeld (Some (OverBytes s)) (taken.Bytes back) before after =
      ClosesEngine bytes.out bytes.give bytes.send bytes.ring s back before after
  ClosesHeld old back before after = ⊥

  -- the engine of a handle was closed, and this came back to it; the handle is empty then. Or it
  -- stays
  abbrev pub ClosesBy
      : Option Content → Option Content → AccountRoom → AccountRoom → Result TakenBack Status
      → Type 0
  ClosesBy old new before after (Ok back) = (new ≡ None) × ClosesHeld old back before after
  ClosesBy old new before after (Err result) =
      StaysHeld old new (length before.lines) result × (after ≡ before)

  -- what ng_close does to a handle
  abbrev pub Closes
      : Option Content → Option Content → AccountRoom → AccountRoom → Status → Type 0
  Closes old new before after result =
      (close : Result TakenBack Status) × (result ≡ status_of_close close)
      × ClosesBy old new before after close
