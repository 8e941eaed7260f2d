-- What the calls of an engine's handle answer and what they leave, by their status.
use Rattle.std.specs.Prelude.{◌≡◌, ◌⊎◌, ℕ, ◌<◌, ◌≤◌, Bool, false, true, List, [], ◌∷◌}
use Rattle.std.specs.Prelude.{length, Option, Some, None, Ok, Err}
use mathlib.Core.List.{IsPrefix}
use Rattle.channel_ring.specs.declared.ends.SendEnd.{Ghosts as SendGhosts}
use Rattle.channel_ring.specs.declared.ends.RingEnd.{Ghosts as EndGhosts}
use Rattle.channel_ring.specs.declared.ends.TakeEnd.{Ghosts as TakeGhosts}
use Rattle.frame_writer.specs.declared.out.Out.{Ghosts as OutGhosts}
use Rattle.frame_writer.specs.declared.sink_out.SinkOut.{SinkOut}
use Rattle.frame_writer.specs.Writing.{WriterState, fresh_writer}
use Rattle.daq_store.specs.Standing.{StoreState}
use Rattle.sampler.specs.History.{Opening}
use Rattle.sampler.specs.State.{SamplerState}
use Rattle.transmitter.specs.declared.faults.PumpFault.TheVariants as fault
use Rattle.transmitter.specs.declared.pumped.Pumped.{Pumped}
use Rattle.transmitter.specs.Fills.{IsInFront}
use Rattle.transmitter.specs.Pumps.{IsPump}
use Rattle.transmitter.specs.Written.{next_of, transmission}
use Rattle.daq_engine.specs.Openings.{AreOpened, CanOpenOver, IsPaired, fit_caps_of}
use Rattle.daq_engine.specs.Openings.{some_list_runs}
use Rattle.c_engine.specs.declared.content.Content.{Content}
use Rattle.c_engine.specs.declared.content.Content.TheVariants.{Engine as OverItems}
use Rattle.c_engine.specs.declared.content.Content.TheVariants.{ByteEngine as OverBytes}
use Rattle.c_engine.specs.declared.content.Content.TheVariants.{Sampler as OfItems}
use Rattle.c_engine.specs.declared.content.Content.TheVariants.{ByteSampler as OfBytes, Store}
use Rattle.c_engine.specs.declared.pumping.TheConstants.{PUMP_BYTES}
use Rattle.c_engine.specs.declared.pumped_out.PumpedOut.{PumpedOut}
use Rattle.xcp_base.specs.declared.ring_kind.RingKind.{RingKind}
use Rattle.xcp_base.specs.declared.ring_kind.RingKind.TheVariants as kind
use Rattle.c_engine.specs.Kinds.{ring_of}
use Rattle.c_engine.specs.Lends.{Lends}
use Rattle.c_engine.specs.States.{ByteEngine, Bytes, EngineState, ItemEngine, Items}
use Rattle.c_engine.specs.States.{samplers_in}
use Rattle.c_engine.specs.declared.status.Status.{Status}
use Rattle.c_engine.specs.declared.status.Status.TheVariants as status

-- what goes out of what a pump did
abbrev pub pumped_out : Pumped → PumpedOut
pumped_out pumped =
    record { stopped = pumped.stopped; taken = pumped.taken; frames = pumped.frames }

-- the buffer of frames, how many bytes of it they take up, and what a pump did
pub record FrameRoom : Type 0 where
  pub buffer : List ℕ
  pub len : ℕ
  pub pumped : PumpedOut

module _ {S T E : Type 0} where
  -- an engine hands the first sampler out that it has
  pub record HandsOut (s t : EngineState S T E) (sampler : SamplerState S) : Type 0 where
    pub first : samplers_in s ≡ sampler ∷ samplers_in t
    pub transmitter : t.transmitter ≡ s.transmitter
    pub began : t.lending.began ≡ s.lending.began
    pub ends : t.lending.ends ≡ s.lending.ends

  -- it keeps all that it has, and all that came back to it; more may have come
  pub record KeepsAll (s t : EngineState S T E) : Type 0 where
    pub samplers : samplers_in t ≡ samplers_in s
    pub transmitter : t.transmitter ≡ s.transmitter
    pub began : t.lending.began ≡ s.lending.began
    pub ends : IsPrefix s.lending.ends t.lending.ends

  -- the same, by what becomes of its samplers
  pub record LendsOut (s t : EngineState S T E) (sampler : SamplerState S) : Type 0 where
    pub lends : Lends s.lending t.lending sampler
    pub transmitter : t.transmitter ≡ s.transmitter
    pub lines : t.lines ≡ s.lines

  -- why none is handed out
  abbrev pub LendsNone : EngineState S T E → EngineState S T E → Status → Type 0
  LendsNone s t result =
      (t ≡ s) × (((result ≡ status.NoSampler) × (samplers_in s ≡ []))
      ⊎ ((result ≡ status.Memory) × (0 < length (samplers_in s))))

  -- what an engine hands out into an empty handle, which holds a sampler so
  abbrev pub HandsSampler
      : (SamplerState S → Content) → EngineState S T E → EngineState S T E → Option Content
      → Status → Type 0
  HandsSampler holds s t given status.Ok =
      (sampler : SamplerState S) × (given ≡ Some (holds sampler)) × HandsOut s t sampler
  HandsSampler holds s t given status.NoSampler =
      (samplers_in s ≡ []) × KeepsAll s t × (given ≡ None)
  HandsSampler holds s t given status.Memory =
      (0 < length (samplers_in s)) × KeepsAll s t × (given ≡ None)
  HandsSampler holds s t given _ = ⊥

module _ {S T E : Type 0} (out : OutGhosts SinkOut) (give : TakeGhosts T E) where
  -- an engine pumps, and its frames come out. The next has the samplers of the one before
  pub record PumpsOut (s t : EngineState S T E) (before after : FrameRoom) (pumped : Pumped)
      : Type 0 where
    pub room : PUMP_BYTES ≤ length before.buffer
    pub pump :
        IsPump (transmission out give s.transmitter) (transmission out give t.transmitter)
        (Ok pumped)
    pub front :
        IsInFront (transmission out give s.transmitter).writer.out
        (transmission out give t.transmitter).writer.out before.buffer after.buffer after.len
    pub told : after.pumped ≡ pumped_out pumped
    -- each ring had its turn
    pub next : next_of t.transmitter ≡ 0
    pub lending : t.lending ≡ s.lending

  -- an engine took so many items that it takes no more
  pub record IsSpent (s t : EngineState S T E) (before after : FrameRoom) : Type 0 where
    pub room : PUMP_BYTES ≤ length before.buffer
    pub pump :
        IsPump (transmission out give s.transmitter) (transmission out give t.transmitter)
        (Err fault.Spent)
    pub stays : after ≡ before
    pub lending : t.lending ≡ s.lending

  -- what an engine does at a pump; its frames are always written whole
  abbrev pub PumpsEngine
      : EngineState S T E → EngineState S T E → FrameRoom → FrameRoom → Status → Type 0
  PumpsEngine s t before after status.Ok = (pumped : Pumped) × PumpsOut s t before after pumped
  PumpsEngine s t before after status.Spent = IsSpent s t before after
  PumpsEngine s t before after status.SmallBuffer =
      (length before.buffer < PUMP_BYTES) × (t ≡ s) × (after ≡ before)
  PumpsEngine s t before after _ = ⊥

-- why no engine is opened over rings that may have such capacities
abbrev pub IsRefused : (ℕ → Bool) → StoreState → List ℕ → Status → Type 0
IsRefused may_have s caps status.BadCaps = fit_caps_of may_have s caps ≡ false
IsRefused may_have s caps status.NothingRunning =
    (fit_caps_of may_have s caps ≡ true) × (some_list_runs s ≡ false)
IsRefused may_have s caps status.Memory = Unit {0}
IsRefused may_have s caps _ = ⊥

module _ {S T E : Type 0} (out : OutGhosts SinkOut) (give : TakeGhosts T E)
    (send : SendGhosts S E) (ring : EndGhosts E) (may_have : ℕ → Bool) where
  -- an engine was opened over a store, with all its samplers; nothing was written
  pub record IsOpened (s : StoreState) (caps : List ℕ) (e : EngineState S T E) : Type 0 where
    pub could : CanOpenOver may_have s caps
    pub openings : ℕ → Opening
    pub opened : AreOpened send ring s caps (samplers_in e) openings
    pub began : e.lending.began ≡ samplers_in e
    pub start : WriterState
    pub fresh : start ≡ fresh_writer (record { contents = []; failures = 0; stalls = 0 })
    pub paired :
        IsPaired send (samplers_in e) start (transmission out give e.transmitter)
    pub next : next_of e.transmitter ≡ 0

  -- what an engine is opened to, which a handle holds so, or why not
  abbrev pub OpensOver
      : (EngineState S T E → Content) → StoreState → List ℕ → Option Content → Status → Type 0
  OpensOver holds s caps new status.Ok =
      (e : EngineState S T E) × (new ≡ Some (holds e)) × IsOpened s caps e
  OpensOver holds s caps new result = (new ≡ None) × IsRefused may_have s caps result

-- what a call does to the handle of an engine: an engine of its kind stays in it, of which this
-- holds. Where there is none it answers so, and leaves it, as what is said there
abbrev pub OnEngine
    : Option Content → Option Content → Status → Type 0
    → (ItemEngine → ItemEngine → Type 0) → (ByteEngine → ByteEngine → Type 0) → Type 0
OnEngine (Some (OverItems e)) new result stays items bytes =
    (t : ItemEngine) × (new ≡ Some (OverItems t)) × items e t
OnEngine (Some (OverBytes e)) new result stays items bytes =
    (t : ByteEngine) × (new ≡ Some (OverBytes t)) × bytes e t
OnEngine old new result stays items bytes = (result ≡ status.Empty) × (new ≡ old) × stays

-- what ng_next_sampler does to the handles of an engine and of a sampler
abbrev pub GivesSampler
    : Option Content → Option Content → Option Content → Option Content → Status → Type 0
GivesSampler old new (Some it) given result =
    (result ≡ status.InUse) × (given ≡ Some it) × (new ≡ old)
GivesSampler old new None given result =
    OnEngine old new result (given ≡ None)
    (λ s t. HandsSampler OfItems s t given result)
    (λ s t. HandsSampler OfBytes s t given result)

module _ (items : Items) (bytes : Bytes) where
  -- what ng_pump does to a handle
  abbrev pub PumpsHandle
      : Option Content → Option Content → FrameRoom → FrameRoom → Status → Type 0
  PumpsHandle old new before after result =
      OnEngine old new result (after ≡ before)
      (λ s t. PumpsEngine items.out items.give s t before after result)
      (λ s t. PumpsEngine bytes.out bytes.give s t before after result)

  -- what an engine is opened to over a store, and over rings of this kind
  abbrev pub OpensAs
      : Option RingKind → StoreState → List ℕ → Option Content → Status → Type 0
  OpensAs (Some kind.Samples) s caps new result =
      OpensOver items.out items.give items.send items.ring items.may_have
      OverItems s caps new result
  OpensAs (Some kind.Bytes) s caps new result =
      OpensOver bytes.out bytes.give bytes.send bytes.ring bytes.may_have
      OverBytes s caps new result
  OpensAs None s caps new result = (result ≡ status.BadLimits) × (new ≡ None)

  -- what an engine is opened to over the handle of a store
  abbrev pub OpensOn
      : Option Content → Option RingKind → List ℕ → Option Content → Status → Type 0
  OpensOn (Some (Store s)) kind caps new result = OpensAs kind s caps new result
  OpensOn store kind caps new result = (result ≡ status.Empty) × (new ≡ None)

  -- what ng_open does to the handle of an engine, beside one of a store, with this number of a kind
  -- of ring
  abbrev pub OpensEngine
      : Option Content → Option Content → Option Content → ℕ → List ℕ → Status → Type 0
  OpensEngine store (Some it) new number caps result = (result ≡ status.InUse) × (new ≡ Some it)
  OpensEngine store None new number caps result = OpensOn store (ring_of number) caps new result
