-- What the calls of an engine in one thread are refused for, and what a refusal leaves.
use Rattle.std.specs.Prelude.{◌≡◌, ℕ, ◌≤◌, ◌↔◌, List, length, map, slice_get, slice_index}
use Rattle.std.specs.Prelude.{[], IfErr, IfOk, OnErr, OnOk}
use Rattle.std.specs.Prelude.{Option, None, Some, Result, Ok, Err}
use Rattle.segments.specs.Image.{image_len}
use Rattle.channel_ring.specs.declared.ends.SendEnd.{Ghosts as SendGhosts}
use Rattle.channel_ring.specs.declared.ends.RingEnd.{Ghosts as EndGhosts}
use Rattle.sampler.specs.History.{Start, Stop}
use Rattle.sampler.specs.Items.{marker_of}
use Rattle.sampler.specs.Refusals.{AnswersStop, running_at}
use Rattle.sampler.specs.Refusals.{start_refusal, stop_refusal, trigger_refusal}
use Rattle.sampler.specs.State.{SamplerState}
use Rattle.sampler.specs.Stays.{HasNoRoomFor}
use Rattle.sampler.specs.declared.faults.StartFault.{StartFault}
use Rattle.sampler.specs.declared.faults.TriggerFault.{TriggerFault}
use Rattle.sampler.specs.declared.taken.Taken.{Taken}
use Rattle.sampler.specs.declared.faults.StopFault.{StopFault}
use Rattle.sampler.specs.declared.faults.StopFault.TheVariants.{NoRoom, NotOfChannel, NotRunning}
use Rattle.daq_engine.specs.Engines.{EngineState, LeadsTo, OfPast, StaysBut}
use Rattle.daq_engine.specs.Events.{Triggers, with_event}
use Rattle.daq_engine.specs.Samplers.{FreesAt}
use Rattle.daq_engine.specs.declared.channel_fault.ChannelFault.{ChannelFault}
use Rattle.daq_engine.specs.declared.channel_fault.ChannelFault.TheVariants.{NoChannel, Refused}

-- what the sampler of a channel answered, where it refused
abbrev pub refusal_in : {A F : Type 0} → Result A (ChannelFault F) → Option F
refusal_in (Ok a) = None
refusal_in (Err NoChannel) = None
refusal_in (Err (Refused fault)) = Some fault

-- `NoChannel` is answered exactly where there is no channel c
abbrev pub TellsNoChannel :
    {S A F : Type 0} → ℕ → EngineState S → Result A (ChannelFault F) → Type 0
TellsNoChannel c e result = (result ≡ Err NoChannel) ↔ (length e.samplers ≤ c)

-- the length of the images that channel c takes
abbrev pub image_len_at : {S : Type 0} → List (SamplerState S) → ℕ → ℕ
image_len_at samplers c =
    slice_index (map (λ (s : SamplerState _). image_len s.segments) samplers) c

-- the stop marker of list l costs more than what the sampler of channel c knows to be free, and,
-- with all that was sent to its ring before it, more than the capacity
abbrev pub FindsNoRoom :
    {S E : Type 0} → SendGhosts S E → EndGhosts E → List (SamplerState S) → ℕ → ℕ → Type 0
FindsNoRoom send ring samplers c l =
    (s : SamplerState _) → slice_get samplers c ≡ Some s →
    HasNoRoomFor send ring s.end (marker_of s.channel l)

-- what a refused stop leaves: all; or, where there was no room, all but what the sampler of channel
-- c knows to be free, beside what no call on that channel changes
abbrev pub StopLeavesEngine :
    {S E : Type 0} → SendGhosts S E → ℕ → EngineState S → EngineState S → ChannelFault StopFault
    → Type 0
StopLeavesEngine send c before after NoChannel = after ≡ before
StopLeavesEngine send c before after (Refused NotOfChannel) = after ≡ before
StopLeavesEngine send c before after (Refused NotRunning) = after ≡ before
StopLeavesEngine send c before after (Refused NoRoom) =
    FreesAt send c before.samplers after.samplers

module _ {S E : Type 0} (send : SendGhosts S E) (ring : EndGhosts E) (before after : EngineState S)
    (c : ℕ) where
  -- an engine was handed a trigger of channel c: what it answers, and what that leaves
  pub record AsksTrigger (image : List ℕ) (stamp : ℕ)
      (result : Result Taken (ChannelFault TriggerFault))
      : Type 0 where
    pub ok : IfOk result (λ taken. Triggers send ring before after c taken image stamp)
    pub refused :
        OfPast send ring before c
        (λ past. refusal_in result ≡ trigger_refusal (image_len_at before.samplers c) past image)
    pub no_channel : TellsNoChannel c before result
    pub err : OnErr result (after ≡ before)
    pub others_stay : StaysBut send c before after

  -- it was asked to start list l of channel c
  pub record AsksStart (l : ℕ) (result : Result (Unit {0}) (ChannelFault StartFault))
      : Type 0 where
    pub ok : OnOk result (LeadsTo send ring before after (with_event c (Start l) []))
    pub refused :
        OfPast send ring before c
        (λ past. refusal_in result ≡ start_refusal (running_at past l))
    pub no_channel : TellsNoChannel c before result
    pub err : OnErr result (after ≡ before)
    pub others_stay : StaysBut send c before after

  -- it was asked to stop list l of channel c
  pub record AsksStop (l : ℕ) (result : Result (Unit {0}) (ChannelFault StopFault)) : Type 0 where
    pub ok : OnOk result (LeadsTo send ring before after (with_event c (Stop l) []))
    pub refused :
        OfPast send ring before c
        (λ past. AnswersStop (stop_refusal (running_at past l)) (refusal_in result))
    pub no_room :
        result ≡ Err (Refused NoRoom) → FindsNoRoom send ring before.samplers c l
    pub no_channel : TellsNoChannel c before result
    pub err : IfErr result (StopLeavesEngine send c before after)
    pub err_stands : OnErr result (LeadsTo send ring before after (λ st. st))
    pub others_stay : StaysBut send c before after
