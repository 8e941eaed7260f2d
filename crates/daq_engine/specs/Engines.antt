-- What an engine shows, and what it stands after.
use Rattle.std.specs.Prelude.{◌≡◌, ℕ, ◌<◌, List, [], length}
use Rattle.xcp_base.specs.declared.item.Item.{Item}
use Rattle.channel_ring.specs.declared.ends.SendEnd.{Ghosts as SendGhosts}
use Rattle.channel_ring.specs.declared.ends.RingEnd.{Ghosts as EndGhosts}
use Rattle.channel_ring.specs.declared.ends.TakeEnd.{Ghosts as TakeGhosts}
use Rattle.daq_store.specs.Standing.{StoreState}
use Rattle.frame_writer.specs.Writing.{WriterState}
use Rattle.frame_writer.specs.declared.out.Out.{Ghosts as OutGhosts}
use Rattle.sampler.specs.History.{Opening}
use Rattle.sampler.specs.State.{SamplerState}
use Rattle.transmitter.specs.Written.{HasTaken, TransmitterState, transmission}
use Rattle.sampler.specs.Past.{Past, first_past}
use Rattle.daq_engine.specs.Configuration.{IsConfiguration}
use Rattle.daq_engine.specs.Openings.{AreOpened}
use Rattle.daq_engine.specs.Samplers.{OnlyAt}
use Rattle.daq_engine.specs.Standings.{StandInOrder}
use Rattle.daq_engine.specs.declared.engine.Engine.{Engine}

-- the samplers of event channels 0, 1, .., and the transmitter of their rings
pub record EngineState (S : Type 0) : Type 0 where
  pub samplers : List (SamplerState S)
  pub transmitter : TransmitterState

abbrev pub engine_state :
    {O T S E : Type 0} {left : EndGhosts E} {send : SendGhosts S E} {ring : EndGhosts E}
    (out : OutGhosts O) (take : TakeGhosts T E)
    → Engine O T S E E out take left send ring → EngineState S
engine_state out take e = record {
  samplers = e.samplers.items;
  transmitter = transmission out take e.transmitter;
}

-- nothing changed but perhaps the sampler of channel c, which is still that of its channel and ring
pub record StaysBut {S E : Type 0} (send : SendGhosts S E) (c : ℕ) (before after : EngineState S)
    : Type 0 where
  pub samplers : OnlyAt send c before.samplers after.samplers
  pub transmitter : after.transmitter ≡ before.transmitter

-- what an engine may stand after: the frame writer that it began with, the past of each event
-- channel, and the items that it took from the rings
pub record Standing : Type 0 where
  pub start : WriterState
  pub past : ℕ → Past
  pub taken : List (ℕ × Item)

-- what it stands after at its opening
abbrev pub first_standing : WriterState → (ℕ → Opening) → Standing
first_standing start openings = record {
  start = start;
  past = λ c. first_past (openings c);
  taken = [];
}

-- an engine stands so: the openings are those of one configuration, each sampler stands after the
-- past of its channel, and the transmitter took the items and wrote the samples among them
pub record Stands {S E : Type 0} (send : SendGhosts S E) (ring : EndGhosts E) (e : EngineState S)
    (st : Standing)
    : Type 0 where
  pub configuration : IsConfiguration (length e.samplers) (λ c. (st.past c).opening)
  pub samplers : StandInOrder send ring e.samplers st.past
  pub transmitter : HasTaken st.start e.transmitter st.taken

-- an engine was opened over a store, with a frame writer that stands so: it has the samplers of the
-- store's event channels, and stands after nothing
pub record IsOpenedFrom {S E : Type 0} (send : SendGhosts S E) (ring : EndGhosts E)
    (s : StoreState) (caps : List ℕ) (start : WriterState) (e : EngineState S)
    : Type 0 where
  -- fixed by `opened`, for the channels that there are
  pub openings : ℕ → Opening
  pub opened : AreOpened send ring s caps e.samplers openings
  pub stands : Stands send ring e (first_standing start openings)

-- whatever the engine stood after, it stands after what `next` makes of that
abbrev pub LeadsTo :
    {S E : Type 0} → SendGhosts S E → EndGhosts E → EngineState S → EngineState S
    → (Standing → Standing) → Type 0
LeadsTo send ring before after next =
    (st : Standing) → Stands send ring before st → Stands send ring after (next st)

-- whatever channel c, which is there, has behind it: so it is of that past
abbrev pub OfPast :
    {S E : Type 0} → SendGhosts S E → EndGhosts E → EngineState S → ℕ → (Past → Type 0) → Type 0
OfPast send ring e c P =
    (st : Standing) → Stands send ring e st → c < length e.samplers → P (st.past c)
