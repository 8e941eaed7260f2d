-- How an engine in one thread is closed, and what stands where it isn't.
use Rattle.std.specs.Prelude.{◌≡◌, All, Bool, List, length, map}
use Rattle.channel_ring.specs.declared.ends.SendEnd.{Ghosts as SendGhosts}
use Rattle.channel_ring.specs.declared.ends.RingEnd.{Ghosts as EndGhosts}
use Rattle.channel_ring.specs.declared.ends.TakeEnd.{Ghosts as TakeGhosts}
use Rattle.frame_writer.specs.Shown.{OutState}
use Rattle.frame_writer.specs.Writing.{state_of}
use Rattle.frame_writer.specs.declared.out.Out.{Ghosts as OutGhosts}
use Rattle.sampler.specs.State.{JoinedEnd, SamplerState, sent_by}
use Rattle.daq_engine.specs.Closed.{HasClosed}
use Rattle.daq_engine.specs.Engines.{EngineState, Standing, engine_state}
use Rattle.daq_engine.specs.Samplers.{SomeIsLost, sent_of_each}
use Rattle.daq_engine.specs.Standings.{EndsStandInOrder}
use Rattle.daq_engine.specs.declared.report.Report.{Report}
use Rattle.daq_engine.specs.declared.unclosed.Unclosed.{Unclosed}
use Rattle.daq_engine.specs.declared.unclosed.Unclosed.TheVariants.{Lost, Memory}

-- an engine that stood so was closed with this report and this writer: there is an end for each
-- sampler, with its capacity and the costs of its kind of ring, which tells what that one sent and
-- stands after its past; and the headline holds of the pasts
pub record ClosesEngine {S E : Type 0} (send : SendGhosts S E) (ring : EndGhosts E) (drain : Bool)
    (e : EngineState S) (st : Standing) (report : Report) (out : OutState)
    : Type 0 where
  -- fixed by all that follows
  pub ends : List JoinedEnd
  pub as_many : length ends ≡ length e.samplers
  pub sent : sent_by ends ≡ sent_of_each send e.samplers
  pub capacities :
      map (λ (left : JoinedEnd). left.capacity) ends
      ≡ map (λ (s : SamplerState S). send.capacity s.end) e.samplers
  pub costs : All (λ (left : JoinedEnd). left.cost ≡ ring.cost) ends
  pub stand : EndsStandInOrder ends st.past
  pub closed : HasClosed drain st.start st.taken e.transmitter ends st.past report out

-- what comes back of an engine that was not closed: itself, as it was; or its frame writer, which
-- shows what it showed, and then only where the end of a sampler was lost
abbrev pub GivesBack :
    {O T S E : Type 0} {left : EndGhosts E} {send : SendGhosts S E} {ring : EndGhosts E}
    (out : OutGhosts O) (take : TakeGhosts T E)
    → Unclosed O T S E E out take left send ring → EngineState S → Type 0
GivesBack out take (Memory e) s = engine_state out take e ≡ s
GivesBack {send = send} out take (Lost writer) s =
    (state_of out writer ≡ s.transmitter.writer) × SomeIsLost send s.samplers
