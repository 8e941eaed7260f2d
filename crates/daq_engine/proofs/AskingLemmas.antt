-- One of the samplers of an engine was asked for something, or all of them were looked at.
use Rattle.std.proofs.Common.{ℕ, ◌++◌, List, Bool, length, sym, subst}
use Rattle.std.specs.Prelude.{Result, Ok, Err, IfOk, OnErr, OnOk}
use Rattle.channel_ring.specs.declared.ends.SendEnd.{Ghosts as SendGhosts}
use Rattle.channel_ring.specs.declared.ends.RingEnd.{Ghosts as EndGhosts}
use Rattle.sampler.specs.History.{Event}
use Rattle.sampler.specs.State.{SamplerState}
use Rattle.sampler.specs.declared.taken.Taken.{Taken}
use Rattle.xcp_base.specs.declared.item.Item.{Item}
use Rattle.frame_writer.specs.Writing.{WriterState}
use Rattle.transmitter.specs.Written.{HasTaken, TransmitterState}
use Rattle.daq_engine.proofs.ChangedLemmas.{LeadInOrder}
use Rattle.sampler.specs.Past.{Past}
use Rattle.daq_engine.specs.Configuration.{IsConfiguration}
use Rattle.daq_engine.specs.Engines.{EngineState, LeadsTo, Standing, Stands}
use Rattle.daq_engine.specs.Events.{Triggers, TriggersAt, past_with, with_event, with_taken}
use Rattle.daq_engine.specs.Samplers.{StayThose}
use Rattle.daq_engine.specs.Standings.{StandInOrder}
use Rattle.daq_engine.proofs.BesideLemmas.{as_many_stay}

-- what follows where an answer is `Ok`, and where it is `Err`
pub if_ok : {A F : Type 0} (P Q : A → Type 0) (r : Result A F) → ((a : A) → P a → Q a) → IfOk r P → IfOk r Q
if_ok P Q (Ok a) f h = f a h
if_ok P Q (Err e) f h = tt

pub on_ok : {A F : Type 0} {P Q : Type 0} (r : Result A F) → (P → Q) → OnOk r P → OnOk r Q
on_ok (Ok a) f h = f h
on_ok (Err e) f h = tt

pub on_err : {A F : Type 0} {P Q : Type 0} (r : Result A F) → (P → Q) → OnErr r P → OnErr r Q
on_err (Ok a) f h = tt
on_err (Err e) f h = f h

-- the samplers xs beside transmitter t became ys, which are still those of their channels and rings
module _ {S E : Type 0} (send : SendGhosts S E) (ring : EndGhosts E) (xs ys : List (SamplerState S)) (t : TransmitterState) (stay : StayThose send xs ys) where
  abbrev before : EngineState S
  before = record { samplers = xs; transmitter = t }

  abbrev after : EngineState S
  after = record { samplers = ys; transmitter = t }

  configured : (st : Standing) → Stands send ring before st → IsConfiguration (length ys) (λ c. (st.past c).opening)
  configured st stands = subst (λ n. IsConfiguration n (λ c. (st.past c).opening)) (sym (as_many_stay send xs ys stay)) stands.configuration

  -- a channel has one event more behind it
  pub leads-event : (c : ℕ) (e : Event) (ds : List Bool) → LeadInOrder send ring xs ys (past_with c e ds) → LeadsTo send ring before after (with_event c e ds)
  leads-event c e ds leads st stands = record {
    configuration = configured st stands;
    samplers = leads st.past stands.samplers;
    transmitter = stands.transmitter;
  }

  -- nothing more is behind any
  pub leads-still : LeadInOrder send ring xs ys (λ past. past) → LeadsTo send ring before after (λ st. st)
  leads-still leads st stands = record {
    configuration = configured st stands;
    samplers = leads st.past stands.samplers;
    transmitter = stands.transmitter;
  }

  -- one of them took a trigger
  pub triggers : (c : ℕ) (taken : Taken) (image : List ℕ) (stamp : ℕ)
      → ((past : ℕ → Past) → StandInOrder send ring xs past → TriggersAt send ring xs ys c taken past image stamp)
      → Triggers send ring before after c taken image stamp
  triggers c taken image stamp takes st stands =
      let at = takes st.past stands.samplers in
      record {
        at = at;
        stands = record { configuration = configured st stands; samplers = at.stand; transmitter = stands.transmitter };
      }

  -- some items more were taken, so that the transmitter became u
  pub leads-taken : (u : TransmitterState) (qs : List (ℕ × Item))
      → ((start : WriterState) (ps : List (ℕ × Item)) → HasTaken start t ps → HasTaken start u (ps ++ qs))
      → LeadInOrder send ring xs ys (λ past. past) → LeadsTo send ring before (record { samplers = ys; transmitter = u }) (with_taken qs)
  leads-taken u qs takes leads st stands = record {
    configuration = configured st stands;
    samplers = leads st.past stands.samplers;
    transmitter = takes st.start st.taken stands.transmitter;
  }
