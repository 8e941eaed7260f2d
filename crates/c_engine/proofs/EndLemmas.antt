-- How what holds of an engine at its end comes to what its calls say.
use mathlib.Core.List.{IsPrefix}
use Rattle.std.proofs.Common.{◌≡◌, ◌∙◌, ◌≤◌, true, false, ap, inr, length, map, refl, subst, sym}
use Rattle.channel_ring.specs.declared.ends.SendEnd.{Ghosts as SendGhosts}
use Rattle.channel_ring.specs.declared.ends.RingEnd.{Ghosts as EndGhosts}
use Rattle.channel_ring.specs.declared.ends.TakeEnd.{Ghosts as TakeGhosts}
use Rattle.frame_writer.specs.declared.out.Out.{Ghosts as OutGhosts}
use Rattle.frame_writer.specs.declared.sink_out.SinkOut.{SinkOut}
use Rattle.sampler.specs.State.{joined}
use Rattle.transmitter.specs.Looks.{KnowsNone, KnowsSome, Looked}
use Rattle.transmitter.specs.Written.{transmission}
use Rattle.transmitter.specs.declared.transmitter.Transmitter.{Transmitter}
use Rattle.c_engine.proofs.LendingLemmas.{prefix-map, prefix-then}
use Rattle.c_engine.specs.Ends.{DrainRoom, DrainsEngine, DrainsOn, LooksAtAll, nothing_in, state_in}
use Rattle.c_engine.specs.Engines.{PumpsEngine}
use Rattle.c_engine.specs.Lendings.{LendingState, LooksAtEnds}
use Rattle.c_engine.specs.States.{EngineState}
use Rattle.c_engine.specs.declared.pumping.TheConstants.{PUMP_BYTES}
use Rattle.c_engine.specs.declared.status.Status.{Status}
use Rattle.c_engine.specs.declared.status.Status.TheVariants as status

module _ {S T E : Type 0} (out : OutGhosts SinkOut) (give : TakeGhosts T E) (send : SendGhosts S E) (ring : EndGhosts E) where
  -- what came back was looked at, behind what was collected
  pub looked-at-all : {i s : EngineState S T E} (transmitter : Transmitter SinkOut T) {collected looked : LendingState S E}
      → i ≡ s → collected.began ≡ i.lending.began → collected.samplers ≡ i.lending.samplers
      → IsPrefix i.lending.ends collected.ends
      → LooksAtEnds send ring (transmission out give i.transmitter) (transmission out give transmitter) collected looked
      → LooksAtAll out give send ring s (record { transmitter = transmitter; lending = looked; lines = i.lines })
  looked-at-all {i} {s} transmitter {collected} {looked} is began samplers ends looks = record {
    back = looks.back;
    kept =
        subst (λ (e : EngineState S T E). IsPrefix (map (joined ring) e.lending.ends) (map (joined ring) looked.ends)) is
        (prefix-then _ _ _ (prefix-map (joined ring) _ _ ends) looks.kept);
    looked = subst (λ (e : EngineState S T E). Looked (transmission out give e.transmitter) (transmission out give transmitter)) is looks.looked;
    all = looks.all;
    began = looks.began ∙ began ∙ ap (λ (e : EngineState S T E). e.lending.began) is;
    samplers = looks.samplers ∙ samplers ∙ ap (λ (e : EngineState S T E). e.lending.samplers) is;
  }

  -- something is left, and is pumped
  pub drains-some : (s m t : EngineState S T E) {before after : DrainRoom} (result : Status)
      → PUMP_BYTES ≤ length before.frames.buffer → LooksAtAll out give send ring s m → KnowsSome (state_in out give send ring m)
      → after.left ≡ true → PumpsEngine out give m t before.frames after.frames result
      → DrainsEngine out give send ring s t before after result
  drains-some s m t {before} {after} result room looks knows left pump =
      inr (inr (m, room, looks, subst (λ b. DrainsOn out give send ring m t before.frames after.frames b result) (sym left) (knows, pump)))

  -- nothing is left
  pub drains-none : (s t : EngineState S T E) {before after : DrainRoom}
      → PUMP_BYTES ≤ length before.frames.buffer → LooksAtAll out give send ring s t → KnowsNone (state_in out give send ring t)
      → after.left ≡ false → after.frames ≡ nothing_in before.frames → DrainsEngine out give send ring s t before after status.Ok
  drains-none s t {before} {after} room looks knows left nothing =
      inr (inr (t, room, looks, subst (λ b. DrainsOn out give send ring t t before.frames after.frames b status.Ok) (sym left) (refl, knows, refl, nothing)))
