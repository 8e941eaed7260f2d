-- A sampler that was handed out, and what came of it.
use Rattle.std.proofs.Common.{◌≡◌, ℕ, Bool, List, [], ◌∷◌, ◌++◌, arith, le_refl, refl, sym, ap, ◌∙◌, subst}
use Rattle.std.specs.Prelude.{IfOk, OnErr, OnOk, Result, Ok, Err}
use Rattle.std.proofs.lemmas.List.{append_assoc, append-nil}
use Rattle.channel_ring.specs.declared.ends.SendEnd.{Ghosts as SendGhosts}
use Rattle.channel_ring.specs.declared.ends.RingEnd.{Ghosts as EndGhosts}
use Rattle.sampler.specs.History.{Event, Start, Stop, Trigger}
use Rattle.sampler.specs.Past.{Past, one_more}
use Rattle.sampler.specs.Standing.{GoesOn, StandsAfter, TakesTrigger, decisions_of}
use Rattle.sampler.specs.State.{SamplerEndState, SamplerState}
use Rattle.sampler.specs.Stays.{KeepsSetUp, OnlyLooked}
use Rattle.sampler.specs.declared.faults.StartFault.{StartFault}
use Rattle.sampler.specs.declared.faults.StopFault.{StopFault}
use Rattle.sampler.specs.declared.faults.TriggerFault.{TriggerFault}
use Rattle.sampler.specs.declared.taken.Taken.{Taken}
use Rattle.c_engine.specs.Samplers.{IsLeftOf}
use Rattle.c_engine.specs.Ways.{GoesOnFrom, IsEndOf, IsLaterOf}

-- a past goes on from itself, and on with one event more
pub goes-on-here : (past : Past) → GoesOnFrom past past
goes-on-here past = record {
  opening = refl;
  history = ([], append-nil past.history);
  decisions = ([], append-nil past.decisions);
}

goes-on-more : (past later : Past) (event : Event) (ds : List Bool) → GoesOnFrom past later → GoesOnFrom past (one_more later event ds)
goes-on-more past later event ds on = record {
  opening = on.opening;
  history = (on.history.0 ++ event ∷ [], sym (append_assoc past.history on.history.0 (event ∷ [])) ∙ ap (λ (h : List Event). h ++ event ∷ []) on.history.1);
  decisions = (on.decisions.0 ++ ds, sym (append_assoc past.decisions on.decisions.0 ds) ∙ ap (λ (d : List Bool). d ++ ds) on.decisions.1);
}

module _ {S E : Type 0} (send : SendGhosts S E) (ring : EndGhosts E) where
  -- a sampler as it is
  pub later-here : (s : SamplerState S) → IsLaterOf send ring s s
  later-here s = record {
    set_up = record { channel = refl; segments = refl; plans = refl; capacity = refl; held = le_refl (send.held s.end); ring = refl };
    stands = λ past st. (past, goes-on-here past, st);
  }

  keeps-more : (s t u : SamplerState S) → KeepsSetUp send s t → KeepsSetUp send t u → KeepsSetUp send s u
  keeps-more s t u a b = record {
    channel = b.channel ∙ a.channel;
    segments = b.segments ∙ a.segments;
    plans = b.plans ∙ a.plans;
    capacity = b.capacity ∙ a.capacity;
    held = omega (arith, a.held, b.held);
    ring = b.ring ∙ a.ring;
  }

  -- an event more
  later-by : (s t u : SamplerState S) (event : Event) (ds : Past → List Bool) → KeepsSetUp send t u
      → ((past : Past) → StandsAfter send ring t past → StandsAfter send ring u (one_more past event (ds past)))
      → IsLaterOf send ring s t → IsLaterOf send ring s u
  later-by s t u event ds keeps leads later = record {
    set_up = keeps-more s t u later.set_up keeps;
    stands = λ past st.
        let on = later.stands past st in
        (one_more on.0 event (ds on.0), goes-on-more past on.0 event (ds on.0) on.1, leads on.0 on.2);
  }

  later-same : (s t u : SamplerState S) → u ≡ t → IsLaterOf send ring s t → IsLaterOf send ring s u
  later-same s t u same later = subst (λ (v : SamplerState S). IsLaterOf send ring s v) (sym same) later

  later-looked : (s t u : SamplerState S) → OnlyLooked send ring t u → IsLaterOf send ring s t → IsLaterOf send ring s u
  later-looked s t u looked later = record {
    set_up = keeps-more s t u later.set_up (record {
      channel = ap (λ (v : SamplerState S). v.channel) looked.rest;
      segments = ap (λ (v : SamplerState S). v.segments) looked.rest;
      plans = ap (λ (v : SamplerState S). v.plans) looked.rest;
      capacity = looked.capacity;
      held = looked.held;
      ring = looked.ring;
    });
    stands = λ past st. let on = later.stands past st in (on.0, on.1, looked.stands on.0 on.2);
  }

  -- after each call it is still later
  pub later-trigger : (s t u : SamplerState S) (image : List ℕ) (stamp : ℕ) (result : Result Taken TriggerFault)
      → IfOk result (λ taken. (past : Past) → StandsAfter send ring t past → TakesTrigger send ring t u taken past image stamp)
      → OnErr result (u ≡ t) → KeepsSetUp send t u → IsLaterOf send ring s t → IsLaterOf send ring s u
  later-trigger s t u image stamp (Ok taken) takes same keeps later =
      later-by s t u (Trigger image stamp) (λ past. decisions_of taken past (Trigger image stamp)) keeps (λ past st. (takes past st).stands) later
  later-trigger s t u image stamp (Err fault) takes same keeps later = later-same s t u same later

  pub later-start : (s t u : SamplerState S) (l : ℕ) (result : Result (Unit {0}) StartFault)
      → OnOk result (GoesOn send ring t u (Start l)) → OnErr result (u ≡ t) → KeepsSetUp send t u → IsLaterOf send ring s t → IsLaterOf send ring s u
  later-start s t u l (Ok done) goes same keeps later = later-by s t u (Start l) (λ past. []) keeps goes later
  later-start s t u l (Err fault) goes same keeps later = later-same s t u same later

  pub later-stop : (s t u : SamplerState S) (l : ℕ) (result : Result (Unit {0}) StopFault)
      → OnOk result (GoesOn send ring t u (Stop l)) → OnErr result (OnlyLooked send ring t u) → KeepsSetUp send t u → IsLaterOf send ring s t → IsLaterOf send ring s u
  later-stop s t u l (Ok done) goes looked keeps later = later-by s t u (Stop l) (λ past. []) keeps goes later
  later-stop s t u l (Err fault) goes looked keeps later = later-looked s t u looked later

  -- what is left of it is left of the one that it was
  pub left-end : (s t : SamplerState S) (e : SamplerEndState E) → IsLaterOf send ring s t → IsLeftOf send ring t e → IsEndOf send ring s e
  left-end s t e later left = record {
    channel = left.channel ∙ later.set_up.channel;
    capacity = left.capacity ∙ later.set_up.capacity;
    same_ring = left.same_ring ∙ later.set_up.ring;
    stands = λ past st. let on = later.stands past st in (on.0, on.1, left.stands on.0 on.2);
  }
