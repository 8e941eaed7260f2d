-- An outcome is one alone, and what only looked at the ring stands after what it stood after.
use Rattle.std.proofs.Common.{◌≡◌, ◌≤◌, refl, sym, ◌∙◌, subst, arith}
use Rattle.std.specs.Prelude.{Option, None, Some, Ok, Err}
use Rattle.channel_ring.specs.declared.ends.RingEnd.{Ghosts as EndGhosts}
use Rattle.channel_ring.specs.declared.ends.SendEnd.{Ghosts as SendGhosts}
use Rattle.sampler.specs.Standing.{DropsOnlyWhenFull}
use Rattle.sampler.specs.State.{SamplerState}
use Rattle.sampler.specs.Stays.{OnlyLooked}

-- what is there isn't missing
pub not_missing : {X : Type 0} (o : Option X) (x : X) → o ≡ Some x → o ≡ None → ⊥
not_missing o x there missing = cc

-- what succeeds isn't refused
pub not_refused : {X E : Type 0} (x : X) (e : E) → Ok x ≡ Err e → ⊥
not_refused x e h = cc

-- nothing changed
pub looked-unchanged : {S E : Type 0} (send : SendGhosts S E) (ring : EndGhosts E) (s : SamplerState S) → OnlyLooked send ring s s
looked-unchanged send ring s =
    record { rest = refl; sent = refl; free = omega arith; capacity = refl; held = omega arith; ring = refl; stands = λ past stands. stands }

-- nothing but the end changed, through which nothing more was sent
pub looked-end : {S E : Type 0} (send : SendGhosts S E) (ring : EndGhosts E) (s : SamplerState S) (end : S) → send.sent end ≡ send.sent s.end → send.free s.end ≤ send.free end
    → send.capacity end ≡ send.capacity s.end → send.held end ≤ send.held s.end → send.ring end ≡ send.ring s.end → OnlyLooked send ring s (record s { end = end })
looked-end send ring s end sent free capacity held same = record {
  rest = refl;
  sent = sent;
  free = free;
  capacity = capacity;
  held = held;
  ring = same;
  stands = λ past h. record {
    channel = h.channel;
    plans = h.plans;
    decisions = h.decisions;
    sent = sent ∙ h.sent;
    tracks = h.tracks;
    triggers = h.triggers;
    accepted = h.accepted;
    drops = subst (λ n. DropsOnlyWhenFull n ring.cost past) (sym capacity) h.drops;
  };
}
