-- What the calls of a sampler's handle answer and what they leave, by their status.
use Rattle.std.specs.Prelude.{◌≡◌, ◌≢◌, ℕ, List, length, map, true, Option, Some, None, Result}
use Rattle.std.specs.Prelude.{Ok, Err}
use Rattle.xcp_base.specs.declared.limits.TheConstants.{MAX_TRIGGERS}
use Rattle.channel_ring.specs.declared.ends.SendEnd.{Ghosts as SendGhosts}
use Rattle.channel_ring.specs.declared.ends.RingEnd.{Ghosts as EndGhosts}
use Rattle.sampler.specs.History.{Start, Stop}
use Rattle.sampler.specs.Items.{marker_of}
use Rattle.sampler.specs.Past.{Past}
use Rattle.sampler.specs.Standing.{EndStandsAfter, GoesOn, StandsAfter, TakesTrigger}
use Rattle.sampler.specs.State.{SamplerEndState, SamplerState, joined, runs_in, stopped_in}
use Rattle.sampler.specs.State.{track_at}
use Rattle.sampler.specs.Stays.{HasNoRoomFor, KeepsSetUp, OnlyLooked}
use Rattle.sampler.specs.Tracks.{counts_after}
use Rattle.sampler.specs.declared.counts.ListCounts.{ListCounts}
use Rattle.sampler.specs.declared.taken.Taken.{Taken}
use Rattle.sampler.specs.declared.track.Track.{Track}
use Rattle.segments.specs.Image.{image_len}
use Rattle.c_engine.specs.States.{ByteSampler, Bytes, ItemSampler, Items}
use Rattle.c_engine.specs.declared.content.Content.{Content}
use Rattle.c_engine.specs.declared.content.Content.TheVariants.{Sampler as OfItems}
use Rattle.c_engine.specs.declared.content.Content.TheVariants.{ByteSampler as OfBytes}
use Rattle.c_engine.specs.declared.counts_out.CountsOut.{CountsOut}
use Rattle.c_engine.specs.declared.given_back.GivenBack.{GivenBack}
use Rattle.c_engine.specs.declared.given_back.GivenBack.TheVariants as given
use Rattle.c_engine.specs.declared.taken_out.TakenOut.{TakenOut}
use Rattle.c_engine.specs.declared.status.Status.{Status}
use Rattle.c_engine.specs.declared.status.Status.TheVariants as status

-- what goes out of what a trigger did, and of a list's counts
abbrev pub taken_out : Taken → TakenOut
taken_out taken =
    record { due = taken.due; accepted = taken.accepted; dropped = taken.dropped }

abbrev pub counts_out : ListCounts → CountsOut
counts_out counts =
    record { due = counts.due; accepted = counts.accepted; dropped = counts.dropped }

module _ {S E : Type 0} (send : SendGhosts S E) (ring : EndGhosts E) where
  -- what a sampler does at a trigger
  abbrev pub TriggersSampler
      : SamplerState S → SamplerState S → List ℕ → ℕ → TakenOut → TakenOut → Status
      → Type 0
  TriggersSampler s t image stamp before after status.Ok =
      (length image ≡ image_len s.segments) × KeepsSetUp send s t
      × ((taken : Taken) × (after ≡ taken_out taken)
      × ((past : Past) → StandsAfter send ring s past
      → TakesTrigger send ring s t taken past image stamp))
  TriggersSampler s t image stamp before after status.WrongImage =
      (length image ≢ image_len s.segments) × (t ≡ s) × (after ≡ before)
  TriggersSampler s t image stamp before after status.Spent =
      (length image ≡ image_len s.segments) × (s.triggers ≡ MAX_TRIGGERS) × (t ≡ s)
      × (after ≡ before)
  TriggersSampler s t image stamp before after _ = ⊥

  -- what a sampler does where a list is to be started
  abbrev pub StartsList : SamplerState S → SamplerState S → ℕ → Status → Type 0
  StartsList s t l status.Ok = GoesOn send ring s t (Start l) × KeepsSetUp send s t
  StartsList s t l status.NotOfChannel = (track_at s l ≡ None) × (t ≡ s)
  StartsList s t l status.Running = (runs_in s l ≡ true) × (t ≡ s)
  StartsList s t l _ = ⊥

  -- what a sampler does where a list is to be stopped
  abbrev pub StopsList : SamplerState S → SamplerState S → ℕ → Status → Type 0
  StopsList s t l status.Ok = GoesOn send ring s t (Stop l) × KeepsSetUp send s t
  StopsList s t l status.NotOfChannel = (track_at s l ≡ None) × (t ≡ s)
  StopsList s t l status.NotRunning = (stopped_in s l ≡ true) × (t ≡ s)
  StopsList s t l status.NoRoom =
      HasNoRoomFor send ring s.end (marker_of s.channel l) × OnlyLooked send ring s t
  StopsList s t l _ = ⊥

  -- a list's counts: those of the past
  pub record AreCounts (s : SamplerState S) (l : ℕ) (out : CountsOut) : Type 0 where
    pub counts : ListCounts
    pub value : out ≡ counts_out counts
    pub after :
        (past : Past) → StandsAfter send ring s past → Some counts ≡ counts_after past l

  -- what a sampler tells of a list
  abbrev pub CountsList : SamplerState S → ℕ → CountsOut → CountsOut → Status → Type 0
  CountsList s l before after status.Ok = AreCounts s l after
  CountsList s l before after status.NotOfChannel = (track_at s l ≡ None) × (after ≡ before)
  CountsList s l before after _ = ⊥

  -- what is left of a sampler: its lists with their counts, and all that it sent
  pub record IsLeftOf (s : SamplerState S) (e : SamplerEndState E) : Type 0 where
    pub channel : e.channel ≡ s.channel
    pub plans : e.plans ≡ s.plans
    pub counts : e.counts ≡ map (λ (track : Track). track.counts) s.tracks
    pub capacity : e.capacity ≡ send.capacity s.end
    pub sent : ring.all_sent e.end ≡ send.sent s.end
    pub same_ring : ring.ring e.end ≡ send.ring s.end
    pub stands :
        (past : Past) → StandsAfter send ring s past → EndStandsAfter (joined ring e) past

-- what a call does to the handle of a sampler: a sampler of its kind stays in it, of which this
-- holds. Where there is none it answers so, and leaves it, as what is said there
abbrev pub OnSampler
    : Option Content → Option Content → Status → Type 0
    → (ItemSampler → ItemSampler → Type 0) → (ByteSampler → ByteSampler → Type 0) → Type 0
OnSampler (Some (OfItems s)) new result stays items bytes =
    (t : ItemSampler) × (new ≡ Some (OfItems t)) × items s t
OnSampler (Some (OfBytes s)) new result stays items bytes =
    (t : ByteSampler) × (new ≡ Some (OfBytes t)) × bytes s t
OnSampler old new result stays items bytes = (result ≡ status.Empty) × (new ≡ old) × stays

-- what a finish is to C
abbrev pub status_of_finish : Result GivenBack Status → Status
status_of_finish (Ok given) = status.Ok
status_of_finish (Err status) = status

-- a sampler is held
abbrev pub IsSampler : Content → Type 0
IsSampler (OfItems s) = Unit {0}
IsSampler (OfBytes s) = Unit {0}
IsSampler _ = ⊥

module _ (items : Items) (bytes : Bytes) where
  -- what ng_trigger does to a handle
  abbrev pub Triggers
      : Option Content → Option Content → List ℕ → ℕ → TakenOut → TakenOut → Status → Type 0
  Triggers old new image stamp before after result =
      OnSampler old new result (after ≡ before)
      (λ s t. TriggersSampler items.send items.ring s t image stamp before after result)
      (λ s t. TriggersSampler bytes.send bytes.ring s t image stamp before after result)

  -- what ng_start does to a handle
  abbrev pub Starts : Option Content → Option Content → ℕ → Status → Type 0
  Starts old new l result =
      OnSampler old new result (Unit {0})
      (λ s t. StartsList items.send items.ring s t l result)
      (λ s t. StartsList bytes.send bytes.ring s t l result)

  -- what ng_stop does to a handle
  abbrev pub Stops : Option Content → Option Content → ℕ → Status → Type 0
  Stops old new l result =
      OnSampler old new result (Unit {0})
      (λ s t. StopsList items.send items.ring s t l result)
      (λ s t. StopsList bytes.send bytes.ring s t l result)

  -- what ng_counts_of does to a handle
  abbrev pub Counts
      : Option Content → Option Content → ℕ → CountsOut → CountsOut → Status → Type 0
  Counts old new l before after result =
      OnSampler old new result (after ≡ before)
      (λ s t. (t ≡ s) × CountsList items.send items.ring s l before after result)
      (λ s t. (t ≡ s) × CountsList bytes.send bytes.ring s l before after result)

  -- the sampler of a handle was finished, and what is left of it was given back, or its engine is
  -- gone; the handle is empty then
  abbrev pub FinishesBy
      : Option Content → Option Content → Result GivenBack Status → Type 0
  FinishesBy (Some (OfItems s)) new (Ok (given.Items g)) =
      (new ≡ None) × IsLeftOf items.send items.ring s g.left
  FinishesBy (Some (OfBytes s)) new (Ok (given.Bytes g)) =
      (new ≡ None) × IsLeftOf bytes.send bytes.ring s g.left
  FinishesBy (Some (OfItems s)) new (Err refusal) =
      (new ≡ None) × (refusal ≡ status.NoEngine)
  FinishesBy (Some (OfBytes s)) new (Err refusal) =
      (new ≡ None) × (refusal ≡ status.NoEngine)
  FinishesBy (Some (OfItems s)) new result = ⊥
  FinishesBy (Some (OfBytes s)) new result = ⊥
  FinishesBy old new result = (result ≡ Err status.Empty) × (new ≡ old)

  -- what ng_finish does to a handle
  abbrev pub Finishes : Option Content → Option Content → Status → Type 0
  Finishes old new result =
      (finish : Result GivenBack Status) × (result ≡ status_of_finish finish)
      × FinishesBy old new finish
