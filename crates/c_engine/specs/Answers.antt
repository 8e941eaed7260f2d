-- What the calls of the C library answer and what they leave, by their status.
use Rattle.std.specs.Prelude.{◌≡◌, ℕ, ◌<◌, ◌≤◌, List, [], ◌++◌, length, drop, IsSome}
use Rattle.std.specs.Prelude.{Option, Some, None, Ok, true}
use Rattle.xcp_base.specs.declared.limits.TheConstants.{RUN_CHANNELS, MAX_IMAGE_LEN}
use Rattle.xcp_base.specs.Forms.{size_of}
use Rattle.daq_store.specs.declared.command.Command.{Command}
use Rattle.daq_store.specs.declared.reply.Reply.{Reply}
use Rattle.daq_store.specs.Commands.{command}
use Rattle.daq_store.specs.Limited.{is_by_value}
use Rattle.daq_store.specs.Replies.{Allocates, KeepsOnError, calls_after_packet, packet_reply}
use Rattle.daq_store.specs.Replies.{reply_bytes}
use Rattle.daq_store.specs.Standing.{PassesAll, StoreStandsAfter, StoreState}
use Rattle.c_engine.specs.declared.store_numbers.StoreNumbers.{StoreNumbers}
use Rattle.c_engine.specs.declared.carrying.TheConstants.{REPLY_BYTES}
use Rattle.c_engine.specs.declared.content.Content.{Content}
use Rattle.c_engine.specs.declared.content.Content.TheVariants.{Store}
use Rattle.c_engine.specs.declared.status.Status.{Status}
use Rattle.c_engine.specs.declared.status.Status.TheVariants as status
use Rattle.segments.specs.Image.{image_segments}
use Rattle.c_engine.specs.Kinds.{kind_of}

-- the numbers that a store is asked for by are within their limits: there are three identification
-- fields, and timestamps of three sizes
abbrev pub AreLimits : StoreNumbers → Type 0
AreLimits asked =
    (1 ≤ asked.channels) × (asked.channels ≤ RUN_CHANNELS)
    × (1 ≤ asked.image_len) × (asked.image_len ≤ MAX_IMAGE_LEN)
    × IsSome (kind_of asked.id) × IsSome (size_of asked.stamp_size)

-- a store has the profile that it was asked for, and its samples find room in a value of fixed size
pub record HasAsked (s : StoreState) (asked : StoreNumbers) : Type 0 where
  pub channels : s.profile.channels ≡ asked.channels
  pub segments : s.profile.segments ≡ image_segments asked.image_len
  pub id : kind_of asked.id ≡ Some s.profile.form.id
  pub stamp : size_of asked.stamp_size ≡ Some s.profile.form.stamp
  pub by_value : is_by_value s.profile ≡ true

-- a store was made as it was asked for, and stands after no call
pub record HoldsFresh (held : Option Content) (asked : StoreNumbers) : Type 0 where
  pub made : StoreState
  pub there : held ≡ Some (Store made)
  pub profile : HasAsked made asked
  pub fresh : StoreStandsAfter made []

-- a handle is empty or holds something else
abbrev pub HoldsNoStore : Option Content → Type 0
HoldsNoStore (Some (Store s)) = ⊥
HoldsNoStore _ = Unit {0}

-- what ng_store_new does to a handle that holds a store or none
abbrev pub MakesStore : Option Content → Option Content → StoreNumbers → Status → Type 0
MakesStore old new asked status.Ok = (old ≡ None) × AreLimits asked × HoldsFresh new asked
MakesStore old new asked status.InUse = IsSome old × (new ≡ old)
MakesStore old new asked status.BadLimits = (old ≡ None) × (AreLimits asked → ⊥) × (new ≡ old)
MakesStore old new asked status.Memory = (old ≡ None) × AreLimits asked × (new ≡ old)
MakesStore old new asked _ = ⊥

-- what the calls that free do to a handle
abbrev pub Frees : Option Content → Option Content → Status → Type 0
Frees old new status.Ok = IsSome old × (new ≡ None)
Frees old new status.Empty = (old ≡ None) × (new ≡ None)
Frees old new _ = ⊥

-- the buffer of a reply, and the length of the reply in it, in bytes
pub record ReplyRoom : Type 0 where
  pub buffer : List ℕ
  pub len : ℕ

-- from store s to store t one packet was carried out, and this is the reply to it. An ERR packet
-- leaves the store as it was
pub record RepliesTo (s t : StoreState) (packet : List ℕ) (reply : Reply) : Type 0 where
  pub answer :
      (calls : List Command) → StoreStandsAfter s calls
      → (reply ≡ packet_reply s.profile calls packet)
      × StoreStandsAfter t (calls_after_packet s.profile calls packet)
  pub refused : KeepsOnError s t reply
  pub profile_stays : t.profile ≡ s.profile

-- the packet is that of an allocation, and on this store every check of it passes
pub record WantsRoom (s : StoreState) (packet : List ℕ) : Type 0 where
  pub call : Command
  pub read : command packet ≡ Ok call
  pub allocates : Allocates call
  pub passes : PassesAll s call

-- the reply stands in front of what was in the buffer, and its length is told
abbrev pub HasReply : Reply → ReplyRoom → ReplyRoom → Type 0
HasReply reply before after =
    (after.len ≡ length (reply_bytes reply))
    × (after.buffer ≡ reply_bytes reply ++ drop (length (reply_bytes reply)) before.buffer)

-- what a store does with a packet
abbrev pub AnswersCommand
    : StoreState → StoreState → List ℕ → ReplyRoom → ReplyRoom → Status → Type 0
AnswersCommand s t packet before after status.Ok =
    (REPLY_BYTES ≤ length before.buffer)
    × ((reply : Reply) × RepliesTo s t packet reply × HasReply reply before after)
AnswersCommand s t packet before after status.SmallBuffer =
    (length before.buffer < REPLY_BYTES) × (t ≡ s) × (after ≡ before)
AnswersCommand s t packet before after status.Memory =
    (REPLY_BYTES ≤ length before.buffer) × WantsRoom s packet × (t ≡ s) × (after ≡ before)
AnswersCommand s t packet before after _ = ⊥

-- a handle holds a store before and after, and the store answers a packet
pub record HoldsAndAnswers
    (old new : Option Content) (packet : List ℕ) (before after : ReplyRoom) (result : Status)
    : Type 0 where
  pub store : StoreState
  pub next : StoreState
  pub held : old ≡ Some (Store store)
  pub holds : new ≡ Some (Store next)
  pub answers : AnswersCommand store next packet before after result

-- what ng_store_command does to a handle that holds a store or none
abbrev pub CarriesCommand
    : Option Content → Option Content → List ℕ → ReplyRoom → ReplyRoom → Status → Type 0
CarriesCommand old new packet before after status.Empty =
    HoldsNoStore old × (new ≡ old) × (after ≡ before)
CarriesCommand old new packet before after result =
    HoldsAndAnswers old new packet before after result
