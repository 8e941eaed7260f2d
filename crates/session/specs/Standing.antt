-- What a session shows, and when it stands after a past.
use Rattle.std.specs.Prelude.{◌≡◌, ℕ, Bool, true, List, [], Option, None, Result, drop}
use Rattle.std.specs.Prelude.{option_map, slice_get, unwrap_or}
use Rattle.std.specs.Borrow.{Bor}
use Rattle.segments.specs.Memory.{parts}
use Rattle.xcp_base.specs.declared.err_code.ErrCode.{ErrCode}
use Rattle.daq_store.specs.declared.command.Command.{Command}
use Rattle.daq_store.specs.declared.reply.Reply.{Reply}
use Rattle.daq_store.specs.Answer.{answer, calls_after, fault_of}
use Rattle.daq_store.specs.Replies.{Allocates, reply_bytes}
use Rattle.daq_store.specs.Standing.{StoreStandsAfter, StoreState}
use Rattle.session.specs.declared.profile.Profile.{Profile}
use Rattle.session.specs.declared.request.Request.{Request}
use Rattle.session.specs.declared.request.Request.TheVariants.{Lists}
use Rattle.session.specs.Past.{Given, Memory, Nothing, Past, Source, Text, none_given}
use Rattle.session.specs.declared.event_channel.EventChannel.{EventChannel}
use Rattle.session.specs.declared.source.Source.{Source as HeldSource}
use Rattle.session.specs.declared.source.Source.TheVariants as held
use Rattle.session.specs.declared.source.TextOf.{TextOf}
use Rattle.session.specs.declared.source.TextOf.TheVariants as of_text
use Rattle.session.specs.Profiles.{IsProfile, lists_of}
use Rattle.session.specs.Exchanges.{Exchange, MayBeOut, calls_after_writes}
use Rattle.session.specs.Exchanges.{greeting_reply, master_reply, past_after}
use Rattle.session.specs.Exchanges.{past_after_greeting, past_after_packet, past_behind}
use Rattle.session.specs.Exchanges.{reply_in, request_reply, writes_reply}

-- what a session shows
pub record SessionState : Type 0 where
  pub profile : Profile
  pub connected : Bool
  pub source : Source
  pub store : StoreState

-- a text of a profile
abbrev pub text_in : Profile → TextOf → List ℕ
text_in d (of_text.Event c) =
    unwrap_or (option_map (λ (e : EventChannel). e.name.items) (slice_get d.events.items c)) []
text_in d of_text.A2lName = d.a2l_name.items
text_in d of_text.A2l = d.a2l.items
text_in d of_text.Epk = d.epk.items

-- what UPLOAD reads, as it is held: of a text, how much of it was read
abbrev pub source_held : Profile → HeldSource → Source
source_held d held.Nothing = Nothing
source_held d (held.Text text read) = Text (drop read (text_in d text))
source_held d (held.Memory extension address) = Memory extension address

-- the session shows what the past says
pub record SessionStandsAfter (s : SessionState) (past : Past) : Type 0 where
  pub connected : s.connected ≡ past.connected
  pub source : s.source ≡ past.source
  pub store : StoreStandsAfter s.store past.calls

-- what every session keeps to
pub record IsSession (s : SessionState) : Type 0 where
  pub within : IsProfile s.profile
  pub lists : s.store.profile ≡ lists_of s.profile

-- what was handed in: a clock, and slices of memory
abbrev pub given_by : ℕ → List (Bor (List ℕ)) → Given
given_by clock memory = record { clock = clock; memory = parts memory }

-- after each past that the old session stands after, this is the reply to the request, and the new
-- session stands after what it leaves
abbrev pub AnswersRequest
    : SessionState → SessionState → Given → List ℕ → Request → List ℕ → Type 0
AnswersRequest old new given packet asked bytes =
    (past : Past) → SessionStandsAfter old past
    → (bytes ≡ request_reply old.profile past given packet asked)
    × SessionStandsAfter new (past_after old.profile past given packet asked)

-- the same of one write
abbrev pub WritesOne : SessionState → SessionState → Command → Reply → Type 0
WritesOne old new call reply =
    (past : Past) → SessionStandsAfter old past
    → (reply ≡ answer (lists_of old.profile) past.calls call)
    × SessionStandsAfter new
    (record past { calls = calls_after (lists_of old.profile) past.calls call })

-- the same of these writes
abbrev pub WritesAll : SessionState → SessionState → List Command → List ℕ → Type 0
WritesAll old new calls bytes =
    (past : Past) → SessionStandsAfter old past
    → (bytes ≡ reply_bytes (writes_reply (lists_of old.profile) past.calls calls))
    × SessionStandsAfter new
    (record past { calls = calls_after_writes (lists_of old.profile) past.calls calls })

-- the same of a request that only looks
abbrev pub Looks : SessionState → Request → List ℕ → Type 0
Looks s asked bytes =
    (past : Past) → SessionStandsAfter s past
    → bytes ≡ request_reply s.profile past none_given [] asked

-- the same of what was read where no master is connected
abbrev pub Greets : SessionState → SessionState → Result Request ErrCode → Option (List ℕ) → Type 0
Greets old new read reply =
    (past : Past) → SessionStandsAfter old past
    → (reply ≡ greeting_reply old.profile read)
    × SessionStandsAfter new (past_after_greeting past read)

-- the same of a packet
abbrev pub AnswersMaster
    : SessionState → SessionState → Given → List ℕ → Option (List ℕ) → Type 0
AnswersMaster old new given packet reply =
    (past : Past) → SessionStandsAfter old past
    → (reply ≡ master_reply old.profile past given packet)
    × SessionStandsAfter new (past_after_packet old.profile past given packet)

-- there may be no memory for the request: it is an allocation, and after each past that the session
-- stands after, every check of it passes
abbrev pub MayRunOut : SessionState → Request → Type 0
MayRunOut s asked =
    (call : Command) × (asked ≡ Lists call) × Allocates call
    × ((past : Past) → SessionStandsAfter s past
    → fault_of (lists_of s.profile) past.calls call ≡ None)

-- after each past that the session stands after, there may be no memory for the packet
abbrev pub PacketMayRunOut : SessionState → List ℕ → Type 0
PacketMayRunOut s packet =
    (past : Past) → SessionStandsAfter s past → MayBeOut s.profile past packet

-- one exchange: it runs out of memory only where it may, and after each past that the old session
-- stands after, this is the reply, and the new session stands after what the exchange leaves
abbrev pub IsExchange : SessionState → SessionState → Exchange → Option (List ℕ) → Type 0
IsExchange old new x reply =
    (past : Past) → SessionStandsAfter old past
    → (reply ≡ reply_in old.profile past x)
    × SessionStandsAfter new (past_behind old.profile past x)

pub record Exchanges
    (old new : SessionState) (packet : List ℕ) (given : Given) (reply : Option (List ℕ))
    : Type 0 where
  pub out_of_memory : Bool
  pub only_where : out_of_memory ≡ true → PacketMayRunOut old packet
  pub answers :
      IsExchange old new
      (record { packet = packet; given = given; out_of_memory = out_of_memory }) reply
