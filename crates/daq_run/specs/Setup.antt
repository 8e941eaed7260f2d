-- The set-up: command packets are carried out and answered, one after another, each reply as a
-- frame.
use Rattle.std.specs.Prelude.{◌≡◌, ◌⊎◌, ◌<◌, ℕ, true, false, List, [], ◌∷◌, ◌++◌, length, Ok}
use Rattle.daq_store.specs.declared.command.Command.{Command}
use Rattle.daq_store.specs.declared.reply.Reply.{Reply}
use Rattle.daq_store.specs.Commands.{command}
use Rattle.daq_store.specs.Replies.{Allocates, calls_after_packet, calls_after_packets}
use Rattle.daq_store.specs.Replies.{packet_reply, replies}
use Rattle.daq_store.specs.Standing.{PassesAll, StoreStandsAfter, StoreState}
use Rattle.frame_writer.specs.Frame.{frame}
use Rattle.frame_writer.specs.Writing.{AfterText, FailsWithin, WriterState}

-- from store s to store t one packet was carried out, and this is the reply to it
abbrev pub AnswersPacket : StoreState → StoreState → List ℕ → Reply → Type 0
AnswersPacket s t packet reply =
    (calls : List Command) → StoreStandsAfter s calls
    → (reply ≡ packet_reply s.profile calls packet)
    × StoreStandsAfter t (calls_after_packet s.profile calls packet)

-- the packet is that of an allocation, and on this store every check of it passes
pub record NeedsMemory (s : StoreState) (packet : List ℕ) : Type 0 where
  -- fixed by `read`
  pub call : Command
  pub read : command packet ≡ Ok call
  pub allocates : Allocates call
  pub passes : PassesAll s call

-- what was sent are the replies of store s to the packets, one to each
pub record AreReplies (s : StoreState) (packets sent : List (List ℕ)) : Type 0 where
  pub one_each : length sent ≡ length packets
  pub each :
      (calls : List Command) → StoreStandsAfter s calls → sent ≡ replies s.profile calls packets

-- after all calls that store s stands after, store t stands after these calls and the packets
abbrev pub StandsAfterPackets : StoreState → StoreState → List (List ℕ) → Type 0
StandsAfterPackets s t packets =
    (calls : List Command) → StoreStandsAfter s calls
    → StoreStandsAfter t (calls_after_packets s.profile calls packets)

-- from store s and frame writer a to store t and frame writer b the packets were carried out, and
-- their replies sent. With any packet, the frame writer was open
pub record CarriesAll (s t : StoreState) (a b : WriterState) (packets : List (List ℕ))
    : Type 0 where
  pub stands : StandsAfterPackets s t packets
  -- fixed by `answered`
  pub sent : List (List ℕ)
  pub answered : AreReplies s packets sent
  pub text : AfterText a b sent
  pub was_open : 0 < length packets → a.closed ≡ false

-- the packets before one were carried out and answered. That one needs memory: it wasn't carried
-- out, and not answered
pub record WantsMemory (s t : StoreState) (a b : WriterState) (packets : List (List ℕ))
    : Type 0 where
  -- the packets before it, it, and those behind it: fixed by `split` and `needs`
  pub done : List (List ℕ)
  pub packet : List ℕ
  pub left : List (List ℕ)
  pub split : packets ≡ done ++ packet ∷ left
  pub carried : CarriesAll s t a b done
  pub needs : NeedsMemory t packet

-- no packet was answered before this one, since the frame writer was closed from the start; it
-- shows what it showed
pub record WasClosed (a b : WriterState) (done : List (List ℕ)) : Type 0 where
  pub first : done ≡ []
  pub closed : a.closed ≡ true
  pub same : b ≡ a

-- the replies to the packets before one were sent, and its own writer failed within the frame of
-- the reply to that one
pub record BreaksOffAt (s : StoreState) (a b : WriterState) (done : List (List ℕ)) (packet : List ℕ)
    : Type 0 where
  -- the replies, and the last of them: fixed by `answered`
  pub sent : List (List ℕ)
  pub reply : List ℕ
  pub answered : AreReplies s (done ++ packet ∷ []) (sent ++ reply ∷ [])
  -- what the frame writer was before the last reply: fixed by `text`
  pub middle : WriterState
  pub text : AfterText a middle sent
  pub torn : FailsWithin middle b (frame middle.counter reply)

-- the packets up to one were carried out, that one too, and none after it. Its reply wasn't written
pub record LosesReply (s t : StoreState) (a b : WriterState) (packets : List (List ℕ))
    : Type 0 where
  -- the packets before it, it, and those behind it: fixed by `split` and `cause`
  pub done : List (List ℕ)
  pub packet : List ℕ
  pub left : List (List ℕ)
  pub split : packets ≡ done ++ packet ∷ left
  pub stands : StandsAfterPackets s t (done ++ packet ∷ [])
  pub cause : WasClosed a b done ⊎ BreaksOffAt s a b done packet
