-- What is replied to commands and to command packets, and what they leave (ASAM MCD-1 XCP, protocol
-- layer, RES and ERR packets).
use Rattle.std.specs.Prelude.{◌≡◌, ℕ, List, [], ◌∷◌, Result, Ok, Err}
use Rattle.xcp_base.specs.declared.err_code.ErrCode.{ErrCode}
use Rattle.xcp_base.specs.ErrorCodes.{error_byte}
use Rattle.daq_store.specs.declared.command.Command.{Command}
use Rattle.daq_store.specs.declared.command.Command.TheVariants.{AllocDaq, AllocOdt, AllocOdtEntry}
use Rattle.daq_store.specs.declared.reply.Reply.{Reply}
use Rattle.daq_store.specs.declared.reply.Reply.TheVariants.{Positive, Started, Read, Error}
use Rattle.daq_store.specs.Calls.{Profile}
use Rattle.daq_store.specs.Answer.{answer, calls_after}
use Rattle.daq_store.specs.Standing.{StoreStandsAfter, StoreState}
use Rattle.daq_store.specs.Commands.{command, dword_bytes}

-- the bytes of a reply: RES is FF, to START_STOP_DAQ_LIST with FIRST_PID behind it, to READ_DAQ
-- with bit offset FF, size, address extension and address; ERR is FE and the byte of the error
abbrev pub reply_bytes : Reply → List ℕ
reply_bytes Positive = 0xFF ∷ []
reply_bytes (Started first_pid) = 0xFF ∷ first_pid ∷ []
reply_bytes (Read size ext addr) = 0xFF ∷ 0xFF ∷ size ∷ ext ∷ dword_bytes addr
reply_bytes (Error code) = 0xFE ∷ error_byte code ∷ []

-- any reply but that to READ_DAQ
abbrev pub ShowsNoEntry : Reply → Type 0
ShowsNoEntry (Read size ext addr) = ⊥
ShowsNoEntry _ = Unit {0}

-- one of the three commands that take memory
abbrev pub Allocates : Command → Type 0
Allocates (AllocDaq count) = Unit {0}
Allocates (AllocOdt list count) = Unit {0}
Allocates (AllocOdtEntry list odt count) = Unit {0}
Allocates _ = ⊥

-- after all calls that the old store stands after, this reply is the answer to the call, and the
-- new store stands after these calls and, if it was accepted, the call
abbrev pub CarriesOut : StoreState → StoreState → Command → Reply → Type 0
CarriesOut old new call reply =
    (calls : List Command) → StoreStandsAfter old calls
    → (reply ≡ answer old.profile calls call)
    × StoreStandsAfter new (calls_after old.profile calls call)

-- where the reply is an error, nothing changed
abbrev pub KeepsOnError : StoreState → StoreState → Reply → Type 0
KeepsOnError old new (Error code) = new ≡ old
KeepsOnError old new _ = Unit {0}

-- the reply to what was read from a packet: an error is answered by itself
abbrev pub reply_to : Profile → List Command → Result Command ErrCode → Reply
reply_to profile calls (Ok call) = answer profile calls call
reply_to profile calls (Err code) = Error code

-- the reply to a packet
abbrev pub packet_reply : Profile → List Command → List ℕ → Reply
packet_reply profile calls packet = reply_to profile calls (command packet)

-- the calls that stand after what was read: an error adds none
abbrev pub calls_after_read : Profile → List Command → Result Command ErrCode → List Command
calls_after_read profile calls (Ok call) = calls_after profile calls call
calls_after_read profile calls (Err code) = calls

-- the calls that stand after a packet
abbrev pub calls_after_packet : Profile → List Command → List ℕ → List Command
calls_after_packet profile calls packet = calls_after_read profile calls (command packet)

-- the bytes of the replies to packets, one after another
abbrev pub replies : Profile → List Command → List (List ℕ) → List (List ℕ)
replies profile calls [] = []
replies profile calls (packet ∷ more) =
    reply_bytes (packet_reply profile calls packet)
    ∷ replies profile (calls_after_packet profile calls packet) more

-- the calls that stand after packets, one after another
abbrev pub calls_after_packets : Profile → List Command → List (List ℕ) → List Command
calls_after_packets profile calls [] = calls
calls_after_packets profile calls (packet ∷ more) =
    calls_after_packets profile (calls_after_packet profile calls packet) more
