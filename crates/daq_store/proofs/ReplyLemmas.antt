-- What the store's calls answer, as replies.
use Rattle.std.proofs.Common.{◌≡◌, ℕ, Bool, true, false, if◌then◌else◌, List, [], ◌∷◌, ◌++◌, Option, Some, None, refl, sym, ap, subst}
use Rattle.std.specs.Prelude.{is_some}
use Rattle.xcp_base.specs.declared.err_code.ErrCode.{ErrCode}
use Rattle.daq_store.specs.declared.command.Command.{Command}
use Rattle.daq_store.specs.declared.command.Command.TheVariants.{FreeDaq, AllocDaq, AllocOdt, AllocOdtEntry, SetDaqPtr, WriteDaq, SetDaqListMode, StartStopDaqList, StartStopSynch, ClearDaqList, ReadDaq}
use Rattle.daq_store.specs.declared.entry.Entry.{Entry}
use Rattle.daq_store.specs.declared.refusal.Refusal.TheVariants.{Code}
use Rattle.daq_store.specs.declared.reply.Reply.{Reply}
use Rattle.daq_store.specs.declared.reply.Reply.TheVariants.{Error}
use Rattle.daq_store.specs.Calls.{Profile, and_then}
use Rattle.daq_store.specs.Answer.{accepted_reply, answer, fault_of, read_reply, reply_by}
use Rattle.daq_store.specs.Entries.{pointed}
use Rattle.daq_store.specs.Standing.{Refuses, StoreStandsAfter, StoreState}
use Rattle.daq_store.specs.Inner.Accepted.{IsAccepted, IsPositive}
use Rattle.daq_store.specs.Replies.{CarriesOut, calls_after_packet, calls_after_packets, packet_reply, replies, reply_bytes}

-- a reply that is no error comes from no fault
no_fault : (accepted reply : Reply) (fault : Option ErrCode) → reply_by accepted fault ≡ reply → IsPositive reply → is_some fault ≡ false
no_fault accepted reply None is positive = refl
no_fault accepted reply (Some code) is positive = absurd (subst IsPositive (sym is) positive)

-- an error comes from a fault, since the reply to an accepted call is none
some_fault : (accepted : Reply) (code : ErrCode) (fault : Option ErrCode) → IsPositive accepted → reply_by accepted fault ≡ Error code → is_some fault ≡ true
some_fault accepted code None positive is = absurd (subst IsPositive is positive)
some_fault accepted code (Some other) positive is = refl

read_is_positive : (entry : Option Entry) → IsPositive (read_reply entry)
read_is_positive None = tt
read_is_positive (Some x) = tt

accepted_is_positive : (p : Profile) (calls : List Command) (call : Command) → IsPositive (accepted_reply p calls call)
accepted_is_positive p calls FreeDaq = tt
accepted_is_positive p calls (AllocDaq count) = tt
accepted_is_positive p calls (AllocOdt list count) = tt
accepted_is_positive p calls (AllocOdtEntry list odt count) = tt
accepted_is_positive p calls (SetDaqPtr list odt entry) = tt
accepted_is_positive p calls (WriteDaq bit size ext addr) = tt
accepted_is_positive p calls (SetDaqListMode mode list channel prescaler priority) = tt
accepted_is_positive p calls (StartStopDaqList mode list) = tt
accepted_is_positive p calls (StartStopSynch mode) = tt
accepted_is_positive p calls (ClearDaqList list) = tt
accepted_is_positive p calls ReadDaq = read_is_positive (pointed calls)

-- an accepted call is carried out
pub accepted_is_carried : (old new : StoreState) (call : Command) (reply : Reply) → IsAccepted old new call reply → CarriesOut old new call reply
accepted_is_carried old new call reply accepted = λ calls stands.
    let both = accepted.1 calls stands in
    let none : is_some (fault_of old.profile calls call) ≡ false =
    no_fault (accepted_reply old.profile calls call) reply (fault_of old.profile calls call) both.0 accepted.0 in
    let P : Bool → Type 0 = λ b. StoreStandsAfter new (if b then calls else and_then calls call) in
    (sym both.0, subst P (sym none) both.1)

-- and so is a refused one, which changes nothing
pub refused_is_carried : (old new : StoreState) (call : Command) (code : ErrCode) → Refuses old call (Code code) → new ≡ old → CarriesOut old new call (Error code)
refused_is_carried old new call code refused same = λ calls stands.
    let answered : answer old.profile calls call ≡ Error code = refused calls stands in
    let some : is_some (fault_of old.profile calls call) ≡ true =
    some_fault (accepted_reply old.profile calls call) code (fault_of old.profile calls call) (accepted_is_positive old.profile calls call) answered in
    let P : Bool → Type 0 = λ b. StoreStandsAfter new (if b then calls else and_then calls call) in
    let Q : StoreState → Type 0 = λ s. StoreStandsAfter s calls in
    (sym answered, subst P (sym some) (subst Q (sym same) stands))

-- one packet more
pub calls_after_packets-push : (profile : Profile) (calls : List Command) (packets : List (List ℕ)) (packet : List ℕ)
    → calls_after_packets profile calls (packets ++ packet ∷ []) ≡ calls_after_packet profile (calls_after_packets profile calls packets) packet
calls_after_packets-push profile calls [] packet = refl
calls_after_packets-push profile calls (p ∷ ps) packet = calls_after_packets-push profile (calls_after_packet profile calls p) ps packet

pub replies-push : (profile : Profile) (calls : List Command) (packets : List (List ℕ)) (packet : List ℕ)
    → replies profile calls (packets ++ packet ∷ [])
    ≡ replies profile calls packets ++ reply_bytes (packet_reply profile (calls_after_packets profile calls packets) packet) ∷ []
replies-push profile calls [] packet = refl
replies-push profile calls (p ∷ ps) packet =
    ap (λ rs. reply_bytes (packet_reply profile calls p) ∷ rs) (replies-push profile (calls_after_packet profile calls p) ps packet)
