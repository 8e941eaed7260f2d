-- Each reply begins as a reply does, and has at most MAX_CTO bytes.
use Rattle.std.proofs.Common.{slice_range, unwrap_or, is_some, drop, ◌+◌, ◌-◌, ◌≡◌, ℕ, ◌<◌, ◌≤◌, ◌==◌, Bool, true, false, ◌||◌, nat_le, nat_lt, if◌then◌else◌, List, [], length, take, refl, sym, ◌∙◌, subst, arith, ◌⊎◌, inl, inr, Ok, Err, slice_get, length-take}
use Rattle.std.specs.Prelude.{Result, Option, Some, None, IfSome}
use Rattle.std.proofs.lemmas.Bool.{false≢true}
use Rattle.std.proofs.lemmas.Bool.Decides.{leb_tells}
use Rattle.xcp_base.specs.declared.err_code.ErrCode.{ErrCode}
use Rattle.xcp_base.specs.declared.err_code.ErrCode.TheVariants.{CmdSynch, MemoryOverflow, OutOfRange}
use Rattle.daq_store.specs.declared.reply.Reply.{Reply}
use Rattle.daq_store.specs.declared.reply.Reply.TheVariants.{Error, Positive, Read, Started}
use Rattle.daq_store.specs.Answer.{answer}
use Rattle.daq_store.specs.Running.{any_list, is_running}
use Rattle.daq_store.specs.Shape.{is_list}
use Rattle.session.specs.declared.event_channel.EventChannel.{EventChannel}
use Rattle.session.specs.declared.profile.Profile.{Profile}
use Rattle.session.specs.declared.request.Request.{Request}
use Rattle.session.specs.declared.request.Request.TheVariants.{Connect, Disconnect, GetCommModeInfo, GetDaqClock, GetDaqEventInfo, GetDaqListInfo, GetDaqListMode, GetDaqProcessorInfo, GetDaqResolutionInfo, GetId, GetStatus, Lists, SetMta, ShortUpload, Synch, Upload, WriteDaqMultiple}
use Rattle.daq_store.specs.Replies.{reply_bytes}
use Rattle.session.specs.Exchanges.{Exchange, greeting_reply, is_greeting, master_reply, read_reply, reply_in, request_reply}
use Rattle.session.specs.Fields.{IsReplyPacket, begins_reply, packet_of}
use Rattle.session.specs.Laws.{RepliesFit}
use Rattle.session.specs.Past.{Past}
use Rattle.session.specs.Profiles.{IsProfile, lists_of}
use Rattle.session.proofs.ProfileLemmas.{profile_within}
use Rattle.session.specs.Replies.{clock_fields, comm_mode_fields, connect_fields, connect_reply, event_reply, id_fields, id_reply, list_info_reply, list_mode_reply, processor_fields, resolution_fields, status_fields}
use Rattle.session.specs.Sources.{is_bad_count, is_bad_number, memory_reply, mta_reply, read_result, text_reply, upload_reply}
use Rattle.session.specs.Profiles.{id_text, segments_of}
use Rattle.session.specs.Past.{Given, Memory, Nothing, Source, Text}
use Rattle.segments.specs.Memory.{bytes_in, read, read_at}
use Rattle.segments.specs.Places.{len_of, place_of, segment_of}
use Rattle.segments.specs.declared.place.Place.{Place}
use Rattle.segments.specs.declared.read_fault.ReadFault.TheVariants as fault
use Rattle.segments.specs.declared.segment.Segment.{Segment}
use Rattle.session.specs.Requests.{request}

is-bool : (b : Bool) → (b ≡ true) ⊎ (b ≡ false)
is-bool true = inl refl
is-bool false = inr refl

-- it begins so, and has at most so many bytes, if the profile is within its limits
abbrev pub IsReply : Profile → List ℕ → Type 0
IsReply d q = (begins_reply q ≡ true) × (IsProfile d → (0 < length q) × (length q ≤ d.max_cto))

abbrev pub IfReply : (List ℕ → Type 0) → Option (List ℕ) → Type 0
IfReply P None = Unit {0}
IfReply P (Some q) = P q

-- fields that find room behind the first byte
abbrev AreFew : ℕ → Result (List ℕ) ErrCode → Type 0
AreFew m (Ok fields) = length fields < m
AreFew m (Err code) = Unit {0}

packet-is : (d : Profile) (r : Result (List ℕ) ErrCode) → (IsProfile d → AreFew d.max_cto r) → IsReply d (packet_of r)
packet-is d (Ok fields) few = (refl, λ p. (omega arith, omega (arith, few p)))
packet-is d (Err code) few = (refl, λ p. (omega arith, omega (arith, p.least)))

store-is : (d : Profile) (r : Reply) → IsReply d (reply_bytes r)
store-is d Positive = (refl, λ p. (omega arith, omega (arith, p.least)))
store-is d (Started first) = (refl, λ p. (omega arith, omega (arith, p.least)))
store-is d (Read size ext place) = (refl, λ p. (omega arith, omega (arith, p.least)))
store-is d (Error code) = (refl, λ p. (omega arith, omega (arith, p.least)))

few-if : (m : ℕ) (b : Bool) (r s : Result (List ℕ) ErrCode) → AreFew m r → AreFew m s → AreFew m (if b then r else s)
few-if m true r s x y = x
few-if m false r s x y = y

or-false : (a b : Bool) → (a || b) ≡ false → (a ≡ false) × (b ≡ false)
or-false true b is = absurd (false≢true (sym is))
or-false false b is = (refl, is)

few-taken : (m n : ℕ) (text : List ℕ) → is_bad_number m n ≡ false → length (take n text) < m
few-taken m n text fine =
    let low = (or-false (n == 0) (nat_le m n) fine).1 in
    elim (leb_tells m n) [
      | inl w ↦ absurd (false≢true (sym low ∙ w.0))
      | inr w ↦ omega (arith, w.1, length-take n text)
    ]

few-text : (m n : ℕ) (text : List ℕ) → AreFew m (text_reply m n text)
few-text m n text =
    elim (is-bool (is_bad_count m n text)) [
      | inl bad ↦ subst (λ b. AreFew m (if b then Err OutOfRange else Ok (take n text))) (sym bad) tt
      | inr fine ↦ subst (λ b. AreFew m (if b then Err OutOfRange else Ok (take n text))) (sym fine) (few-taken m n text (or-false (is_bad_number m n) (nat_lt (length text) n) fine).0)
    ]

few-read : (m n : ℕ) → is_bad_number m n ≡ false → (segments : List Segment) (memory : List (List ℕ)) (o : Option Place) → AreFew m (read_result (read_at segments memory n o))
few-read m n fine segments memory None = tt
few-read m n fine segments memory (Some p) = by (length (bytes_in memory p.segment) == len_of segments p.segment) where
  by : (b : Bool) → AreFew m (read_result (if b then Ok (slice_range (bytes_in memory p.segment) p.start (p.start + n)) else Err fault.AccessDenied))
  by true =
      let few : length (take (p.start + n - p.start) (drop p.start (bytes_in memory p.segment))) < m =
      subst (λ k. length (take k (drop p.start (bytes_in memory p.segment))) < m) (omega arith) (few-taken m n (drop p.start (bytes_in memory p.segment)) fine) in
      few
  by false = tt

few-memory : (d : Profile) (memory : List (List ℕ)) (n extension address : ℕ) → AreFew d.max_cto (memory_reply d memory n extension address)
few-memory d memory n extension address =
    elim (is-bool (is_bad_number d.max_cto n)) [
      | inl bad ↦ subst (λ b. AreFew d.max_cto (if b then Err OutOfRange else read_result (read (segments_of d) memory extension address n))) (sym bad) tt
      | inr fine ↦ subst (λ b. AreFew d.max_cto (if b then Err OutOfRange else read_result (read (segments_of d) memory extension address n))) (sym fine)
          (few-read d.max_cto n fine (segments_of d) memory (place_of (segments_of d) extension address n))
    ]

few-upload : (d : Profile) (memory : List (List ℕ)) (n : ℕ) (source : Source) → AreFew d.max_cto (upload_reply d memory n source)
few-upload d memory n Nothing = tt
few-upload d memory n (Text left) = few-text d.max_cto n left
few-upload d memory n (Memory extension address) = few-memory d memory n extension address

few-mta : (m : ℕ) (b : Bool) → 8 ≤ m → AreFew m (if b then Ok [] else Err OutOfRange)
few-mta m true least = omega (arith, least)
few-mta m false least = tt

few-event : (m : ℕ) (e : Option EventChannel) → 8 ≤ m → AreFew m (event_reply e)
few-event m None least = tt
few-event m (Some e) least = omega (arith, least)

module _ (d : Profile) (past : Past) (given : Given) (packet : List ℕ) where
  by-request : (asked : Request) → IsReply d (request_reply d past given packet asked)
  by-request (Connect mode) = packet-is d (connect_reply d mode) (λ p. few-if d.max_cto (mode == 0) (Ok (connect_fields d)) (Err OutOfRange) (omega (arith, p.least)) tt)
  by-request Disconnect = packet-is d (Ok []) (λ p. omega (arith, p.least))
  by-request GetStatus = packet-is d (Ok (status_fields (any_list past.calls (is_running past.calls)))) (λ p. omega (arith, p.least))
  by-request Synch = packet-is d (Err CmdSynch) (λ p. tt)
  by-request GetCommModeInfo = packet-is d (Ok comm_mode_fields) (λ p. omega (arith, p.least))
  by-request (GetId kind) =
      packet-is d (id_reply d kind)
      (λ p. few-if d.max_cto (kind == 0) (Ok (id_fields 1 (length d.name.items) d.name.items)) (if nat_lt 5 kind then Err OutOfRange else Ok (id_fields 0 (length (unwrap_or (id_text d kind) [])) [])) (omega (arith, p.reply))
      (few-if d.max_cto (nat_lt 5 kind) (Err OutOfRange) (Ok (id_fields 0 (length (unwrap_or (id_text d kind) [])) [])) tt (omega (arith, p.least))))
  by-request (SetMta extension address) = packet-is d (mta_reply d extension address) (λ p. few-mta d.max_cto (is_some (segment_of (segments_of d) extension address 1)) p.least)
  by-request (Upload n) = packet-is d (upload_reply d given.memory n past.source) (λ p. few-upload d given.memory n past.source)
  by-request (ShortUpload n extension address) = packet-is d (memory_reply d given.memory n extension address) (λ p. few-memory d given.memory n extension address)
  by-request (GetDaqListMode l) = packet-is d (list_mode_reply past.calls l) (λ p. few-if d.max_cto (is_list past.calls l) _ (Err OutOfRange) (omega (arith, p.least)) tt)
  by-request GetDaqClock = packet-is d (Ok (clock_fields given.clock)) (λ p. omega (arith, p.least))
  by-request GetDaqProcessorInfo = packet-is d (Ok (processor_fields d past.calls)) (λ p. omega (arith, p.least))
  by-request GetDaqResolutionInfo = packet-is d (Ok (resolution_fields d)) (λ p. omega (arith, p.least))
  by-request (GetDaqListInfo l) = packet-is d (list_info_reply d past.calls l) (λ p. few-if d.max_cto (is_list past.calls l) _ (Err OutOfRange) (omega (arith, p.least)) tt)
  by-request (GetDaqEventInfo c) = packet-is d (event_reply (slice_get d.events.items c)) (λ p. few-event d.max_cto (slice_get d.events.items c) p.least)
  by-request (WriteDaqMultiple n) = store-is d _
  by-request (Lists call) = store-is d (answer (lists_of d) past.calls call)

  by-read : (r : Result Request ErrCode) → IsReply d (read_reply d past given packet r)
  by-read (Ok asked) = by-request asked
  by-read (Err code) = packet-is d (Err code) (λ p. tt)

  by-greeting : (b : Bool) → IfReply (IsReply d) (if b then Some (packet_of (connect_reply d 0)) else None)
  by-greeting true = packet-is d (connect_reply d 0) (λ p. omega (arith, p.least))
  by-greeting false = tt

  by-master : (b : Bool) (r : Result Request ErrCode) → IfReply (IsReply d) (if b then Some (read_reply d past given packet r) else greeting_reply d r)
  by-master true r = by-read r
  by-master false r = by-greeting (is_greeting r)

  by-exchange : (b : Bool) → IfReply (IsReply d) (if b then Some (packet_of (Err MemoryOverflow)) else master_reply d past given packet)
  by-exchange true = packet-is d (Err MemoryOverflow) (λ p. tt)
  by-exchange false = by-master past.connected (request d.max_cto packet)

pub reply-is : (d : Profile) (past : Past) (x : Exchange) → IfReply (IsReply d) (reply_in d past x)
reply-is d past x = by-exchange d past x.given x.packet x.out_of_memory

pub refusal-is : (d : Profile) (code : ErrCode) → IsReply d (packet_of (Err code))
refusal-is d code = packet-is d (Err code) (λ p. tt)

if-reply : (d : Profile) (reply : Option (List ℕ)) → IsProfile d → IfReply (IsReply d) reply → IfSome reply (IsReplyPacket d.max_cto)
if-reply d None p is = tt
if-reply d (Some q) p is = record { begins = is.0; fits = (is.1 p).1 }

pub replies_fit : RepliesFit
replies_fit d past x none = if-reply d (reply_in d past x) (profile_within d none) (reply-is d past x)
