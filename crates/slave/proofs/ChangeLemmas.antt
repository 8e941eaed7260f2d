-- Which lists run changes only by packets with a positive reply.
use Rattle.std.proofs.Common.{◌≡◌, ◌≢◌, ℕ, zero, suc, Bool, true, false, if◌then◌else◌, List, [], ◌∷◌, take, drop, refl, sym, ◌∙◌, subst, Ok, Err, is_some}
use Rattle.std.specs.Prelude.{Result, Option, Some, None}
use Rattle.xcp_base.specs.declared.err_code.ErrCode.{ErrCode}
use Rattle.xcp_base.specs.declared.err_code.ErrCode.TheVariants.{MemoryOverflow}
use Rattle.daq_store.specs.declared.command.Command.{Command}
use Rattle.daq_store.specs.declared.command.Command.TheVariants.{FreeDaq, AllocDaq, AllocOdt, AllocOdtEntry, SetDaqPtr, WriteDaq, SetDaqListMode, StartStopDaqList, StartStopSynch, ClearDaqList, ReadDaq}
use Rattle.daq_store.specs.Answer.{accepted_reply, answer, calls_after, fault_of, read_reply, reply_by}
use Rattle.daq_store.specs.Calls.{Profile as ListsProfile, and_then}
use Rattle.daq_store.specs.Entries.{pointed}
use Rattle.daq_store.specs.Running.{is_active}
use Rattle.session.specs.declared.profile.Profile.{Profile}
use Rattle.session.specs.declared.request.Request.{Request}
use Rattle.session.specs.declared.request.Request.TheVariants.{Connect, Disconnect, GetCommModeInfo, GetDaqClock, GetDaqEventInfo, GetDaqListInfo, GetDaqListMode, GetDaqProcessorInfo, GetDaqResolutionInfo, GetId, GetStatus, Lists, SetMta, ShortUpload, Synch, Upload, WriteDaqMultiple}
use Rattle.session.specs.Exchanges.{calls_after_writes, greeting_reply, is_greeting, master_reply, past_after, past_after_greeting, past_after_packet, past_after_read, request_reply}
use Rattle.session.specs.Exchanges.{read_reply as read_reply_of}
use Rattle.session.specs.Fields.{packet_of}
use Rattle.session.specs.Past.{Given, Past}
use Rattle.session.specs.Profiles.{lists_of}
use Rattle.session.specs.Replies.{is_error}
use Rattle.daq_store.specs.Replies.{reply_bytes}
use Rattle.daq_store.specs.declared.entry.Entry.{Entry}
use Rattle.session.specs.Requests.{request, write_of, writes}
use Rattle.session.specs.Starts.{runs}
use Rattle.slave.specs.Log.{Act, CameBack, Discarded, Heard, HungUp, Opened, Refused, Sent, Took, past_of}
use Rattle.slave.specs.Session.{HasPositive, IsAccepted, is_positive}

-- a write, whatever its bytes are
write-is : (bytes : List ℕ) → (bit : ℕ) × (size : ℕ) × (ext : ℕ) × (addr : ℕ) × (write_of bytes ≡ WriteDaq bit size ext addr)
write-is [] = (0, 0, 0, 0, refl)
write-is (a ∷ []) = (0, 0, 0, 0, refl)
write-is (a ∷ b ∷ []) = (0, 0, 0, 0, refl)
write-is (a ∷ b ∷ c ∷ []) = (0, 0, 0, 0, refl)
write-is (a ∷ b ∷ c ∷ d ∷ []) = (0, 0, 0, 0, refl)
write-is (a ∷ b ∷ c ∷ d ∷ e ∷ []) = (0, 0, 0, 0, refl)
write-is (a ∷ b ∷ c ∷ d ∷ e ∷ f ∷ []) = (0, 0, 0, 0, refl)
write-is (a ∷ b ∷ c ∷ d ∷ e ∷ f ∷ g ∷ more) = (_, _, _, _, refl)

unless-refused : (refused : Bool) (calls more : List Command) (l : ℕ) → is_active more l ≡ is_active calls l → is_active (if refused then calls else more) l ≡ is_active calls l
unless-refused true calls more l same = refl
unless-refused false calls more l same = same

write-keeps : (lists : ListsProfile) (calls : List Command) (bytes : List ℕ) (l : ℕ) → is_active (calls_after lists calls (write_of bytes)) l ≡ is_active calls l
write-keeps lists calls bytes l =
    let (bit, size, ext, addr, is) = write-is bytes in
    subst (λ call. is_active (calls_after lists calls call) l ≡ is_active calls l) (sym is)
    (unless-refused (is_some (fault_of lists calls (WriteDaq bit size ext addr))) calls (and_then calls (WriteDaq bit size ext addr)) l refl)

if-keeps : (bad : Bool) (calls mid more : List Command) (l : ℕ) → is_active mid l ≡ is_active calls l → is_active more l ≡ is_active mid l → is_active (if bad then mid else more) l ≡ is_active calls l
if-keeps true calls mid more l one two = one
if-keeps false calls mid more l one two = two ∙ one

writes-keep : (lists : ListsProfile) (n : ℕ) (bytes : List ℕ) (calls : List Command) (l : ℕ) → is_active (calls_after_writes lists calls (writes n bytes)) l ≡ is_active calls l
writes-keep lists zero bytes calls l = refl
writes-keep lists (suc n) bytes calls l =
    let write = write_of (take 8 bytes) in
    let mid = calls_after lists calls write in
    if-keeps (is_error (answer lists calls write)) calls mid (calls_after_writes lists mid (writes n (drop 8 bytes))) l
    (write-keeps lists calls (take 8 bytes) l) (writes-keep lists n (drop 8 bytes) mid l)

-- a call that is not refused has a positive reply
read-positive : (o : Option Entry) → is_positive (reply_bytes (read_reply o)) ≡ true
read-positive None = refl
read-positive (Some x) = refl

accepted-positive : (lists : ListsProfile) (calls : List Command) (call : Command) → is_positive (reply_bytes (accepted_reply lists calls call)) ≡ true
accepted-positive lists calls FreeDaq = refl
accepted-positive lists calls (AllocDaq n) = refl
accepted-positive lists calls (AllocOdt m n) = refl
accepted-positive lists calls (AllocOdtEntry m k n) = refl
accepted-positive lists calls (SetDaqPtr m k e) = refl
accepted-positive lists calls (WriteDaq bit size ext addr) = refl
accepted-positive lists calls (SetDaqListMode mode m channel prescaler priority) = refl
accepted-positive lists calls (StartStopDaqList mode m) = refl
accepted-positive lists calls (StartStopSynch mode) = refl
accepted-positive lists calls (ClearDaqList m) = refl
accepted-positive lists calls ReadDaq = read-positive (pointed calls)

by-fault : (lists : ListsProfile) (calls : List Command) (call : Command) (l : ℕ) (o : Option ErrCode) → is_active (if is_some o then calls else and_then calls call) l ≢ is_active calls l
    → is_positive (reply_bytes (reply_by (accepted_reply lists calls call) o)) ≡ true
by-fault lists calls call l None other = accepted-positive lists calls call
by-fault lists calls call l (Some code) other = absurd (other refl)

module _ (d : Profile) (past : Past) (given : Given) (packet : List ℕ) (l : ℕ) where
  by-request : (asked : Request) → runs (past_after d past given packet asked) l ≢ runs past l → is_positive (request_reply d past given packet asked) ≡ true
  by-request (Connect mode) other = absurd (other refl)
  by-request Disconnect other = refl
  by-request GetStatus other = absurd (other refl)
  by-request Synch other = absurd (other refl)
  by-request GetCommModeInfo other = absurd (other refl)
  by-request (GetId kind) other = absurd (other refl)
  by-request (SetMta ext addr) other = absurd (other refl)
  by-request (Upload n) other = absurd (other refl)
  by-request (ShortUpload n ext addr) other = absurd (other refl)
  by-request (GetDaqListMode m) other = absurd (other refl)
  by-request GetDaqClock other = absurd (other refl)
  by-request GetDaqProcessorInfo other = absurd (other refl)
  by-request GetDaqResolutionInfo other = absurd (other refl)
  by-request (GetDaqListInfo m) other = absurd (other refl)
  by-request (GetDaqEventInfo c) other = absurd (other refl)
  by-request (WriteDaqMultiple n) other = absurd (other (writes-keep (lists_of d) n (drop 2 packet) past.calls l))
  by-request (Lists call) other = by-fault (lists_of d) past.calls call l (fault_of (lists_of d) past.calls call) other

  by-greeting : (b : Bool) → runs (if b then record past { connected = true } else past) l ≡ runs past l
  by-greeting true = refl
  by-greeting false = refl

  by-master : (b : Bool) (r : Result Request ErrCode) → runs (if b then past_after_read d past given packet r else past_after_greeting past r) l ≢ runs past l
      → HasPositive (if b then Some (read_reply_of d past given packet r) else greeting_reply d r)
  by-master true (Ok asked) other = (request_reply d past given packet asked, refl, by-request asked other)
  by-master true (Err code) other = absurd (other refl)
  by-master false r other = absurd (other (by-greeting (is_greeting r)))

  by-exchange : (b : Bool) → runs (if b then past else past_after_packet d past given packet) l ≢ runs past l → HasPositive (if b then Some (packet_of (Err MemoryOverflow)) else master_reply d past given packet)
  by-exchange true other = absurd (other refl)
  by-exchange false other = by-master past.connected (request d.max_cto packet) other

pub change-accepted : (d : Profile) (act : Act) (log : List Act) (l : ℕ) → runs (past_of d (act ∷ log)) l ≢ runs (past_of d log) l → IsAccepted d act log
change-accepted d (Heard x) log l other = by-exchange d (past_of d log) x.given x.packet l x.out_of_memory other
change-accepted d (Refused packet code) log l other = absurd (other refl)
change-accepted d (Opened at) log l other = absurd (other refl)
change-accepted d (Took m c x) log l other = absurd (other refl)
change-accepted d (CameBack m c past) log l other = absurd (other refl)
change-accepted d (Sent n) log l other = absurd (other refl)
change-accepted d HungUp log l other = tt
change-accepted d Discarded log l other = absurd (other refl)
