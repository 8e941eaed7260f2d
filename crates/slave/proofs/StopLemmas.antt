-- A stop with a positive reply stops its list.
use Rattle.std.proofs.Common.{◌≡◌, ℕ, Bool, true, false, ◌&&◌, ◌||◌, if◌then◌else◌, List, [], ◌∷◌, refl, sym, ap, ◌∙◌, subst, inl, inr, Ok, Err, is_some}
use Rattle.std.specs.Prelude.{Result, Option, Some, None}
use Rattle.std.proofs.lemmas.Bool.{false≢true}
use Rattle.xcp_base.specs.declared.err_code.ErrCode.{ErrCode}
use Rattle.xcp_base.specs.declared.err_code.ErrCode.TheVariants.{MemoryOverflow}
use Rattle.daq_store.specs.declared.command.Command.{Command}
use Rattle.daq_store.specs.declared.command.Command.TheVariants.{FreeDaq, AllocDaq, AllocOdt, AllocOdtEntry, SetDaqPtr, WriteDaq, SetDaqListMode, StartStopDaqList, StartStopSynch, ClearDaqList, ReadDaq}
use Rattle.daq_store.specs.Answer.{accepted_reply, fault_of, reply_by}
use Rattle.daq_store.specs.Calls.{Profile as ListsProfile, and_then}
use Rattle.daq_store.specs.Running.{is_active, is_running}
use Rattle.daq_store.specs.Shape.{is_list}
use Rattle.session.specs.declared.profile.Profile.{Profile}
use Rattle.session.specs.declared.request.Request.{Request}
use Rattle.session.specs.declared.request.Request.TheVariants.{Connect, Disconnect, GetCommModeInfo, GetDaqClock, GetDaqEventInfo, GetDaqListInfo, GetDaqListMode, GetDaqProcessorInfo, GetDaqResolutionInfo, GetId, GetStatus, Lists, SetMta, ShortUpload, Synch, Upload, WriteDaqMultiple}
use Rattle.session.specs.Exchanges.{Exchange, greeting_reply, is_greeting, master_reply, past_after, past_after_greeting, past_after_packet, past_after_read, past_behind, reply_in, request_reply}
use Rattle.session.specs.Exchanges.{read_reply as read_reply_of}
use Rattle.session.specs.Fields.{packet_of}
use Rattle.session.specs.Past.{Given, Past}
use Rattle.session.specs.Profiles.{lists_of}
use Rattle.session.specs.Replies.{connect_reply}
use Rattle.daq_store.specs.Replies.{reply_bytes}
use Rattle.session.specs.Requests.{request}
use Rattle.session.specs.Starts.{runs}
use Rattle.slave.specs.Session.{AsksToStop, HasPositive, IsStopOf, is_positive}
use Rattle.slave.proofs.RunLemmas.{here}

and-false : (b : Bool) → (b && false) ≡ false
and-false true = refl
and-false false = refl

-- behind the call the list doesn't run
stop-call : (calls : List Command) (call : Command) (l : ℕ) → IsStopOf calls l (Lists call) → is_active (and_then calls call) l ≡ false
stop-call calls FreeDaq l is = and-false (is_list [] l)
stop-call calls (AllocDaq n) l is = absurd is
stop-call calls (AllocOdt m n) l is = absurd is
stop-call calls (AllocOdtEntry m k n) l is = absurd is
stop-call calls (SetDaqPtr m k e) l is = absurd is
stop-call calls (WriteDaq bit size ext addr) l is = absurd is
stop-call calls (SetDaqListMode mode m channel prescaler priority) l is = absurd is
stop-call calls (StartStopDaqList mode k) l is =
    subst (λ n. is_active (StartStopDaqList n k ∷ calls) l ≡ false) (sym is.0)
    (ap (λ b. is_list calls l && (if b && true then false else is_running calls l)) (here k l is.1) ∙ and-false (is_list calls l))
stop-call calls (StartStopSynch mode) l is =
    elim is [
      | inl all ↦ subst (λ n. is_active (StartStopSynch n ∷ calls) l ≡ false) (sym all) (and-false (is_list calls l))
      | inr some ↦
          subst (λ n. is_active (StartStopSynch n ∷ calls) l ≡ false) (sym some.0)
          (ap (λ b. is_list calls l && (if false || b then false else is_running calls l)) some.1 ∙ and-false (is_list calls l))
    ]
stop-call calls (ClearDaqList k) l is = ap (λ b. is_list calls l && (if b then false else is_running calls l)) (here k l is) ∙ and-false (is_list calls l)
stop-call calls ReadDaq l is = absurd is

not-refused : (lists : ListsProfile) (calls : List Command) (call : Command) (l : ℕ) (o : Option ErrCode) → IsStopOf calls l (Lists call)
    → is_positive (reply_bytes (reply_by (accepted_reply lists calls call) o)) ≡ true → is_active (if is_some o then calls else and_then calls call) l ≡ false
not-refused lists calls call l None is positive = stop-call calls call l is
not-refused lists calls call l (Some code) is positive = absurd (false≢true positive)

some-is : (p q : List ℕ) → Some p ≡ Some q → p ≡ q
some-is p q e = cc

none-is : (q : List ℕ) → None ≡ Some q → ⊥
none-is q e = cc

module _ (d : Profile) (past : Past) (given : Given) (packet : List ℕ) (l : ℕ) where
  by-request : (asked : Request) → IsStopOf past.calls l asked → is_positive (request_reply d past given packet asked) ≡ true → runs (past_after d past given packet asked) l ≡ false
  by-request (Connect mode) is positive = absurd is
  by-request Disconnect is positive = and-false (is_list [] l)
  by-request GetStatus is positive = absurd is
  by-request Synch is positive = absurd is
  by-request GetCommModeInfo is positive = absurd is
  by-request (GetId kind) is positive = absurd is
  by-request (SetMta ext addr) is positive = absurd is
  by-request (Upload n) is positive = absurd is
  by-request (ShortUpload n ext addr) is positive = absurd is
  by-request (GetDaqListMode m) is positive = absurd is
  by-request GetDaqClock is positive = absurd is
  by-request GetDaqProcessorInfo is positive = absurd is
  by-request GetDaqResolutionInfo is positive = absurd is
  by-request (GetDaqListInfo m) is positive = absurd is
  by-request (GetDaqEventInfo c) is positive = absurd is
  by-request (WriteDaqMultiple n) is positive = absurd is
  by-request (Lists call) is positive = not-refused (lists_of d) past.calls call l (fault_of (lists_of d) past.calls call) is positive

  -- while no master is connected, it has no reply
  no-greeting : (asked : Request) → IsStopOf past.calls l asked → is_greeting (Ok asked) ≡ false
  no-greeting (Connect mode) is = absurd is
  no-greeting Disconnect is = refl
  no-greeting GetStatus is = refl
  no-greeting Synch is = refl
  no-greeting GetCommModeInfo is = refl
  no-greeting (GetId kind) is = refl
  no-greeting (SetMta ext addr) is = refl
  no-greeting (Upload n) is = refl
  no-greeting (ShortUpload n ext addr) is = refl
  no-greeting (GetDaqListMode m) is = refl
  no-greeting GetDaqClock is = refl
  no-greeting GetDaqProcessorInfo is = refl
  no-greeting GetDaqResolutionInfo is = refl
  no-greeting (GetDaqListInfo m) is = refl
  no-greeting (GetDaqEventInfo c) is = refl
  no-greeting (WriteDaqMultiple n) is = refl
  no-greeting (Lists call) is = refl

  abbrev Stops : Bool → Result Request ErrCode → Type 0
  Stops b r = HasPositive (if b then Some (read_reply_of d past given packet r) else greeting_reply d r) → runs (if b then past_after_read d past given packet r else past_after_greeting past r) l ≡ false

  by-asked : (b : Bool) (asked : Request) → IsStopOf past.calls l asked → Stops b (Ok asked)
  by-asked true asked is (q, reply, positive) = by-request asked is (ap is_positive (some-is (request_reply d past given packet asked) q reply) ∙ positive)
  by-asked false asked is (q, reply, positive) = absurd (none-is q (sym (greeting-none (is_greeting (Ok asked)) (no-greeting asked is)) ∙ reply)) where
    greeting-none : (g : Bool) → g ≡ false → (if g then Some (packet_of (connect_reply d 0)) else None) ≡ None
    greeting-none true none = absurd (false≢true (sym none))
    greeting-none false none = refl

  by-exchange : (b : Bool) (asked : Request) → request d.max_cto packet ≡ Ok asked → IsStopOf past.calls l asked → HasPositive (if b then Some (packet_of (Err MemoryOverflow)) else master_reply d past given packet)
      → runs (if b then past else past_after_packet d past given packet) l ≡ false
  by-exchange true asked reads is (q, reply, positive) = absurd (false≢true (ap is_positive (some-is (packet_of (Err MemoryOverflow)) q reply) ∙ positive))
  by-exchange false asked reads is positive = subst (Stops past.connected) (sym reads) (by-asked past.connected asked is) positive

pub stop-holds : (d : Profile) (past : Past) (x : Exchange) (l : ℕ) → AsksToStop d past l x.packet → HasPositive (reply_in d past x) → runs (past_behind d past x) l ≡ false
stop-holds d past x l (asked, reads, is) positive = by-exchange d past x.given x.packet l x.out_of_memory asked reads is positive
