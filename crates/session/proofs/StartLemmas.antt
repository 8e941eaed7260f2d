-- Which DAQ lists a packet starts, request by request and command by command.
use Rattle.std.proofs.Common.{Result, Err, ◌≡◌, ◌≢◌, ◌<◌, ◌+◌, get_or, zero-add, ℕ, zero, suc, ◌==◌, Bool, true, false, not, ◌&&◌, ◌||◌, if◌then◌else◌, List, [], ◌∷◌, ◌++◌, take, drop, nat_lt, Ok, is_some, refl, ap, ◌∙◌, arith}
use Rattle.std.specs.List.{list_any, range_with_len}
use Rattle.std.proofs.lemmas.List.Folds.{list_any-append, list_any_at}
use Rattle.std.proofs.lemmas.List.FromFn.{get_or-range_with_len, length-range_with_len}
use Rattle.daq_store.specs.declared.command.Command.{Command}
use Rattle.daq_store.specs.declared.command.Command.TheVariants.{FreeDaq, AllocDaq, AllocOdt, AllocOdtEntry, SetDaqPtr, WriteDaq, SetDaqListMode, StartStopDaqList, StartStopSynch, ClearDaqList, ReadDaq}
use Rattle.daq_store.specs.Answer.{answer, calls_after, fault_of}
use Rattle.daq_store.specs.Calls.{Profile as ListsProfile, and_then, numbers_below}
use Rattle.daq_store.specs.Running.{is_active, is_running}
use Rattle.daq_store.specs.Shape.{is_list}
use Rattle.session.specs.declared.profile.Profile.{Profile}
use Rattle.session.specs.declared.request.Request.{Request}
use Rattle.session.specs.declared.request.Request.TheVariants.{Connect, Disconnect, GetStatus, Synch, GetCommModeInfo, GetId, SetMta, ShortUpload, Upload, GetDaqListMode, GetDaqClock, GetDaqProcessorInfo, GetDaqResolutionInfo, GetDaqListInfo, GetDaqEventInfo, Lists, WriteDaqMultiple}
use Rattle.session.specs.Exchanges.{calls_after_writes, is_greeting, past_after, past_after_greeting, past_after_packet, past_after_read}
use Rattle.xcp_base.specs.declared.err_code.ErrCode.{ErrCode}
use Rattle.session.specs.Past.{Given, Past, none_given}
use Rattle.session.specs.Profiles.{lists_of}
use Rattle.session.specs.Replies.{is_error}
use Rattle.session.specs.Requests.{request, write_of, writes}
use Rattle.session.specs.Starts.{call_starts, starts}

-- list l runs behind some calls, but not behind those before
abbrev pub gains : List Command → List Command → ℕ → Bool
gains before behind l = not (is_active before l) && is_active behind l

-- nothing that runs already is gained
not-and : (a : Bool) → (not a && a) ≡ false
not-and true = refl
not-and false = refl

-- a list that stops
and-none : (a t : Bool) → (not a && (t && false)) ≡ false
and-none true true = refl
and-none true false = refl
and-none false true = refl
and-none false false = refl

-- a list that stops, or goes on
and-stops : (t r s : Bool) → (not (t && r) && (t && (if s then false else r))) ≡ false
and-stops true true true = refl
and-stops true true false = refl
and-stops true false true = refl
and-stops true false false = refl
and-stops false r s = refl

-- a refused call starts nothing
unless_refused : (refused : Bool) (calls more : List Command) (l : ℕ) → gains calls more l ≡ false
    → gains calls (if refused then calls else more) l ≡ false
unless_refused true calls more l h = not-and (is_active calls l)
unless_refused false calls more l h = h

-- one of the two commands that start lists
abbrev pub StartsNoList : Command → Type 0
StartsNoList (StartStopDaqList mode list) = ⊥
StartsNoList (StartStopSynch mode) = ⊥
StartsNoList _ = Unit {0}

-- what another command leaves
gained_by : (calls : List Command) (call : Command) (l : ℕ) → StartsNoList call → gains calls (and_then calls call) l ≡ false
gained_by calls FreeDaq l h = and-none (is_active calls l) (is_list [] l)
gained_by calls (AllocDaq n) l h = and-none (is_active calls l) (nat_lt l n)
gained_by calls (AllocOdt m n) l h = not-and (is_active calls l)
gained_by calls (AllocOdtEntry m k n) l h = not-and (is_active calls l)
gained_by calls (SetDaqPtr m k e) l h = not-and (is_active calls l)
gained_by calls (WriteDaq bit size ext addr) l h = not-and (is_active calls l)
gained_by calls (SetDaqListMode mode m channel prescaler priority) l h = not-and (is_active calls l)
gained_by calls (StartStopDaqList mode m) l h = absurd h
gained_by calls (StartStopSynch mode) l h = absurd h
gained_by calls (ClearDaqList m) l h = and-stops (is_list calls l) (is_running calls l) (m == l)
gained_by calls ReadDaq l h = not-and (is_active calls l)

-- what is neither of the two starts no list
pub starts_no_list : (call : Command) → ((mode list : ℕ) → call ≢ StartStopDaqList mode list) → ((mode : ℕ) → call ≢ StartStopSynch mode)
    → StartsNoList call
starts_no_list FreeDaq one all = tt
starts_no_list (AllocDaq n) one all = tt
starts_no_list (AllocOdt m n) one all = tt
starts_no_list (AllocOdtEntry m k n) one all = tt
starts_no_list (SetDaqPtr m k e) one all = tt
starts_no_list (WriteDaq bit size ext addr) one all = tt
starts_no_list (SetDaqListMode mode m channel prescaler priority) one all = tt
starts_no_list (StartStopDaqList mode m) one all = one mode m refl
starts_no_list (StartStopSynch mode) one all = all mode refl
starts_no_list (ClearDaqList m) one all = tt
starts_no_list ReadDaq one all = tt

pub other_call : (lists : ListsProfile) (calls : List Command) (call : Command) (l : ℕ) → StartsNoList call
    → call_starts lists calls call l ≡ false
other_call lists calls call l h =
    unless_refused (is_some (fault_of lists calls call)) calls (and_then calls call) l (gained_by calls call l h)

-- a write starts nothing, whatever its bytes are
writes_is_plain : (bytes : List ℕ) → StartsNoList (write_of bytes)
writes_is_plain [] = tt
writes_is_plain (a ∷ []) = tt
writes_is_plain (a ∷ b ∷ []) = tt
writes_is_plain (a ∷ b ∷ c ∷ []) = tt
writes_is_plain (a ∷ b ∷ c ∷ d ∷ []) = tt
writes_is_plain (a ∷ b ∷ c ∷ d ∷ e ∷ []) = tt
writes_is_plain (a ∷ b ∷ c ∷ d ∷ e ∷ f ∷ []) = tt
writes_is_plain (a ∷ b ∷ c ∷ d ∷ e ∷ f ∷ g ∷ more) = tt

-- one call behind another
gains-behind : (a b c : Bool) → (not a && b) ≡ false → (not b && c) ≡ false → (not a && c) ≡ false
gains-behind true b c h k = refl
gains-behind false true c h k = absurd cc
gains-behind false false c h k = k

gains_if : (refused : Bool) (calls mid more : List Command) (l : ℕ) → gains calls mid l ≡ false → gains mid more l ≡ false
    → gains calls (if refused then mid else more) l ≡ false
gains_if true calls mid more l h k = h
gains_if false calls mid more l h k = gains-behind (is_active calls l) (is_active mid l) (is_active more l) h k

-- WRITE_DAQ_MULTIPLE starts nothing
writes_kept : (lists : ListsProfile) (n : ℕ) (bytes : List ℕ) (calls : List Command) (l : ℕ)
    → gains calls (calls_after_writes lists calls (writes n bytes)) l ≡ false
writes_kept lists zero bytes calls l = not-and (is_active calls l)
writes_kept lists (suc n) bytes calls l =
    let write = write_of (take 8 bytes) in
    let mid = calls_after lists calls write in
    gains_if (is_error (answer lists calls write)) calls mid (calls_after_writes lists mid (writes n (drop 8 bytes))) l
    (other_call lists calls write l (writes_is_plain (take 8 bytes)))
    (writes_kept lists n (drop 8 bytes) mid l)

-- a request that is no command to the store starts nothing
other_request : (d : Profile) (past : Past) (packet : List ℕ) (asked : Request) (l : ℕ) → ((call : Command) → asked ≢ Lists call)
    → gains past.calls (past_after d past none_given packet asked).calls l ≡ false
other_request d past packet (Connect mode) l h = not-and (is_active past.calls l)
other_request d past packet Disconnect l h = and-none (is_active past.calls l) (is_list [] l)
other_request d past packet GetStatus l h = not-and (is_active past.calls l)
other_request d past packet Synch l h = not-and (is_active past.calls l)
other_request d past packet GetCommModeInfo l h = not-and (is_active past.calls l)
other_request d past packet (GetId kind) l h = not-and (is_active past.calls l)
other_request d past packet (SetMta ext addr) l h = not-and (is_active past.calls l)
other_request d past packet (Upload n) l h = not-and (is_active past.calls l)
other_request d past packet (ShortUpload n ext addr) l h = not-and (is_active past.calls l)
other_request d past packet (GetDaqListMode m) l h = not-and (is_active past.calls l)
other_request d past packet GetDaqClock l h = not-and (is_active past.calls l)
other_request d past packet GetDaqProcessorInfo l h = not-and (is_active past.calls l)
other_request d past packet GetDaqResolutionInfo l h = not-and (is_active past.calls l)
other_request d past packet (GetDaqListInfo m) l h = not-and (is_active past.calls l)
other_request d past packet (GetDaqEventInfo c) l h = not-and (is_active past.calls l)
other_request d past packet (WriteDaqMultiple n) l h = writes_kept (lists_of d) n (drop 2 packet) past.calls l
other_request d past packet (Lists call) l h = absurd (h call refl)

-- while a master is connected, a packet starts what its request starts
connected_packet : (d : Profile) (past : Past) (packet : List ℕ) (asked : Request) (l : ℕ) → past.connected ≡ true
    → request d.max_cto packet ≡ Ok asked
    → starts d past packet l ≡ gains past.calls (past_after d past none_given packet asked).calls l
connected_packet d past packet asked l is reads =
    let read = request d.max_cto packet in
    ap (λ b. gains past.calls (if b then past_after_read d past none_given packet read else past_after_greeting past read).calls l) is
    ∙ ap (λ r. gains past.calls (past_after_read d past none_given packet r).calls l) reads

pub other_packet : (d : Profile) (past : Past) (packet : List ℕ) (asked : Request) (l : ℕ) → past.connected ≡ true
    → request d.max_cto packet ≡ Ok asked → ((call : Command) → asked ≢ Lists call) → starts d past packet l ≡ false
other_packet d past packet asked l is reads other =
    connected_packet d past packet asked l is reads ∙ other_request d past packet asked l other

-- while no master is connected, no packet starts anything
greeting_kept : (past : Past) (greets : Bool) (l : ℕ)
    → gains past.calls (if greets then record past { connected = true } else past).calls l ≡ false
greeting_kept past true l = not-and (is_active past.calls l)
greeting_kept past false l = not-and (is_active past.calls l)

pub unconnected_packet : (d : Profile) (past : Past) (packet : List ℕ) (l : ℕ) → past.connected ≡ false
    → starts d past packet l ≡ false
unconnected_packet d past packet l is =
    let read = request d.max_cto packet in
    ap (λ b. gains past.calls (if b then past_after_read d past none_given packet read else past_after_greeting past read).calls l) is
    ∙ greeting_kept past (is_greeting read) l

-- the calls behind a packet, whatever came with it
same-asked : (d : Profile) (past : Past) (g h : Given) (packet : List ℕ) (asked : Request) → (past_after d past g packet asked).calls ≡ (past_after d past h packet asked).calls
same-asked d past g h packet (Connect mode) = refl
same-asked d past g h packet Disconnect = refl
same-asked d past g h packet GetStatus = refl
same-asked d past g h packet Synch = refl
same-asked d past g h packet GetCommModeInfo = refl
same-asked d past g h packet (GetId kind) = refl
same-asked d past g h packet (SetMta ext addr) = refl
same-asked d past g h packet (Upload n) = refl
same-asked d past g h packet (ShortUpload n ext addr) = refl
same-asked d past g h packet (GetDaqListMode m) = refl
same-asked d past g h packet GetDaqClock = refl
same-asked d past g h packet GetDaqProcessorInfo = refl
same-asked d past g h packet GetDaqResolutionInfo = refl
same-asked d past g h packet (GetDaqListInfo m) = refl
same-asked d past g h packet (GetDaqEventInfo c) = refl
same-asked d past g h packet (WriteDaqMultiple n) = refl
same-asked d past g h packet (Lists call) = refl

same-read : (d : Profile) (past : Past) (g h : Given) (packet : List ℕ) (read : Result Request ErrCode) → (past_after_read d past g packet read).calls ≡ (past_after_read d past h packet read).calls
same-read d past g h packet (Ok asked) = same-asked d past g h packet asked
same-read d past g h packet (Err code) = refl

pub same_calls : (d : Profile) (past : Past) (g h : Given) (packet : List ℕ) → (past_after_packet d past g packet).calls ≡ (past_after_packet d past h packet).calls
same_calls d past g h packet = by past.connected
  where
    by : (b : Bool) → (if b then past_after_read d past g packet (request d.max_cto packet) else past_after_greeting past (request d.max_cto packet)).calls ≡ (if b then past_after_read d past h packet (request d.max_cto packet) else past_after_greeting past (request d.max_cto packet)).calls
    by true = same-read d past g h packet (request d.max_cto packet)
    by false = refl

-- one number more at the end
range-next : (a n : ℕ) → range_with_len a (suc n) ≡ range_with_len a n ++ (a + n) ∷ []
range-next a zero = let e : a ≡ a + 0 = omega arith in ap (λ k. k ∷ []) e
range-next a (suc n) =
    let e : a + 1 + n ≡ a + suc n = omega arith in
    ap (λ xs. a ∷ xs) (range-next (a + 1) n) ∙ ap (λ k. a ∷ range_with_len (a + 1) n ++ k ∷ []) e

-- a test that all numbers below one fail, and that number too
pub any-next : (test : ℕ → Bool) (n : ℕ) → list_any test (numbers_below n) ≡ false → test n ≡ false
    → list_any test (numbers_below (n + 1)) ≡ false
any-next test n none fails =
    let one : n + 1 ≡ suc n = omega arith in
    ap (λ k. list_any test (numbers_below k)) one
    ∙ ap (list_any test) (range-next 0 n)
    ∙ list_any-append test (numbers_below n) ((0 + n) ∷ [])
    ∙ ap (λ b. b || list_any test ((0 + n) ∷ [])) none
    ∙ ap (λ k. test k || false) (zero-add n)
    ∙ ap (λ b. b || false) fails

-- a number that passes the test is one of those below
pub any_there : (test : ℕ → Bool) (i n : ℕ) → i < n → test i ≡ true → list_any test (numbers_below n) ≡ true
any_there test i n inside passes =
    let here : get_or (numbers_below n) i 0 ≡ i = get_or-range_with_len 0 n i 0 inside ∙ zero-add i in
    list_any_at test (numbers_below n) i 0 (omega (arith, length-range_with_len 0 n)) (ap test here ∙ passes)
