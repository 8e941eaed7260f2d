-- A list that a packet starts is there.
use Rattle.std.proofs.Common.{◌≡◌, ◌≢◌, ℕ, Bool, true, false, not, ◌&&◌, if◌then◌else◌, List, is_some, refl, sym, ap, ◌∙◌, ◌⊎◌, inl, inr, Ok, Err}
use Rattle.std.specs.Prelude.{Result}
use Rattle.std.proofs.lemmas.Bool.{false≢true}
use Rattle.xcp_base.specs.declared.err_code.ErrCode.{ErrCode}
use Rattle.daq_store.specs.declared.command.Command.{Command}
use Rattle.daq_store.specs.declared.command.Command.TheVariants.{FreeDaq, AllocDaq, AllocOdt, AllocOdtEntry, SetDaqPtr, WriteDaq, SetDaqListMode, StartStopDaqList, StartStopSynch, ClearDaqList, ReadDaq}
use Rattle.daq_store.specs.Answer.{calls_after, fault_of}
use Rattle.daq_store.specs.Calls.{Profile as ListsProfile, and_then}
use Rattle.daq_store.specs.Running.{is_active, is_running}
use Rattle.daq_store.specs.Shape.{is_list}
use Rattle.session.specs.declared.profile.Profile.{Profile}
use Rattle.session.specs.declared.request.Request.{Request}
use Rattle.session.specs.declared.request.Request.TheVariants.{Connect, Disconnect, GetCommModeInfo, GetDaqClock, GetDaqEventInfo, GetDaqListInfo, GetDaqListMode, GetDaqProcessorInfo, GetDaqResolutionInfo, GetId, GetStatus, Lists, SetMta, ShortUpload, Synch, Upload, WriteDaqMultiple}
use Rattle.session.specs.Exchanges.{past_after_greeting, past_after_read}
use Rattle.session.specs.Past.{Past, none_given}
use Rattle.session.specs.Profiles.{lists_of}
use Rattle.session.specs.Requests.{request}
use Rattle.session.specs.Starts.{call_starts, runs, starts}
use Rattle.session.proofs.StartLemmas.{other_call, other_packet, unconnected_packet}

and-left : (a b : Bool) → (a && b) ≡ true → a ≡ true
and-left true b is = refl
and-left false b is = absurd (false≢true is)

and-right : (a b : Bool) → (a && b) ≡ true → b ≡ true
and-right true b is = is
and-right false b is = absurd (false≢true is)

not-and : (a : Bool) → (not a && a) ≡ true → ⊥
not-and true is = false≢true is
not-and false is = false≢true is

is-bool : (b : Bool) → (b ≡ true) ⊎ (b ≡ false)
is-bool true = inl refl
is-bool false = inr refl

-- a list that runs behind a start or a stop is there before it
either : (refused : Bool) (calls more : List Command) (l : ℕ) → is_list more l ≡ is_list calls l → is_active (if refused then calls else more) l ≡ true → is_list calls l ≡ true
either true calls more l same is = and-left (is_list calls l) (is_running calls l) is
either false calls more l same is = sym same ∙ and-left (is_list more l) (is_running more l) is

call-list : (lists : ListsProfile) (calls : List Command) (call : Command) (l : ℕ) → call_starts lists calls call l ≡ true → is_list calls l ≡ true
call-list lists calls (StartStopDaqList mode m) l is =
    either (is_some (fault_of lists calls (StartStopDaqList mode m))) calls (and_then calls (StartStopDaqList mode m)) l refl
    (and-right (not (is_active calls l)) (is_active (calls_after lists calls (StartStopDaqList mode m)) l) is)
call-list lists calls (StartStopSynch mode) l is =
    either (is_some (fault_of lists calls (StartStopSynch mode))) calls (and_then calls (StartStopSynch mode)) l refl
    (and-right (not (is_active calls l)) (is_active (calls_after lists calls (StartStopSynch mode)) l) is)
call-list lists calls FreeDaq l is = absurd (false≢true (sym (other_call lists calls FreeDaq l tt) ∙ is))
call-list lists calls (AllocDaq n) l is = absurd (false≢true (sym (other_call lists calls (AllocDaq n) l tt) ∙ is))
call-list lists calls (AllocOdt m n) l is = absurd (false≢true (sym (other_call lists calls (AllocOdt m n) l tt) ∙ is))
call-list lists calls (AllocOdtEntry m k n) l is = absurd (false≢true (sym (other_call lists calls (AllocOdtEntry m k n) l tt) ∙ is))
call-list lists calls (SetDaqPtr m k e) l is = absurd (false≢true (sym (other_call lists calls (SetDaqPtr m k e) l tt) ∙ is))
call-list lists calls (WriteDaq bit size ext addr) l is = absurd (false≢true (sym (other_call lists calls (WriteDaq bit size ext addr) l tt) ∙ is))
call-list lists calls (SetDaqListMode mode m channel prescaler priority) l is = absurd (false≢true (sym (other_call lists calls (SetDaqListMode mode m channel prescaler priority) l tt) ∙ is))
call-list lists calls (ClearDaqList m) l is = absurd (false≢true (sym (other_call lists calls (ClearDaqList m) l tt) ∙ is))
call-list lists calls ReadDaq l is = absurd (false≢true (sym (other_call lists calls ReadDaq l tt) ∙ is))

module _ (d : Profile) (past : Past) (packet : List ℕ) (l : ℕ) where
  by-packet : (r : Result Request ErrCode) → past.connected ≡ true → request d.max_cto packet ≡ r → starts d past packet l ≡ (not (runs past l) && runs (past_after_read d past none_given packet r) l)
  by-packet r connected reads =
      let read = request d.max_cto packet in
      ap (λ b. not (runs past l) && runs (if b then past_after_read d past none_given packet read else past_after_greeting past read) l) connected
      ∙ ap (λ x. not (runs past l) && runs (past_after_read d past none_given packet x) l) reads

  not-other : (asked : Request) → past.connected ≡ true → request d.max_cto packet ≡ Ok asked → ((call : Command) → asked ≢ Lists call) → starts d past packet l ≡ true → ⊥
  not-other asked connected reads other is = false≢true (sym (other_packet d past packet asked l connected reads other) ∙ is)

  by-asked : (asked : Request) → past.connected ≡ true → request d.max_cto packet ≡ Ok asked → starts d past packet l ≡ true → is_list past.calls l ≡ true
  by-asked (Lists call) connected reads is = call-list (lists_of d) past.calls call l (sym (by-packet (Ok (Lists call)) connected reads) ∙ is)
  by-asked (Connect mode) connected reads is = absurd (not-other (Connect mode) connected reads (λ call e. cc) is)
  by-asked Disconnect connected reads is = absurd (not-other Disconnect connected reads (λ call e. cc) is)
  by-asked GetStatus connected reads is = absurd (not-other GetStatus connected reads (λ call e. cc) is)
  by-asked Synch connected reads is = absurd (not-other Synch connected reads (λ call e. cc) is)
  by-asked GetCommModeInfo connected reads is = absurd (not-other GetCommModeInfo connected reads (λ call e. cc) is)
  by-asked (GetId kind) connected reads is = absurd (not-other (GetId kind) connected reads (λ call e. cc) is)
  by-asked (SetMta ext addr) connected reads is = absurd (not-other (SetMta ext addr) connected reads (λ call e. cc) is)
  by-asked (ShortUpload n ext addr) connected reads is = absurd (not-other (ShortUpload n ext addr) connected reads (λ call e. cc) is)
  by-asked (Upload n) connected reads is = absurd (not-other (Upload n) connected reads (λ call e. cc) is)
  by-asked (GetDaqListMode m) connected reads is = absurd (not-other (GetDaqListMode m) connected reads (λ call e. cc) is)
  by-asked GetDaqClock connected reads is = absurd (not-other GetDaqClock connected reads (λ call e. cc) is)
  by-asked GetDaqProcessorInfo connected reads is = absurd (not-other GetDaqProcessorInfo connected reads (λ call e. cc) is)
  by-asked GetDaqResolutionInfo connected reads is = absurd (not-other GetDaqResolutionInfo connected reads (λ call e. cc) is)
  by-asked (GetDaqListInfo m) connected reads is = absurd (not-other (GetDaqListInfo m) connected reads (λ call e. cc) is)
  by-asked (GetDaqEventInfo c) connected reads is = absurd (not-other (GetDaqEventInfo c) connected reads (λ call e. cc) is)
  by-asked (WriteDaqMultiple n) connected reads is = absurd (not-other (WriteDaqMultiple n) connected reads (λ call e. cc) is)

  by-read : (r : Result Request ErrCode) → past.connected ≡ true → request d.max_cto packet ≡ r → starts d past packet l ≡ true → is_list past.calls l ≡ true
  by-read (Ok asked) connected reads is = by-asked asked connected reads is
  by-read (Err e) connected reads is = absurd (not-and (runs past l) (sym (by-packet (Err e) connected reads) ∙ is))

  pub starts-list : starts d past packet l ≡ true → is_list past.calls l ≡ true
  starts-list is =
      elim (is-bool past.connected) [
        | inl connected ↦ by-read (request d.max_cto packet) connected refl is
        | inr none ↦ absurd (false≢true (sym (unconnected_packet d past packet l none) ∙ is))
      ]
