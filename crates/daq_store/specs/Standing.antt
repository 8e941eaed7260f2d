-- What a store shows, and when it stands after a list of calls.
use Rattle.std.specs.Prelude.{◌≡◌, ℕ, ◌<◌, ◌≤◌, Bool, true, false, if◌then◌else◌, List, length, map}
use Rattle.std.specs.Prelude.{sum_by, take, slice_get, unwrap_or, option_map, IfSome, All, Option}
use Rattle.std.specs.Prelude.{Some, None}
use Rattle.xcp_base.specs.declared.limits.TheConstants.{MAX_CHANNELS, MAX_LISTS}
use Rattle.xcp_base.specs.declared.limits.TheConstants.{MAX_ODTS_IN_ALL}
use Rattle.xcp_base.specs.declared.packet_form.PacketForm.{PacketForm}
use Rattle.xcp_base.specs.Forms.{IsForm, first_pid_behind, most_odts}
use Rattle.segments.specs.declared.segment.Segment.{Segment}
use Rattle.segments.specs.Segment.{AreWithin}
use Rattle.daq_store.specs.declared.command.Command.{Command}
use Rattle.daq_store.specs.declared.phase.Phase.{Phase}
use Rattle.daq_store.specs.declared.refusal.Refusal.{Refusal}
use Rattle.daq_store.specs.declared.refusal.Refusal.TheVariants.{Code, Memory}
use Rattle.daq_store.specs.declared.reply.Reply.{Reply}
use Rattle.daq_store.specs.declared.reply.Reply.TheVariants.{Error}
use Rattle.daq_store.specs.declared.list_state.ListState.{ListState}
use Rattle.daq_store.specs.Calls.{Profile, and_then, numbers_below}
use Rattle.daq_store.specs.Shape.{list_count, phase_of, is_list, odts_before}
use Rattle.daq_store.specs.Pointer.{pointer}
use Rattle.daq_store.specs.Running.{is_running, is_selected}
use Rattle.daq_store.specs.Configuration.{Configuration, configuration, fresh_conf, odt_entries}
use Rattle.daq_store.specs.Configuration.{is_ready}
use Rattle.daq_store.specs.Answer.{answer, fault_of}

-- what a store shows
pub record StoreState : Type 0 where
  pub profile : Profile
  pub lists : List ListState
  pub pointer : Option (ℕ × ℕ × ℕ)
  pub phase : Phase

-- list l after some calls, in a store whose packets have this form
abbrev pub list_after : PacketForm → List Command → ℕ → ListState
list_after form calls l =
    record {
      conf = configuration form calls l;
      running = is_running calls l;
      selected = is_selected calls l;
    }

-- the store shows what is read off the calls
pub record StoreStandsAfter (s : StoreState) (calls : List Command) : Type 0 where
  pub lists : s.lists ≡ map (list_after s.profile.form calls) (numbers_below (list_count calls))
  pub pointer : s.pointer ≡ pointer calls
  pub phase : s.phase ≡ phase_of calls

-- after all calls that the old store stands after, this reply is the answer to the call, and the
-- new store stands after these calls and the call
abbrev pub Accepts : StoreState → StoreState → Command → Reply → Type 0
Accepts old new call reply =
    (calls : List Command) → StoreStandsAfter old calls
    → (answer old.profile calls call ≡ reply) × StoreStandsAfter new (and_then calls call)

-- after all calls that the store stands after, every check of the call passes
abbrev pub PassesAll : StoreState → Command → Type 0
PassesAll s call =
    (calls : List Command) → StoreStandsAfter s calls → fault_of s.profile calls call ≡ None

-- an error is the answer to the call; want of memory comes only where every check passes
abbrev pub Refuses : StoreState → Command → Refusal → Type 0
Refuses s call (Code code) =
    (calls : List Command) → StoreStandsAfter s calls → answer s.profile calls call ≡ Error code
Refuses s call Memory = PassesAll s call

-- what is set of list l; what a fresh list has where there is no list l
abbrev pub conf_shown : StoreState → ℕ → Configuration
conf_shown s l =
    unwrap_or (option_map (λ x. x.conf) (slice_get s.lists l)) (fresh_conf s.profile.form)

-- the same, in the form of the store's packets: so it is in every store
abbrev pub conf_of : StoreState → ℕ → Configuration
conf_of s l = record (conf_shown s l) { form = s.profile.form }

-- list l exists and runs, exists and is selected
abbrev pub shows_running : StoreState → ℕ → Bool
shows_running s l = unwrap_or (option_map (λ x. x.running) (slice_get s.lists l)) false

abbrev pub shows_selected : StoreState → ℕ → Bool
shows_selected s l = unwrap_or (option_map (λ x. x.selected) (slice_get s.lists l)) false

-- the ODTs of a list
abbrev pub odts_of : ListState → ℕ
odts_of x = length x.conf.odts

-- the ODTs of the lists before l
abbrev pub odts_shown : StoreState → ℕ → ℕ
odts_shown s l = sum_by odts_of (take l s.lists)

-- FIRST_PID of list l
abbrev pub first_pid_of : StoreState → ℕ → ℕ
first_pid_of s l = first_pid_behind s.profile.form.id (odts_shown s l)

-- FIRST_PID of list l after some calls, if there is one, in a store whose packets have this form
abbrev pub first_pid_after : PacketForm → List Command → ℕ → Option ℕ
first_pid_after form calls l =
    if is_list calls l then Some (first_pid_behind form.id (odts_before calls l)) else None

-- a list that runs is ready
abbrev pub RunsReady : List Segment → ListState → Type 0
RunsReady segments x = x.running ≡ true → is_ready segments x.conf ≡ true

-- the mode of a list, if one was set, names one of so many event channels
abbrev pub HasChannel : ℕ → ListState → Type 0
HasChannel channels x = IfSome x.conf.mode (λ mode. mode.channel < channels)

-- a list has at most so many ODTs
abbrev pub HasFew : ℕ → ListState → Type 0
HasFew most x = length x.conf.odts ≤ most

-- the packets of a list have this form
abbrev pub HasForm : PacketForm → ListState → Type 0
HasForm form x = x.conf.form ≡ form

-- the place is that of an entry
abbrev pub IsAtEntry : StoreState → ℕ × ℕ × ℕ → Type 0
IsAtEntry s p = p.2 < length (odt_entries (conf_of s p.0) p.1)

-- what every store keeps to
pub record IsStore (s : StoreState) : Type 0 where
  pub channels : (1 ≤ s.profile.channels) × (s.profile.channels ≤ MAX_CHANNELS)
  pub segments : AreWithin s.profile.segments
  pub few_odts : s.profile.most_odts ≤ MAX_ODTS_IN_ALL
  pub form_is : IsForm s.profile.form
  pub lists : length s.lists ≤ MAX_LISTS
  pub odts : sum_by odts_of s.lists ≤ most_odts s.profile.form.id
  pub few : All (HasFew s.profile.most_odts) s.lists
  pub forms : All (HasForm s.profile.form) s.lists
  pub modes : All (HasChannel s.profile.channels) s.lists
  pub running : All (RunsReady s.profile.segments) s.lists
  pub pointer : IfSome s.pointer (IsAtEntry s)
