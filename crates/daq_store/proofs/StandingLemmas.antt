-- What a store shows is what is read off the calls that it stands after.
use Rattle.std.proofs.Common.{inl, inr, slice_get, unwrap_or, option_map, suc, Some, None, nat_lt, [], Option, ◌≡◌, ℕ, ◌<◌, ◌≤◌, Bool, true, false, ◌&&◌, List, length, get_or, take, sum_by, refl, sym, ◌∙◌, ◌↔◌, ap, arith, zero-add, All}
use Rattle.std.specs.List.{list_any}
use Rattle.std.proofs.lemmas.List.FromFn.{length-map-range_with_len, get_or-map-range_with_len, take-map-range_with_len}
use Rattle.std.proofs.lemmas.Option.{slice_get-get_or, slice_get_past}
use Rattle.std.proofs.lemmas.Bool.Decides.{leb_tells}
use Rattle.std.proofs.lemmas.List.Sums.{sum_by_more_le}
use Rattle.std.proofs.lemmas.List.Elements.{All-get_or}
use Rattle.xcp_base.specs.declared.packet_form.PacketForm.{PacketForm}
use Rattle.xcp_base.specs.Forms.{FitsFirstPid, first_pid_behind}
use Rattle.xcp_base.proofs.FormLemmas.{fits_behind}
use Rattle.daq_store.specs.declared.command.Command.{Command}
use Rattle.daq_store.specs.declared.entry.Entry.{Entry}
use Rattle.daq_store.specs.declared.list_state.ListState.{ListState}
use Rattle.daq_store.specs.Calls.{numbers_below}
use Rattle.daq_store.specs.Shape.{list_count, odt_count, entry_count, is_list, has_odt, has_entry, odts_before}
use Rattle.daq_store.specs.Entries.{odt_of, last_write}
use Rattle.daq_store.specs.Running.{is_active, is_chosen, any_list}
use Rattle.daq_store.specs.Configuration.{configuration, fresh_conf, odt_entries, is_ready, list_is_ready}
use Rattle.daq_store.specs.Standing.{IsStore, StoreState, StoreStandsAfter, list_after, conf_of, shows_running, shows_selected, odts_of, odts_shown, first_pid_of, first_pid_after, HasForm}
use Rattle.daq_store.specs.Inner.Effects.{fresh_state, shows_list, shows_odt, shows_entry}
use Rattle.daq_store.proofs.TableLemmas.{list_any-map, sum_by-map, sum_by-same, and_left, and_right, below_from, below_is}

-- the number of lists
pub count_stands : (s : StoreState) (calls : List Command) → StoreStandsAfter s calls → length s.lists ≡ list_count calls
count_stands s calls h = ap length h.lists ∙ length-map-range_with_len (list_after s.profile.form calls) 0 (list_count calls)

-- a test of some list
pub any_stands : (s : StoreState) (calls : List Command) (test : ListState → Bool) → StoreStandsAfter s calls
    → any_list calls (λ l. test (list_after s.profile.form calls l)) ≡ list_any test s.lists
any_stands s calls test h = sym (ap (list_any test) h.lists ∙ list_any-map test (list_after s.profile.form calls) (numbers_below (list_count calls)))

-- the ODTs of the lists before one
pub odts_stand : (s : StoreState) (calls : List Command) (l : ℕ) → StoreStandsAfter s calls → l ≤ list_count calls
    → odts_shown s l ≡ odts_before calls l
odts_stand s calls l h inside =
    ap (λ xs. sum_by odts_of (take l xs)) h.lists
    ∙ ap (sum_by odts_of) (take-map-range_with_len (list_after s.profile.form calls) 0 (list_count calls) l inside)
    ∙ sum_by-map odts_of (list_after s.profile.form calls) (numbers_below l)
    ∙ sum_by-same (λ x. odts_of (list_after s.profile.form calls x)) (odt_count calls) (numbers_below l)
    (λ x. length-map-range_with_len (odt_of calls x) 0 (odt_count calls x))

-- FIRST_PID of a list
pub first_pid_stands : (s : StoreState) (calls : List Command) (l : ℕ) → StoreStandsAfter s calls → l ≤ list_count calls
    → first_pid_of s l ≡ first_pid_behind s.profile.form.id (odts_before calls l)
first_pid_stands s calls l h inside = ap (first_pid_behind s.profile.form.id) (odts_stand s calls l h inside)

-- the list at a place
pub get_stands : (s : StoreState) (calls : List Command) (l : ℕ) (d : ListState) → StoreStandsAfter s calls → l < list_count calls
    → get_or s.lists l d ≡ list_after s.profile.form calls l
get_stands s calls l d h inside =
    ap (λ xs. get_or xs l d) h.lists ∙ get_or-map-range_with_len (list_after s.profile.form calls) 0 (list_count calls) l l d inside (zero-add l)

pub is_list_stands : (s : StoreState) (calls : List Command) (l : ℕ) → StoreStandsAfter s calls → is_list calls l ≡ shows_list s l
is_list_stands s calls l h = ap (nat_lt l) (sym (count_stands s calls h))

-- what is shown of a list, at a place that is there, and past the last
pub at_stands : (s : StoreState) (calls : List Command) (l : ℕ) → StoreStandsAfter s calls → l < list_count calls
    → slice_get s.lists l ≡ Some (list_after s.profile.form calls l)
at_stands s calls l h inside =
    let long : l < length s.lists = rw (count_stands s calls h) inside in
    slice_get-get_or s.lists l (fresh_state s.profile.form) long ∙ ap Some (get_stands s calls l (fresh_state s.profile.form) h inside)

past_stands : (s : StoreState) (calls : List Command) (l : ℕ) → StoreStandsAfter s calls → list_count calls ≤ l
    → slice_get s.lists l ≡ None
past_stands s calls l h past =
    let long : length s.lists ≤ l = rw (count_stands s calls h) past in
    slice_get_past s.lists l long

pub conf_stands : (s : StoreState) (calls : List Command) (l : ℕ) → StoreStandsAfter s calls → l < list_count calls
    → conf_of s l ≡ configuration s.profile.form calls l
conf_stands s calls l h inside =
    ap (λ (o : Option ListState). record (unwrap_or (option_map (λ x. x.conf) o) (fresh_conf s.profile.form)) { form = s.profile.form }) (at_stands s calls l h inside)

-- whether a list runs, whether it is selected
pub active_stands : (s : StoreState) (calls : List Command) (l : ℕ) → StoreStandsAfter s calls → is_active calls l ≡ shows_running s l
active_stands s calls l h = elim (leb_tells (suc l) (list_count calls)) [
  | inl here ↦ rw here.0 (sym (ap (λ (o : Option ListState). unwrap_or (option_map (λ x. x.running) o) false) (at_stands s calls l h here.1)))
  | inr past ↦ rw past.0 (sym (ap (λ (o : Option ListState). unwrap_or (option_map (λ x. x.running) o) false) (past_stands s calls l h (omega arith))))
]

pub chosen_stands : (s : StoreState) (calls : List Command) (l : ℕ) → StoreStandsAfter s calls → is_chosen calls l ≡ shows_selected s l
chosen_stands s calls l h = elim (leb_tells (suc l) (list_count calls)) [
  | inl here ↦ rw here.0 (sym (ap (λ (o : Option ListState). unwrap_or (option_map (λ x. x.selected) o) false) (at_stands s calls l h here.1)))
  | inr past ↦ rw past.0 (sym (ap (λ (o : Option ListState). unwrap_or (option_map (λ x. x.selected) o) false) (past_stands s calls l h (omega arith))))
]

-- the entries of an ODT, where there is one, and past the last
pub odt_within : (f : PacketForm) (calls : List Command) (l k : ℕ) → k < odt_count calls l → odt_entries (configuration f calls l) k ≡ odt_of calls l k
odt_within f calls l k here =
    let long : k < length (configuration f calls l).odts = rw (length-map-range_with_len (odt_of calls l) 0 (odt_count calls l)) here in
    ap (λ (o : Option (List (Option Entry))). unwrap_or o [])
    (slice_get-get_or (configuration f calls l).odts k [] long
    ∙ ap Some (get_or-map-range_with_len (odt_of calls l) 0 (odt_count calls l) k k [] here (zero-add k)))

odt_past : (f : PacketForm) (calls : List Command) (l k : ℕ) → odt_count calls l ≤ k → odt_entries (configuration f calls l) k ≡ []
odt_past f calls l k past =
    let short : length (configuration f calls l).odts ≤ k = rw (length-map-range_with_len (odt_of calls l) 0 (odt_count calls l)) past in
    ap (λ (o : Option (List (Option Entry))). unwrap_or o []) (slice_get_past (configuration f calls l).odts k short)

-- no number is below 0
none_below : (e : ℕ) → nat_lt e 0 ≡ false
none_below e = elim (leb_tells (suc e) 0) [ inl h ↦ absurd (omega (arith, h.1)) | inr h ↦ h.0 ]

-- there is such an ODT
pub has_odt_stands : (s : StoreState) (calls : List Command) (l k : ℕ) → StoreStandsAfter s calls → has_odt calls l k ≡ shows_odt s l k
has_odt_stands s calls l k h = elim (leb_tells (suc l) (list_count calls)) [
  | inl here ↦
      let len : length (conf_of s l).odts ≡ odt_count calls l
      = ap (λ c. length c.odts) (conf_stands s calls l h here.1) ∙ length-map-range_with_len (odt_of calls l) 0 (odt_count calls l) in
      rw (here.0, len) refl
  | inr past ↦
      let none : slice_get s.lists l ≡ None = past_stands s calls l h (omega arith) in
      rw (past.0, none) (sym (none_below k))
]

-- there is such an entry
entry_within : (f : PacketForm) (calls : List Command) (l k e : ℕ)
    → (nat_lt k (odt_count calls l) && nat_lt e (entry_count calls l k)) ≡ nat_lt e (length (odt_entries (configuration f calls l) k))
entry_within f calls l k e = elim (leb_tells (suc k) (odt_count calls l)) [
  | inl here ↦
      let len : length (odt_entries (configuration f calls l) k) ≡ entry_count calls l k
      = ap length (odt_within f calls l k here.1) ∙ length-map-range_with_len (last_write calls l k) 0 (entry_count calls l k) in
      rw (here.0, len) refl
  | inr past ↦
      let none : odt_entries (configuration f calls l) k ≡ [] = odt_past f calls l k (omega arith) in
      rw (past.0, none) (sym (none_below e))
]

pub has_entry_stands : (s : StoreState) (calls : List Command) (l k e : ℕ) → StoreStandsAfter s calls
    → has_entry calls l k e ≡ shows_entry s l k e
has_entry_stands s calls l k e h = elim (leb_tells (suc l) (list_count calls)) [
  | inl here ↦
      let entries : odt_entries (conf_of s l) k ≡ odt_entries (configuration s.profile.form calls l) k
      = ap (λ c. odt_entries c k) (conf_stands s calls l h here.1) in
      ap (λ b. b && nat_lt k (odt_count calls l) && nat_lt e (entry_count calls l k)) here.0
      ∙ entry_within s.profile.form calls l k e ∙ ap (λ es. nat_lt e (length es)) (sym entries)
  | inr past ↦
      let none : slice_get s.lists l ≡ None = past_stands s calls l h (omega arith) in
      rw (past.0, none) (sym (none_below e))
]

-- an entry is of a list that is there
pub list_inside : (s : StoreState) (l k e : ℕ) → shows_entry s l k e ≡ true → l < length s.lists
list_inside s l k e shown = elim (leb_tells (suc l) (length s.lists)) [
  | inl here ↦ here.1
  | inr past ↦
      let none : slice_get s.lists l ≡ None = slice_get_past s.lists l (omega (arith, past.1)) in
      let empty : shows_entry s l k e ≡ nat_lt e 0 = rw none refl in
      let bad : true ≡ false = sym shown ∙ empty ∙ none_below e in
      absurd (cc)
]

-- FIRST_PID, where there is such a list, and past the last
pub first_pid_here : (s : StoreState) (calls : List Command) (l : ℕ) → StoreStandsAfter s calls → l < length s.lists
    → first_pid_after s.profile.form calls l ≡ Some (first_pid_of s l)
first_pid_here s calls l h inside =
    let here : l < list_count calls = rw (count_stands s calls h) at inside in
    let pid : first_pid_of s l ≡ first_pid_behind s.profile.form.id (odts_before calls l) = first_pid_stands s calls l h (omega arith) in
    elim (leb_tells (suc l) (list_count calls)) [
      | inl t ↦ rw (t.0, pid) refl
      | inr past ↦ absurd (omega (arith, past.1))
    ]

pub first_pid_past : (s : StoreState) (calls : List Command) (l : ℕ) → StoreStandsAfter s calls → length s.lists ≤ l
    → first_pid_after s.profile.form calls l ≡ None
first_pid_past s calls l h past =
    let short : list_count calls ≤ l = rw (count_stands s calls h) at past in
    elim (leb_tells (suc l) (list_count calls)) [
      | inl t ↦ absurd (omega (arith, t.1))
      | inr t ↦ rw t.0 refl
    ]

-- a list at a place has the store's form
form_at : (s : StoreState) (l : ℕ) (x : ListState) → All (HasForm s.profile.form) s.lists → l < length s.lists → x ≡ get_or s.lists l x → x.conf.form ≡ s.profile.form
form_at s l x forms inside is =
    let there : HasForm s.profile.form (get_or s.lists l x) = All-get_or (HasForm s.profile.form) s.lists l x inside forms in
    ap (λ (y : ListState). y.conf.form) is ∙ there

-- what is shown of a list at a place, and past the last
pub conf_at : (s : StoreState) (l : ℕ) (x : ListState) → All (HasForm s.profile.form) s.lists → l < length s.lists → x ≡ get_or s.lists l x → x.conf ≡ conf_of s l
conf_at s l x forms inside is =
    let got : slice_get s.lists l ≡ Some x = slice_get-get_or s.lists l x inside ∙ ap Some (sym is) in
    let own : x.conf ≡ record x.conf { form = s.profile.form } = ap (λ f. record x.conf { form = f }) (form_at s l x forms inside is) in
    own ∙ ap (λ (o : Option ListState). record (unwrap_or (option_map (λ y. y.conf) o) (fresh_conf s.profile.form)) { form = s.profile.form }) (sym got)

pub running_at : (s : StoreState) (l : ℕ) (x : ListState) → l < length s.lists → x ≡ get_or s.lists l x → x.running ≡ shows_running s l
running_at s l x inside is =
    let got : slice_get s.lists l ≡ Some x = slice_get-get_or s.lists l x inside ∙ ap Some (sym is) in
    rw got refl

-- the ODTs of a list and of those before it are no more than there may be
pub room : (s : StoreState) (l : ℕ) → IsStore s → l < length s.lists → FitsFirstPid s.profile.form.id (length (conf_of s l).odts) (first_pid_of s l)
room s l store inside =
    let fresh : ListState = fresh_state s.profile.form in
    let own : length (conf_of s l).odts ≡ odts_of (get_or s.lists l fresh)
    = ap (λ (o : Option ListState). length (unwrap_or (option_map (λ x. x.conf) o) (fresh_conf s.profile.form)).odts) (slice_get-get_or s.lists l fresh inside) in
    fits_behind s.profile.form.id (odts_shown s l) (length (conf_of s l).odts) (omega (arith, own, sum_by_more_le odts_of s.lists l fresh inside, store.odts))

-- a list that is there and ready
pub ready_stands : (s : StoreState) (calls : List Command) (l : ℕ) → StoreStandsAfter s calls → l < length s.lists
    → list_is_ready s.profile calls l ≡ is_ready s.profile.segments (conf_of s l)
ready_stands s calls l h inside =
    let here : l < list_count calls = rw (count_stands s calls h) at inside in
    ap (is_ready s.profile.segments) (sym (conf_stands s calls l h here))

-- what is set of a list that is there
pub conf_after : (s : StoreState) (calls : List Command) (l : ℕ) → StoreStandsAfter s calls → l < length s.lists → conf_of s l ≡ configuration s.profile.form calls l
conf_after s calls l h inside =
    let here : l < list_count calls = rw (count_stands s calls h) at inside in
    conf_stands s calls l h here

-- there is a list l and it is ready, on what the store shows
abbrev pub IsReadyAt : StoreState → ℕ → Type 0
IsReadyAt s l = (l < length s.lists) × (is_ready s.profile.segments (conf_of s l) ≡ true)

-- what holds exactly there holds exactly where the list is there and ready after the calls
pub ready_after : (s : StoreState) (calls : List Command) (l : ℕ) {P : Type 0} → StoreStandsAfter s calls → P ↔ IsReadyAt s l
    → P ↔ ((is_list calls l && list_is_ready s.profile calls l) ≡ true)
ready_after s calls l h at = (
  λ p.
      let ready : IsReadyAt s l = at.0 p in
      let there : is_list calls l ≡ true = is_list_stands s calls l h ∙ below_is l (length s.lists) ready.0 in
      rw (there, ready_stands s calls l h ready.0) ready.1,
  λ both.
      let there : shows_list s l ≡ true = sym (is_list_stands s calls l h) ∙ and_left _ _ both in
      let inside : l < length s.lists = below_from _ _ there in
      at.1 (inside, sym (ready_stands s calls l h inside) ∙ and_right _ _ both),
)
