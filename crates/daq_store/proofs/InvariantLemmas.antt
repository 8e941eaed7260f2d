-- What every store keeps to, after a change of one list or of all.
use Rattle.std.proofs.Common.{inl, inr, nat_lt, not, if◌then◌else◌, Some, None, [], Option, ◌≡◌, ℕ, suc, zero, ◌+◌, ◌<◌, ◌==◌, Bool, true, false, ◌&&◌, ◌||◌, List, ◌∷◌, length, get_or, set, map, refl, sym, ◌∙◌, ap, arith, slice_get, unwrap_or, option_map, sum_by, subst, All, IfSome}
use Rattle.std.specs.List.{list_any}
use Rattle.std.proofs.lemmas.Simd.{map-map}
use Rattle.std.proofs.lemmas.List.{length-set, length-map, length-replicate, get_or-map, get_or-set_same}
use Rattle.std.proofs.Math.Seq.{map-set_same}
use Rattle.std.proofs.lemmas.List.Folds.{list_any_at}
use Rattle.std.proofs.lemmas.List.Sums.{sum_by-set}
use Rattle.std.proofs.lemmas.Option.{slice_get_past, unwrap_or-slice_get}
use Rattle.std.proofs.lemmas.Bool.Decides.{leb_tells, eqb_tells}
use Rattle.std.proofs.lemmas.List.Elements.{All-set, All-map, All-get_or, All-replicate}
use Rattle.xcp_base.specs.declared.packet_form.PacketForm.{PacketForm}
use Rattle.segments.specs.declared.segment.Segment.{Segment}
use Rattle.daq_store.specs.declared.entry.Entry.{Entry}
use Rattle.daq_store.specs.declared.mode.Mode.{Mode}
use Rattle.daq_store.specs.declared.list_state.ListState.{ListState}
use Rattle.daq_store.specs.Configuration.{Configuration, IsEntry, IsOdt, IsWithinLimits, fresh_conf, odt_entries, is_ready}
use Rattle.daq_store.specs.Standing.{StoreState, IsStore, IsAtEntry, HasChannel, HasFew, HasForm, RunsReady, conf_of, odts_of}
use Rattle.daq_store.specs.Inner.Effects.{with_mode, with_entry, unwritten, cleared, start_stopped, synched, is_unready}
use Rattle.daq_store.proofs.TableLemmas.{sum_by-map, below_from}
use Rattle.daq_store.proofs.StandingLemmas.{conf_at}

-- the ODTs of a list
abbrev all_odts : ListState → List (List (Option Entry))
all_odts x = x.conf.odts

odts_at : (f : PacketForm) (xs : List ListState) (l : ℕ)
    → (unwrap_or (option_map (λ x. x.conf) (slice_get xs l)) (fresh_conf f)).odts ≡ get_or (map all_odts xs) l []
odts_at f [] zero = refl
odts_at f [] (suc l) = refl
odts_at f (x ∷ xs) zero = refl
odts_at f (x ∷ xs) (suc l) = odts_at f xs l

-- the entry at a place stays, where the ODTs do
at_kept : (s t : StoreState) (p : ℕ × ℕ × ℕ) → map all_odts t.lists ≡ map all_odts s.lists → IsAtEntry s p → IsAtEntry t p
at_kept s t p same h =
    let odts : (conf_of t p.0).odts ≡ (conf_of s p.0).odts
    = odts_at t.profile.form t.lists p.0 ∙ ap (λ xs. get_or xs p.0 []) same ∙ sym (odts_at s.profile.form s.lists p.0) in
    rw (ap (λ (xs : List (List (Option Entry))). length (unwrap_or (slice_get xs p.1) [])) odts) h

pointer_kept : (s t : StoreState) (o : Option (ℕ × ℕ × ℕ)) → map all_odts t.lists ≡ map all_odts s.lists
    → IfSome o (IsAtEntry s) → IfSome o (IsAtEntry t)
pointer_kept s t None same h = tt
pointer_kept s t (Some p) same h = at_kept s t p same h

-- no list has more ODTs, where the ODTs of all are the same
few_kept : (most : ℕ) (xs ys : List ListState) → map all_odts ys ≡ map all_odts xs → All (HasFew most) xs → All (HasFew most) ys
few_kept most xs ys same h = λ k d inside.
    let len : length ys ≡ length xs = sym (length-map ys all_odts) ∙ ap length same ∙ length-map xs all_odts in
    let there : k < length xs = rw (sym len) inside in
    let odts : all_odts (get_or ys k d) ≡ all_odts (get_or xs k d)
    = sym (get_or-map all_odts ys k d [] inside) ∙ ap (λ zs. get_or zs k []) same ∙ get_or-map all_odts xs k d [] there in
    rw (ap length odts) (h k d there)

-- nor after a change of one list that keeps their number
few_set : (s : StoreState) (l : ℕ) (x y : ListState) → IsStore s → l < length s.lists → x ≡ get_or s.lists l x
    → odts_of y ≡ odts_of x → All (HasFew s.profile.most_odts) (set s.lists l y)
few_set s l x y h inside is same =
    let was : HasFew s.profile.most_odts (get_or s.lists l x) = All-get_or (HasFew s.profile.most_odts) s.lists l x inside h.few in
    let own : HasFew s.profile.most_odts y = rw (same ∙ ap odts_of is) was in
    All-set (HasFew s.profile.most_odts) s.lists l y own h.few

-- the lists are others with the same ODTs, and those that run are ready
pub same_odts_keep : (s : StoreState) (ys : List ListState) → IsStore s → map all_odts ys ≡ map all_odts s.lists
    → All (HasForm s.profile.form) ys → All (HasChannel s.profile.channels) ys → All (RunsReady s.profile.segments) ys
    → IsStore (record s { lists = ys })
same_odts_keep s ys h same forms modes runs =
    let len : length ys ≡ length s.lists = sym (length-map ys all_odts) ∙ ap length same ∙ length-map s.lists all_odts in
    let total : sum_by odts_of ys ≡ sum_by odts_of s.lists
    = sym (sum_by-map length all_odts ys) ∙ ap (sum_by length) same ∙ sum_by-map length all_odts s.lists in
    record {
      channels = h.channels;
      segments = h.segments;
      few_odts = h.few_odts;
      form_is = h.form_is;
      lists = rw len h.lists;
      odts = rw total h.odts;
      few = few_kept s.profile.most_odts s.lists ys same h.few;
      forms = forms;
      modes = modes;
      running = runs;
      pointer = pointer_kept s (record s { lists = ys }) s.pointer same h.pointer;
    }

-- all lists have the store's form after a change of one that keeps its form
pub forms_set : (s : StoreState) (l : ℕ) (x y : ListState) → IsStore s → l < length s.lists → x ≡ get_or s.lists l x
    → y.conf.form ≡ x.conf.form → All (HasForm s.profile.form) (set s.lists l y)
forms_set s l x y h inside is same =
    let was : HasForm s.profile.form (get_or s.lists l x) = All-get_or (HasForm s.profile.form) s.lists l x inside h.forms in
    let own : HasForm s.profile.form y = same ∙ ap (λ (z : ListState). z.conf.form) is ∙ was in
    All-set (HasForm s.profile.form) s.lists l y own h.forms

-- the mode of each list names a channel of the store after a change of one that keeps its mode
pub modes_set : (s : StoreState) (l : ℕ) (x y : ListState) → IsStore s → l < length s.lists → x ≡ get_or s.lists l x
    → y.conf.mode ≡ x.conf.mode → All (HasChannel s.profile.channels) (set s.lists l y)
modes_set s l x y h inside is same =
    let was : HasChannel s.profile.channels (get_or s.lists l x) = All-get_or (HasChannel s.profile.channels) s.lists l x inside h.modes in
    let here : y.conf.mode ≡ (get_or s.lists l x).conf.mode = same ∙ ap (λ (z : ListState). z.conf.mode) is in
    let own : HasChannel s.profile.channels y = subst (λ (o : Option Mode). IfSome o (λ mode. mode.channel < s.profile.channels)) (sym here) was in
    All-set (HasChannel s.profile.channels) s.lists l y own h.modes

-- one list is another with the same ODTs and the same form
one_kept : (s : StoreState) (l : ℕ) (x y : ListState) → IsStore s → l < length s.lists → x ≡ get_or s.lists l x
    → RunsReady s.profile.segments y → all_odts y ≡ all_odts x → y.conf.form ≡ x.conf.form → All (HasChannel s.profile.channels) (set s.lists l y)
    → IsStore (record s { lists = set s.lists l y })
one_kept s l x y h inside is runs odts form modes =
    same_odts_keep s (set s.lists l y) h (map-set_same all_odts s.lists l y x (odts ∙ ap all_odts is))
    (forms_set s l x y h inside is form)
    modes
    (All-set (RunsReady s.profile.segments) s.lists l y runs h.running)

-- a list that doesn't run is as good as ready
stopped_is_ready : (segments : List Segment) (x : ListState) → x.running ≡ false → RunsReady segments x
stopped_is_ready segments x stopped = λ runs. let bad : true ≡ false = sym runs ∙ stopped in cc

-- SET_DAQ_LIST_MODE
pub mode_keeps : (s : StoreState) (l : ℕ) (x : ListState) (mode : Mode) → IsStore s → l < length s.lists → x ≡ get_or s.lists l x → x.running ≡ false → mode.channel < s.profile.channels
    → IsStore (record s { lists = set s.lists l (with_mode x mode) })
mode_keeps s l x mode h inside is stopped there =
    one_kept s l x (with_mode x mode) h inside is (stopped_is_ready s.profile.segments (with_mode x mode) stopped) refl refl
    (All-set (HasChannel s.profile.channels) s.lists l (with_mode x mode) there h.modes)

-- the pointer is at the next entry, if there is one
next_is_there : (s : StoreState) (l k e : ℕ) (b : Bool) → (b ≡ true → IsAtEntry s (l, k, e + 1))
    → IfSome (if b then Some (l, k, e + 1) else None) (IsAtEntry s)
next_is_there s l k e true h = h refl
next_is_there s l k e false h = tt

-- READ_DAQ: the pointer moves on
pub moved_keeps : (s : StoreState) (l k e : ℕ) (x : ListState) → IsStore s → l < length s.lists → x ≡ get_or s.lists l x
    → IsStore (record s { pointer = if nat_lt (e + 1) (length (odt_entries x.conf k)) then Some (l, k, e + 1) else None })
moved_keeps s l k e x h inside is =
    let conf : x.conf ≡ conf_of s l = conf_at s l x h.forms inside is in
    let len : length (odt_entries (conf_of s l) k) ≡ length (odt_entries x.conf k) = ap (λ c. length (odt_entries c k)) (sym conf) in
    record {
      channels = h.channels;
      segments = h.segments;
      few_odts = h.few_odts;
      form_is = h.form_is;
      lists = h.lists;
      odts = h.odts;
      few = h.few;
      forms = h.forms;
      modes = h.modes;
      running = h.running;
      pointer = next_is_there s l k e (nat_lt (e + 1) (length (odt_entries x.conf k))) (λ more. rw len (below_from _ _ more));
    }

-- what is set of a list without its mode and the values of its entries
pub unset_keeps : (x : Configuration) → IsWithinLimits x → IsWithinLimits (record x { mode = None; odts = map unwritten x.odts })
unset_keeps x h = record {
  mode = tt;
  form = h.form;
  count = rw (length-map x.odts unwritten) h.count;
  odts = All-map IsOdt unwritten x.odts (λ k d inside.
      let odt : List (Option Entry) = get_or x.odts k d in
      record {
        count = rw (length-replicate {A = Option Entry} (length odt) None) (h.odts k d inside).count;
        sizes = All-replicate IsEntry (length odt) None tt;
      });
}

-- CLEAR_DAQ_LIST: as many ODTs, no mode, and the list doesn't run
pub clear_keeps : (s : StoreState) (l : ℕ) (x : ListState) → IsStore s → l < length s.lists → x ≡ get_or s.lists l x
    → IsStore (record s { lists = set s.lists l (cleared x); pointer = None })
clear_keeps s l x h inside is =
    let y : ListState = cleared x in
    let own : odts_of y ≡ odts_of x = length-map x.conf.odts unwritten in
    let got : odts_of (get_or s.lists l x) ≡ odts_of x = ap odts_of (sym is) in
    record {
      channels = h.channels;
      segments = h.segments;
      few_odts = h.few_odts;
      form_is = h.form_is;
      lists = rw (length-set s.lists l y) h.lists;
      odts = omega (arith, sum_by-set odts_of s.lists l y x inside, own, got, h.odts);
      few = few_set s l x y h inside is own;
      forms = forms_set s l x y h inside is refl;
      modes = All-set (HasChannel s.profile.channels) s.lists l y tt h.modes;
      running = All-set (RunsReady s.profile.segments) s.lists l y (stopped_is_ready s.profile.segments y refl) h.running;
      pointer = tt;
    }

-- START_STOP_DAQ_LIST
started_ready : (select start run ready : Bool) → (run ≡ true → ready ≡ true) → (start && not ready) ≡ false
    → (if select then run else start) ≡ true → ready ≡ true
started_ready true start run ready was starts runs = was runs
started_ready false true run true was starts runs = refl
started_ready false true run false was starts runs = cc
started_ready false false run ready was starts runs = cc

pub start_stop_keeps : (s : StoreState) (l mode : ℕ) (x : ListState) → IsStore s → l < length s.lists → x ≡ get_or s.lists l x
    → (mode == 1 && not (is_ready s.profile.segments x.conf)) ≡ false
    → IsStore (record s { lists = set s.lists l (start_stopped mode x) })
start_stop_keeps s l mode x h inside is starts =
    let ready : Bool = is_ready s.profile.segments x.conf in
    let was : RunsReady s.profile.segments (get_or s.lists l x) = All-get_or (RunsReady s.profile.segments) s.lists l x inside h.running in
    let was_ready : RunsReady s.profile.segments x = subst (RunsReady s.profile.segments) (sym is) was in
    one_kept s l x (start_stopped mode x) h inside is (started_ready (mode == 2) (mode == 1) x.running ready was_ready starts) refl refl
    (modes_set s l x (start_stopped mode x) h inside is refl)

-- START_STOP_SYNCH
synched_ready : (all start chosen run ready : Bool) → (all && start) ≡ false → (run ≡ true → ready ≡ true)
    → (start && (chosen && not ready)) ≡ false → (if all || chosen then start else run) ≡ true → ready ≡ true
synched_ready true true chosen run ready one was starts runs = cc
synched_ready true false chosen run ready one was starts runs = cc
synched_ready false start false run ready one was starts runs = was runs
synched_ready false true true run true one was starts runs = refl
synched_ready false true true run false one was starts runs = cc
synched_ready false false true run ready one was starts runs = cc

not_both : (mode : ℕ) → (mode == 0 && mode == 1) ≡ false
not_both mode = elim (eqb_tells mode 0) [ inl is ↦ rw is.1 refl | inr other ↦ rw other.0 refl ]

-- the test fails of each list, where it fails of some
none_at : (start here some : Bool) → (start && some) ≡ false → (here ≡ true → some ≡ true) → (start && here) ≡ false
none_at false here some h up = refl
none_at true false some h up = refl
none_at true true some h up = sym (up refl) ∙ h

none_of : (start : Bool) (test : ListState → Bool) (xs : List ListState) → (start && list_any test xs) ≡ false
    → All (λ x. (start && test x) ≡ false) xs
none_of start test xs h = λ k d inside.
    none_at start (test (get_or xs k d)) (list_any test xs) h (λ here. list_any_at test xs k d inside here)

pub synch_keeps : (s : StoreState) (mode : ℕ) → IsStore s
    → (mode == 1 && list_any (is_unready s.profile.segments) s.lists) ≡ false
    → IsStore (record s { lists = map (synched mode) s.lists })
synch_keeps s mode h starts =
    let none = none_of (mode == 1) (is_unready s.profile.segments) s.lists starts in
    same_odts_keep s (map (synched mode) s.lists) h (map-map all_odts (synched mode) s.lists)
    (All-map (HasForm s.profile.form) (synched mode) s.lists h.forms)
    (All-map (HasChannel s.profile.channels) (synched mode) s.lists h.modes)
    (All-map (RunsReady s.profile.segments) (synched mode) s.lists
    (λ k d inside.
    let x : ListState = get_or s.lists k d in
    let was : RunsReady s.profile.segments x = h.running k d inside in
    synched_ready (mode == 0) (mode == 1) x.selected x.running (is_ready s.profile.segments x.conf) (not_both mode) was (none k d inside)))

-- WRITE_DAQ
set_here : (xs : List (List (Option Entry))) (k : ℕ) (v : List (Option Entry)) → k < length xs → unwrap_or (slice_get (set xs k v) k) [] ≡ v
set_here xs k v inside = unwrap_or-slice_get (set xs k v) k [] ∙ get_or-set_same xs k v [] inside

odt_inside : (xs : List (List (Option Entry))) (k e : ℕ) → e < length (unwrap_or (slice_get xs k) []) → k < length xs
odt_inside xs k e h = elim (leb_tells (suc k) (length xs)) [
  | inl here ↦ here.1
  | inr past ↦
      let none : slice_get xs k ≡ None = slice_get_past xs k (omega (arith, past.1)) in
      let empty : length (unwrap_or (slice_get xs k) []) ≡ 0 = ap (λ (o : Option (List (Option Entry))). length (unwrap_or o [])) none in
      absurd (omega (arith, h, empty))
]

pub entry_keeps : (s : StoreState) (l k e : ℕ) (x : ListState) (entry : Entry) → IsStore s → l < length s.lists → x ≡ get_or s.lists l x
    → x.running ≡ false → e < length (odt_entries x.conf k)
    → IsStore (record s {
      lists = set s.lists l (with_entry x k e entry);
      pointer = if nat_lt (e + 1) (length (odt_entries x.conf k)) then Some (l, k, e + 1) else None;
    })
entry_keeps s l k e x entry h inside is stopped there =
    let y : ListState = with_entry x k e entry in
    let xs : List ListState = set s.lists l y in
    let t : StoreState = record s { lists = xs } in
    let forms : All (HasForm s.profile.form) xs = forms_set s l x y h inside is refl in
    let long : l < length xs = rw (length-set s.lists l y) inside in
    let conf : y.conf ≡ conf_of t l = conf_at t l y forms long (sym (get_or-set_same s.lists l y y inside)) in
    let entries : odt_entries y.conf k ≡ set (odt_entries x.conf k) e (Some entry)
    = set_here x.conf.odts k (set (odt_entries x.conf k) e (Some entry)) (odt_inside x.conf.odts k e there) in
    let len : length (odt_entries (conf_of t l) k) ≡ length (odt_entries x.conf k)
    = ap (λ c. length (odt_entries c k)) (sym conf) ∙ ap length entries ∙ length-set (odt_entries x.conf k) e (Some entry) in
    let own : odts_of y ≡ odts_of x = length-set x.conf.odts k (set (odt_entries x.conf k) e (Some entry)) in
    let got : odts_of (get_or s.lists l x) ≡ odts_of x = ap odts_of (sym is) in
    record {
      channels = h.channels;
      segments = h.segments;
      few_odts = h.few_odts;
      form_is = h.form_is;
      lists = rw (length-set s.lists l y) h.lists;
      odts = omega (arith, sum_by-set odts_of s.lists l y x inside, own, got, h.odts);
      few = few_set s l x y h inside is own;
      forms = forms;
      modes = modes_set s l x y h inside is refl;
      running = All-set (RunsReady s.profile.segments) s.lists l y (stopped_is_ready s.profile.segments y stopped) h.running;
      pointer = next_is_there t l k e (nat_lt (e + 1) (length (odt_entries x.conf k))) (λ more. rw len (below_from _ _ more));
    }
