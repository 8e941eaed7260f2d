-- The store after each accepted call stands after the calls with this one.
use Rattle.std.proofs.Common.{not, if◌then◌else◌, Some, None, nat_lt, replicate, [], Option, ◌≡◌, ℕ, ◌+◌, ◌<◌, ◌==◌, Bool, true, false, List, ◌∷◌, length, set, map, refl, sym, ◌∙◌, ap, arith, option_and_then, slice_get, add-zero, zero-add}
use Rattle.std.proofs.lemmas.Simd.{map-map}
use Rattle.std.proofs.lemmas.Bool.{eq-eqb, ne_eqb}
use Rattle.std.proofs.lemmas.List.FromFn.{length-map-range_with_len, get_or-map-range_with_len}
use Rattle.std.proofs.lemmas.Option.{slice_get-get_or}
use Rattle.xcp_base.specs.declared.packet_form.PacketForm.{PacketForm}
use Rattle.daq_store.specs.declared.command.Command.{Command}
use Rattle.daq_store.specs.declared.command.Command.TheVariants.{AllocDaq, AllocOdt, AllocOdtEntry, SetDaqPtr, WriteDaq, SetDaqListMode, StartStopDaqList, StartStopSynch, ClearDaqList, ReadDaq}
use Rattle.daq_store.specs.declared.entry.Entry.{Entry}
use Rattle.daq_store.specs.declared.mode.Mode.{Mode}
use Rattle.daq_store.specs.declared.list_state.ListState.{ListState}
use Rattle.daq_store.specs.Calls.{numbers_below}
use Rattle.daq_store.specs.Shape.{list_count, odt_count, entry_count, has_odt, has_entry}
use Rattle.daq_store.specs.Pointer.{pointer, set_place, steps_since, entry_at}
use Rattle.daq_store.specs.Entries.{odt_of, last_write, pointed}
use Rattle.daq_store.specs.Modes.{mode_of, stamps}
use Rattle.daq_store.specs.Running.{is_running, is_selected}
use Rattle.daq_store.specs.Configuration.{configuration, entry_of, odt_entries}
use Rattle.daq_store.specs.Standing.{StoreState, StoreStandsAfter, conf_of, list_after}
use Rattle.daq_store.specs.Inner.Effects.{fresh_state, list_at, shows_odt, shows_entry, lists_put, odts_put, entries_put, entry_put, mode_put, start_stop_put, synch_put, with_odts, with_entries, with_mode, with_entry, unwritten, cleared, cleared_put, moved_on, start_stopped, synched}
use Rattle.daq_store.proofs.TableLemmas.{map-same, set-map_below, map-one, and_left, and_right, below_from}
use Rattle.daq_store.proofs.StandingLemmas.{conf_stands, count_stands, get_stands, odt_within, has_odt_stands, has_entry_stands}

-- two lists of calls show the same ODTs of list l
record SameOdts (a b : List Command) (l : ℕ) : Type 0 where
  odts : odt_count a l ≡ odt_count b l
  entries : (k : ℕ) → entry_count a l k ≡ entry_count b l k
  last_write : (k e : ℕ) → last_write a l k e ≡ last_write b l k e

odt_same : (a b : List Command) (l k : ℕ) → SameOdts a b l → odt_of a l k ≡ odt_of b l k
odt_same a b l k h =
    map-same (last_write a l k) (last_write b l k) (numbers_below (entry_count a l k)) (h.last_write k)
    ∙ ap (λ n. map (last_write b l k) (numbers_below n)) (h.entries k)

odts_same : (a b : List Command) (l : ℕ) → SameOdts a b l
    → map (odt_of a l) (numbers_below (odt_count a l)) ≡ map (odt_of b l) (numbers_below (odt_count b l))
odts_same a b l h =
    map-same (odt_of a l) (odt_of b l) (numbers_below (odt_count a l)) (λ k. odt_same a b l k h)
    ∙ ap (λ n. map (odt_of b l) (numbers_below n)) h.odts

-- two lists of calls show the same of list l
record SameOf (a b : List Command) (l : ℕ) : Type 0 where
  odts : SameOdts a b l
  mode : mode_of a l ≡ mode_of b l
  running : is_running a l ≡ is_running b l
  selected : is_selected a l ≡ is_selected b l

list_same : (f : PacketForm) (a b : List Command) (l : ℕ) → SameOf a b l → list_after f a l ≡ list_after f b l
list_same f a b l h =
    let odts : map (odt_of a l) (numbers_below (odt_count a l)) ≡ map (odt_of b l) (numbers_below (odt_count b l))
    = odts_same a b l h.odts in
    cc

-- the table after a call that changes list l alone
one_list : (s : StoreState) (calls : List Command) (call : Command) (l : ℕ) (x : ListState) → StoreStandsAfter s calls → l < length s.lists
    → (l < list_count calls → x ≡ list_after s.profile.form (call ∷ calls) l)
    → ((i : ℕ) → (l == i) ≡ false → SameOf calls (call ∷ calls) i)
    → set s.lists l x ≡ map (list_after s.profile.form (call ∷ calls)) (numbers_below (list_count calls))
one_list s calls call l x h inside is others =
    let here : l < list_count calls = rw (count_stands s calls h) at inside in
    ap (λ xs. set xs l x) h.lists
    ∙ ap (set (map (list_after s.profile.form calls) (numbers_below (list_count calls))) l) (is here)
    ∙ set-map_below (list_after s.profile.form calls) (list_after s.profile.form (call ∷ calls)) (list_count calls) l here
    (λ i _ other. list_same s.profile.form calls (call ∷ calls) i (others i (ne_eqb l i (λ e. other (sym e)))))

-- ALLOC_DAQ
pub lists_put_stands : (s : StoreState) (calls : List Command) (n : ℕ) → StoreStandsAfter (lists_put s n) (AllocDaq n ∷ calls)
lists_put_stands s calls n = record {
  lists = sym (map-one (list_after s.profile.form (AllocDaq n ∷ calls)) (fresh_state s.profile.form) n 0 (λ k. refl));
  pointer = refl;
  phase = refl;
}

-- ALLOC_ODT
alloc_odt_other : (calls : List Command) (l n i : ℕ) → (l == i) ≡ false → SameOf calls (AllocOdt l n ∷ calls) i
alloc_odt_other calls l n i e = record {
  odts = record { odts = rw e refl; entries = λ k. rw e refl; last_write = λ k j. rw e refl };
  mode = refl;
  running = refl;
  selected = refl;
}

alloc_odt_empty : (calls : List Command) (l n k : ℕ) → (l == l) ≡ true → odt_of (AllocOdt l n ∷ calls) l k ≡ []
alloc_odt_empty calls l n k e = rw e refl

alloc_odt_here : (f : PacketForm) (calls : List Command) (l n : ℕ) → (l == l) ≡ true → (x : ListState) → x ≡ list_after f calls l
    → with_odts x n ≡ list_after f (AllocOdt l n ∷ calls) l
alloc_odt_here f calls l n e x is =
    let odts : map (odt_of (AllocOdt l n ∷ calls) l) (numbers_below n) ≡ replicate n []
    = map-one _ _ n 0 (λ k. alloc_odt_empty calls l n k e) in
    rw (is, e, odts) refl

pub odts_put_stands : (s : StoreState) (calls : List Command) (l n : ℕ) → StoreStandsAfter s calls → l < length s.lists
    → StoreStandsAfter (odts_put s l n) (AllocOdt l n ∷ calls)
odts_put_stands s calls l n h inside = record {
  lists = one_list s calls (AllocOdt l n) l _ h inside
      (λ here. alloc_odt_here s.profile.form calls l n (eq-eqb l l refl) (list_at s l) (get_stands s calls l (fresh_state s.profile.form) h here))
      (λ i other. alloc_odt_other calls l n i other);
  pointer = refl;
  phase = refl;
}

-- ALLOC_ODT_ENTRY
alloc_odt_entry_other : (calls : List Command) (l k n i : ℕ) → (l == i) ≡ false → SameOf calls (AllocOdtEntry l k n ∷ calls) i
alloc_odt_entry_other calls l k n i e = record {
  odts = record { odts = refl; entries = λ j. rw e refl; last_write = λ j m. rw e refl };
  mode = refl;
  running = refl;
  selected = refl;
}

-- the ODT has so many unwritten entries, and the other ODTs of the list have what they had
odt_unwritten : (calls : List Command) (l k n : ℕ) → (l == l) ≡ true → (k == k) ≡ true
    → odt_of (AllocOdtEntry l k n ∷ calls) l k ≡ replicate n None
odt_unwritten calls l k n a b =
    let unwritten : (e : ℕ) → last_write (AllocOdtEntry l k n ∷ calls) l k e ≡ None = λ e. rw (a, b) refl in
    let count : entry_count (AllocOdtEntry l k n ∷ calls) l k ≡ n = rw (a, b) refl in
    ap (λ m. map (last_write (AllocOdtEntry l k n ∷ calls) l k) (numbers_below m)) count
    ∙ map-one (last_write (AllocOdtEntry l k n ∷ calls) l k) None n 0 unwritten

odt_kept : (calls : List Command) (l k n j : ℕ) → (l == l) ≡ true → (k == j) ≡ false
    → odt_of calls l j ≡ odt_of (AllocOdtEntry l k n ∷ calls) l j
odt_kept calls l k n j a b =
    let same : (e : ℕ) → last_write calls l j e ≡ last_write (AllocOdtEntry l k n ∷ calls) l j e = λ e. rw (a, b) refl in
    let count : entry_count (AllocOdtEntry l k n ∷ calls) l j ≡ entry_count calls l j = rw (a, b) refl in
    map-same (last_write calls l j) (last_write (AllocOdtEntry l k n ∷ calls) l j) (numbers_below (entry_count calls l j)) same
    ∙ ap (λ m. map (last_write (AllocOdtEntry l k n ∷ calls) l j) (numbers_below m)) (sym count)

odts_unwritten : (calls : List Command) (l k n : ℕ) → k < odt_count calls l
    → set (map (odt_of calls l) (numbers_below (odt_count calls l))) k (replicate n None)
    ≡ map (odt_of (AllocOdtEntry l k n ∷ calls) l) (numbers_below (odt_count calls l))
odts_unwritten calls l k n inside =
    let new : List Command = AllocOdtEntry l k n ∷ calls in
    ap (set (map (odt_of calls l) (numbers_below (odt_count calls l))) k) (sym (odt_unwritten calls l k n (eq-eqb l l refl) (eq-eqb k k refl)))
    ∙ set-map_below (odt_of calls l) (odt_of new l) (odt_count calls l) k inside
    (λ j _ other. odt_kept calls l k n j (eq-eqb l l refl) (ne_eqb k j (λ e. other (sym e))))

alloc_odt_entry_here : (f : PacketForm) (calls : List Command) (l k n : ℕ) → k < odt_count calls l → (x : ListState) → x ≡ list_after f calls l
    → with_entries x k n ≡ list_after f (AllocOdtEntry l k n ∷ calls) l
alloc_odt_entry_here f calls l k n inside x is =
    let odts : set (map (odt_of calls l) (numbers_below (odt_count calls l))) k (replicate n None)
    ≡ map (odt_of (AllocOdtEntry l k n ∷ calls) l) (numbers_below (odt_count calls l)) = odts_unwritten calls l k n inside in
    rw (is, odts) refl

pub entries_put_stands : (s : StoreState) (calls : List Command) (l k n : ℕ) → StoreStandsAfter s calls → shows_odt s l k ≡ true
    → StoreStandsAfter (entries_put s l k n) (AllocOdtEntry l k n ∷ calls)
entries_put_stands s calls l k n h shown =
    let there : has_odt calls l k ≡ true = has_odt_stands s calls l k h ∙ shown in
    let list : l < list_count calls = below_from _ _ (and_left _ _ there) in
    let odt : k < odt_count calls l = below_from _ _ (and_right _ _ there) in
    record {
      lists = one_list s calls (AllocOdtEntry l k n) l _ h (rw (count_stands s calls h) list)
          (λ here. alloc_odt_entry_here s.profile.form calls l k n odt (list_at s l) (get_stands s calls l (fresh_state s.profile.form) h here))
          (λ i other. alloc_odt_entry_other calls l k n i other);
      pointer = refl;
      phase = refl;
    }

-- SET_DAQ_PTR
set_ptr_same : (calls : List Command) (l k e i : ℕ) → SameOf calls (SetDaqPtr l k e ∷ calls) i
set_ptr_same calls l k e i = record {
  odts = record { odts = refl; entries = λ _. refl; last_write = λ _ _. refl };
  mode = refl;
  running = refl;
  selected = refl;
}

pub pointer_put_stands : (s : StoreState) (calls : List Command) (l k e : ℕ) → StoreStandsAfter s calls → shows_entry s l k e ≡ true
    → StoreStandsAfter (record s { pointer = Some (l, k, e) }) (SetDaqPtr l k e ∷ calls)
pointer_put_stands s calls l k e h shown = record {
  lists = h.lists ∙ map-same (list_after s.profile.form calls) (list_after s.profile.form (SetDaqPtr l k e ∷ calls)) (numbers_below (list_count calls))
      (λ i. list_same s.profile.form calls (SetDaqPtr l k e ∷ calls) i (set_ptr_same calls l k e i));
  pointer =
      let there : has_entry calls l k e ≡ true = has_entry_stands s calls l k e h ∙ shown in
      let inside : nat_lt e (entry_count calls l k) ≡ true = and_right _ _ there in
      rw (add-zero, inside) refl;
  phase = h.phase;
}

-- WRITE_DAQ: the entry that is written, and the others
written_here : (calls : List Command) (bit size ext addr l k e : ℕ) → pointer calls ≡ Some (l, k, e)
    → (l == l) ≡ true → (k == k) ≡ true → (e == e) ≡ true
    → last_write (WriteDaq bit size ext addr ∷ calls) l k e ≡ Some (record { extension = ext; address = addr; size = size })
written_here calls bit size ext addr l k e at a b c = rw (at, a, b, c) refl

written_other_entry : (calls : List Command) (bit size ext addr l k e i : ℕ) → pointer calls ≡ Some (l, k, e)
    → (l == l) ≡ true → (k == k) ≡ true → (e == i) ≡ false
    → last_write calls l k i ≡ last_write (WriteDaq bit size ext addr ∷ calls) l k i
written_other_entry calls bit size ext addr l k e i at a b c = rw (at, a, b, c) refl

written_other_odt : (calls : List Command) (bit size ext addr l k e j i : ℕ) → pointer calls ≡ Some (l, k, e)
    → (l == l) ≡ true → (k == j) ≡ false
    → last_write calls l j i ≡ last_write (WriteDaq bit size ext addr ∷ calls) l j i
written_other_odt calls bit size ext addr l k e j i at a b = rw (at, a, b) refl

written_other_list : (calls : List Command) (bit size ext addr l k e x : ℕ) → pointer calls ≡ Some (l, k, e) → (l == x) ≡ false
    → SameOf calls (WriteDaq bit size ext addr ∷ calls) x
written_other_list calls bit size ext addr l k e x at a = record {
  odts = record { odts = refl; entries = λ _. refl; last_write = λ j i. rw (at, a) refl };
  mode = refl;
  running = refl;
  selected = refl;
}

-- the ODT after the write
odt_written : (calls : List Command) (bit size ext addr l k e : ℕ) → pointer calls ≡ Some (l, k, e) → e < entry_count calls l k
    → set (odt_of calls l k) e (Some (record { extension = ext; address = addr; size = size })) ≡ odt_of (WriteDaq bit size ext addr ∷ calls) l k
odt_written calls bit size ext addr l k e at here =
    let new : List Command = WriteDaq bit size ext addr ∷ calls in
    let value : last_write new l k e ≡ Some (record { extension = ext; address = addr; size = size })
    = written_here calls bit size ext addr l k e at (eq-eqb l l refl) (eq-eqb k k refl) (eq-eqb e e refl) in
    ap (set (odt_of calls l k) e) (sym value)
    ∙ set-map_below (last_write calls l k) (last_write new l k) (entry_count calls l k) e here
    (λ i _ other. written_other_entry calls bit size ext addr l k e i at (eq-eqb l l refl) (eq-eqb k k refl) (ne_eqb e i (λ h. other (sym h))))

-- the ODTs after the write
odts_written : (calls : List Command) (bit size ext addr l k e : ℕ) → pointer calls ≡ Some (l, k, e) → e < entry_count calls l k
    → k < odt_count calls l
    → set (map (odt_of calls l) (numbers_below (odt_count calls l))) k (set (odt_of calls l k) e (Some (record { extension = ext; address = addr; size = size })))
    ≡ map (odt_of (WriteDaq bit size ext addr ∷ calls) l) (numbers_below (odt_count calls l))
odts_written calls bit size ext addr l k e at here inside =
    let new : List Command = WriteDaq bit size ext addr ∷ calls in
    ap (set (map (odt_of calls l) (numbers_below (odt_count calls l))) k) (odt_written calls bit size ext addr l k e at here)
    ∙ set-map_below (odt_of calls l) (odt_of new l) (odt_count calls l) k inside
    (λ j _ other. map-same (last_write calls l j) (last_write new l j) (numbers_below (entry_count calls l j))
    (λ i. written_other_odt calls bit size ext addr l k e j i at (eq-eqb l l refl) (ne_eqb k j (λ h. other (sym h)))))

-- the list after the write
write_here : (f : PacketForm) (calls : List Command) (bit size ext addr l k e : ℕ) → pointer calls ≡ Some (l, k, e) → e < entry_count calls l k
    → k < odt_count calls l → (x : ListState) → x ≡ list_after f calls l
    → with_entry x k e (record { extension = ext; address = addr; size = size }) ≡ list_after f (WriteDaq bit size ext addr ∷ calls) l
write_here f calls bit size ext addr l k e at here inside x is =
    let odts : set (map (odt_of calls l) (numbers_below (odt_count calls l))) k (set (odt_of calls l k) e (Some (record { extension = ext; address = addr; size = size })))
    ≡ map (odt_of (WriteDaq bit size ext addr ∷ calls) l) (numbers_below (odt_count calls l))
    = odts_written calls bit size ext addr l k e at here inside in
    let odt : odt_entries (configuration f calls l) k ≡ odt_of calls l k = odt_within f calls l k inside in
    rw (is, odt, odts) refl

-- the pointer after the write
abbrev same_place : ℕ × ℕ × ℕ → ℕ × ℕ × ℕ → Type 0
same_place p q = p ≡ q

abbrev place_if : Bool → ℕ → ℕ → ℕ → Option (ℕ × ℕ × ℕ)
place_if b x y z = if b then Some (x, y, z) else None

moved_true : (b : Bool) (x y z l k e : ℕ) → place_if b x y z ≡ Some (l, k, e) → (x ≡ l) × (y ≡ k) × (z ≡ e)
moved_true true x y z l k e h =
    let p : same_place (x, y, z) (l, k, e) = cc in
    (ap (λ (q : ℕ × ℕ × ℕ). q.0) p, ap (λ (q : ℕ × ℕ × ℕ). q.1) p, ap (λ (q : ℕ × ℕ × ℕ). q.2) p)
moved_true false x y z l k e h = cc

moved : (new calls : List Command) (l k e w : ℕ) (o : Option (ℕ × ℕ × ℕ)) → ((i j : ℕ) → entry_count new i j ≡ entry_count calls i j)
    → option_and_then (λ p. entry_at calls p.0 p.1 (p.2 + w)) o ≡ Some (l, k, e)
    → option_and_then (λ p. entry_at new p.0 p.1 (p.2 + (w + 1))) o
    ≡ place_if (nat_lt (e + 1) (entry_count calls l k)) l k (e + 1)
moved new calls l k e w None same h = cc
moved new calls l k e w (Some p) same h =
    let parts : (p.0 ≡ l) × (p.1 ≡ k) × (p.2 + w ≡ e) = moved_true (nat_lt (p.2 + w) (entry_count calls p.0 p.1)) p.0 p.1 (p.2 + w) l k e h in
    let at : p.2 + (w + 1) ≡ e + 1 = omega (arith, parts.2) in
    rw (parts.0, parts.1, at, same l k) refl

pub entry_put_stands : (s : StoreState) (calls : List Command) (bit size ext addr l k e : ℕ) → StoreStandsAfter s calls
    → s.pointer ≡ Some (l, k, e) → shows_entry s l k e ≡ true
    → StoreStandsAfter (entry_put s l k e (record { extension = ext; address = addr; size = size })) (WriteDaq bit size ext addr ∷ calls)
entry_put_stands s calls bit size ext addr l k e h pointed shown =
    let at : pointer calls ≡ Some (l, k, e) = sym h.pointer ∙ pointed in
    let there : has_entry calls l k e ≡ true = has_entry_stands s calls l k e h ∙ shown in
    let list : l < list_count calls = below_from _ _ (and_left _ _ (and_left _ _ there)) in
    let odt : k < odt_count calls l = below_from _ _ (and_right _ _ (and_left _ _ there)) in
    let entry : e < entry_count calls l k = below_from _ _ (and_right _ _ there) in
    let is : list_at s l ≡ list_after s.profile.form calls l = get_stands s calls l (fresh_state s.profile.form) h list in
    let len : length (odt_entries (list_at s l).conf k) ≡ entry_count calls l k
    = ap (λ (x : ListState). length (odt_entries x.conf k)) is ∙ ap length (odt_within s.profile.form calls l k odt) ∙ length-map-range_with_len (last_write calls l k) 0 (entry_count calls l k) in
    record {
      lists = one_list s calls (WriteDaq bit size ext addr) l _ h (rw (count_stands s calls h) list)
          (λ here. write_here s.profile.form calls bit size ext addr l k e at entry odt (list_at s l) is)
          (λ i other. written_other_list calls bit size ext addr l k e i at other);
      pointer = sym (moved (WriteDaq bit size ext addr ∷ calls) calls l k e (steps_since calls) (set_place calls) (λ i j. refl) at ∙ rw len refl);
      phase = h.phase;
    }

-- SET_DAQ_LIST_MODE
abbrev mode_byte : ℕ → ℕ → ℕ → ℕ → Mode
mode_byte mode channel prescaler priority =
    record { channel = channel; prescaler = prescaler; stamped = stamps mode; priority = priority }

set_mode_odts : (calls : List Command) (mode l channel prescaler priority i : ℕ)
    → SameOdts calls (SetDaqListMode mode l channel prescaler priority ∷ calls) i
set_mode_odts calls mode l channel prescaler priority i =
    record { odts = refl; entries = λ _. refl; last_write = λ _ _. refl }

set_mode_other : (calls : List Command) (mode l channel prescaler priority i : ℕ) → (l == i) ≡ false
    → SameOf calls (SetDaqListMode mode l channel prescaler priority ∷ calls) i
set_mode_other calls mode l channel prescaler priority i e = record {
  odts = set_mode_odts calls mode l channel prescaler priority i;
  mode = rw e refl;
  running = refl;
  selected = refl;
}

set_mode_here : (f : PacketForm) (calls : List Command) (mode l channel prescaler priority : ℕ) → (l == l) ≡ true → (x : ListState) → x ≡ list_after f calls l
    → with_mode x (mode_byte mode channel prescaler priority) ≡ list_after f (SetDaqListMode mode l channel prescaler priority ∷ calls) l
set_mode_here f calls mode l channel prescaler priority e x is =
    let new : List Command = SetDaqListMode mode l channel prescaler priority ∷ calls in
    let odts : map (odt_of calls l) (numbers_below (odt_count calls l)) ≡ map (odt_of new l) (numbers_below (odt_count calls l))
    = odts_same calls new l (set_mode_odts calls mode l channel prescaler priority l) in
    rw (is, e, odts) refl

pub mode_put_stands : (s : StoreState) (calls : List Command) (mode l channel prescaler priority : ℕ) → StoreStandsAfter s calls → l < length s.lists
    → StoreStandsAfter (mode_put s l (mode_byte mode channel prescaler priority)) (SetDaqListMode mode l channel prescaler priority ∷ calls)
mode_put_stands s calls mode l channel prescaler priority h inside = record {
  lists = one_list s calls (SetDaqListMode mode l channel prescaler priority) l _ h inside
      (λ here. set_mode_here s.profile.form calls mode l channel prescaler priority (eq-eqb l l refl) (list_at s l) (get_stands s calls l (fresh_state s.profile.form) h here))
      (λ i other. set_mode_other calls mode l channel prescaler priority i other);
  pointer = h.pointer;
  phase = h.phase;
}

-- START_STOP_DAQ_LIST
start_stop_odts : (calls : List Command) (mode l i : ℕ) → SameOdts calls (StartStopDaqList mode l ∷ calls) i
start_stop_odts calls mode l i = record { odts = refl; entries = λ _. refl; last_write = λ _ _. refl }

start_stop_other : (calls : List Command) (mode l i : ℕ) → (l == i) ≡ false → SameOf calls (StartStopDaqList mode l ∷ calls) i
start_stop_other calls mode l i e = record {
  odts = start_stop_odts calls mode l i;
  mode = refl;
  running = rw e refl;
  selected = rw e refl;
}

-- a stop or start decides whether the list runs
stopped_or_started : (b c d : Bool) → (if b then c else d) ≡ (if not b then d else c)
stopped_or_started true c d = refl
stopped_or_started false c d = refl

start_stop_here : (f : PacketForm) (calls : List Command) (mode l : ℕ) → (l == l) ≡ true → (x : ListState) → x ≡ list_after f calls l
    → start_stopped mode x ≡ list_after f (StartStopDaqList mode l ∷ calls) l
start_stop_here f calls mode l e x is =
    let new : List Command = StartStopDaqList mode l ∷ calls in
    let odts : map (odt_of calls l) (numbers_below (odt_count calls l)) ≡ map (odt_of new l) (numbers_below (odt_count calls l))
    = odts_same calls new l (start_stop_odts calls mode l l) in
    let runs : (if mode == 2 then is_running calls l else mode == 1) ≡ (if not (mode == 2) then mode == 1 else is_running calls l)
    = stopped_or_started (mode == 2) (is_running calls l) (mode == 1) in
    rw (is, e, odts, runs) refl

pub start_stop_put_stands : (s : StoreState) (calls : List Command) (mode l : ℕ) → StoreStandsAfter s calls → l < length s.lists
    → StoreStandsAfter (start_stop_put s mode l) (StartStopDaqList mode l ∷ calls)
start_stop_put_stands s calls mode l h inside = record {
  lists = one_list s calls (StartStopDaqList mode l) l _ h inside
      (λ here. start_stop_here s.profile.form calls mode l (eq-eqb l l refl) (list_at s l) (get_stands s calls l (fresh_state s.profile.form) h here))
      (λ i other. start_stop_other calls mode l i other);
  pointer = h.pointer;
  phase = h.phase;
}

-- START_STOP_SYNCH
synch_odts : (calls : List Command) (mode i : ℕ) → SameOdts calls (StartStopSynch mode ∷ calls) i
synch_odts calls mode i = record { odts = refl; entries = λ _. refl; last_write = λ _ _. refl }

synch_here : (f : PacketForm) (calls : List Command) (mode i : ℕ) → synched mode (list_after f calls i) ≡ list_after f (StartStopSynch mode ∷ calls) i
synch_here f calls mode i =
    let odts : map (odt_of calls i) (numbers_below (odt_count calls i)) ≡ map (odt_of (StartStopSynch mode ∷ calls) i) (numbers_below (odt_count calls i))
    = odts_same calls (StartStopSynch mode ∷ calls) i (synch_odts calls mode i) in
    rw odts refl

pub synch_put_stands : (s : StoreState) (calls : List Command) (mode : ℕ) → StoreStandsAfter s calls
    → StoreStandsAfter (synch_put s mode) (StartStopSynch mode ∷ calls)
synch_put_stands s calls mode h = record {
  lists =
      ap (map (synched mode)) h.lists
      ∙ map-map (synched mode) (list_after s.profile.form calls) (numbers_below (list_count calls))
      ∙ map-same (λ i. synched mode (list_after s.profile.form calls i)) (list_after s.profile.form (StartStopSynch mode ∷ calls)) (numbers_below (list_count calls)) (synch_here s.profile.form calls mode);
  pointer = h.pointer;
  phase = h.phase;
}

-- READ_DAQ
read_same : (calls : List Command) (i : ℕ) → SameOf calls (ReadDaq ∷ calls) i
read_same calls i = record {
  odts = record { odts = refl; entries = λ _. refl; last_write = λ _ _. refl };
  mode = refl;
  running = refl;
  selected = refl;
}

-- the pointer moves on from an entry that is there
pub moved_on_stands : (s : StoreState) (calls : List Command) (l k e : ℕ) → StoreStandsAfter s calls
    → s.pointer ≡ Some (l, k, e) → shows_entry s l k e ≡ true → StoreStandsAfter (moved_on s l k e) (ReadDaq ∷ calls)
moved_on_stands s calls l k e h pointed shown =
    let at : pointer calls ≡ Some (l, k, e) = sym h.pointer ∙ pointed in
    let there : has_entry calls l k e ≡ true = has_entry_stands s calls l k e h ∙ shown in
    let list : l < list_count calls = below_from _ _ (and_left _ _ (and_left _ _ there)) in
    let odt : k < odt_count calls l = below_from _ _ (and_right _ _ (and_left _ _ there)) in
    let is : list_at s l ≡ list_after s.profile.form calls l = get_stands s calls l (fresh_state s.profile.form) h list in
    let len : length (odt_entries (list_at s l).conf k) ≡ entry_count calls l k
    = ap (λ (x : ListState). length (odt_entries x.conf k)) is ∙ ap length (odt_within s.profile.form calls l k odt) ∙ length-map-range_with_len (last_write calls l k) 0 (entry_count calls l k) in
    record {
      lists = h.lists ∙ map-same (list_after s.profile.form calls) (list_after s.profile.form (ReadDaq ∷ calls)) (numbers_below (list_count calls))
          (λ i. list_same s.profile.form calls (ReadDaq ∷ calls) i (read_same calls i));
      pointer = sym (moved (ReadDaq ∷ calls) calls l k e (steps_since calls) (set_place calls) (λ i j. refl) at ∙ rw len refl);
      phase = h.phase;
    }

-- an entry that is there
entry_of_odt : (f : PacketForm) (calls : List Command) (l k e : ℕ) → k < odt_count calls l → e < entry_count calls l k
    → entry_of (configuration f calls l) k e ≡ last_write calls l k e
entry_of_odt f calls l k e odt entry =
    let long : e < length (odt_of calls l k) = rw (length-map-range_with_len (last_write calls l k) 0 (entry_count calls l k)) entry in
    ap (λ es. option_and_then (λ (o : Option Entry). o) (slice_get es e)) (odt_within f calls l k odt)
    ∙ ap (option_and_then (λ (o : Option Entry). o)) (slice_get-get_or (odt_of calls l k) e None long)
    ∙ get_or-map-range_with_len (last_write calls l k) 0 (entry_count calls l k) e e None entry (zero-add e)

-- what is shown of the entry at the pointer
pub pointed_stands : (s : StoreState) (calls : List Command) (l k e : ℕ) → StoreStandsAfter s calls
    → s.pointer ≡ Some (l, k, e) → shows_entry s l k e ≡ true
    → pointed calls ≡ entry_of (conf_of s l) k e
pointed_stands s calls l k e h here shown =
    let at : pointer calls ≡ Some (l, k, e) = sym h.pointer ∙ here in
    let there : has_entry calls l k e ≡ true = has_entry_stands s calls l k e h ∙ shown in
    let list : l < list_count calls = below_from _ _ (and_left _ _ (and_left _ _ there)) in
    let odt : k < odt_count calls l = below_from _ _ (and_right _ _ (and_left _ _ there)) in
    let entry : e < entry_count calls l k = below_from _ _ (and_right _ _ there) in
    let is : entry_of (conf_of s l) k e ≡ last_write calls l k e
    = ap (λ c. entry_of c k e) (conf_stands s calls l h list) ∙ entry_of_odt s.profile.form calls l k e odt entry in
    rw (at, is) refl

-- CLEAR_DAQ_LIST
clear_other : (calls : List Command) (l i : ℕ) → (l == i) ≡ false → SameOf calls (ClearDaqList l ∷ calls) i
clear_other calls l i e = record {
  odts = record { odts = refl; entries = λ _. refl; last_write = λ _ _. rw e refl };
  mode = rw e refl;
  running = rw e refl;
  selected = rw e refl;
}

-- the entries of each ODT of the list are unwritten, as many as there were
odt_cleared : (calls : List Command) (l k : ℕ) → (l == l) ≡ true → unwritten (odt_of calls l k) ≡ odt_of (ClearDaqList l ∷ calls) l k
odt_cleared calls l k a =
    let n : ℕ = entry_count calls l k in
    let none : (e : ℕ) → last_write (ClearDaqList l ∷ calls) l k e ≡ None = λ e. rw a refl in
    ap (λ m. replicate m None) (length-map-range_with_len (last_write calls l k) 0 n)
    ∙ sym (map-one (last_write (ClearDaqList l ∷ calls) l k) None n 0 none)

odts_cleared : (calls : List Command) (l : ℕ) → (l == l) ≡ true
    → map unwritten (map (odt_of calls l) (numbers_below (odt_count calls l)))
    ≡ map (odt_of (ClearDaqList l ∷ calls) l) (numbers_below (odt_count calls l))
odts_cleared calls l a =
    map-map unwritten (odt_of calls l) (numbers_below (odt_count calls l))
    ∙ map-same (λ k. unwritten (odt_of calls l k)) (odt_of (ClearDaqList l ∷ calls) l) (numbers_below (odt_count calls l)) (λ k. odt_cleared calls l k a)

clear_here : (f : PacketForm) (calls : List Command) (l : ℕ) → (l == l) ≡ true → (x : ListState) → x ≡ list_after f calls l
    → cleared x ≡ list_after f (ClearDaqList l ∷ calls) l
clear_here f calls l a x is =
    let odts : map unwritten (map (odt_of calls l) (numbers_below (odt_count calls l)))
    ≡ map (odt_of (ClearDaqList l ∷ calls) l) (numbers_below (odt_count calls l)) = odts_cleared calls l a in
    rw (is, a, odts) refl

pub cleared_put_stands : (s : StoreState) (calls : List Command) (l : ℕ) → StoreStandsAfter s calls → l < length s.lists
    → StoreStandsAfter (cleared_put s l) (ClearDaqList l ∷ calls)
cleared_put_stands s calls l h inside = record {
  lists = one_list s calls (ClearDaqList l) l _ h inside
      (λ here. clear_here s.profile.form calls l (eq-eqb l l refl) (list_at s l) (get_stands s calls l (fresh_state s.profile.form) h here))
      (λ i other. clear_other calls l i other);
  pointer = refl;
  phase = h.phase;
}
