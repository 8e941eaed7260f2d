-- Entries one behind another, and the places where they stand.
use Rattle.std.proofs.Common.{◌≡◌, ℕ, zero, suc, ◌+◌, ◌*◌, ◌≤◌, List, [], ◌∷◌, ◌++◌, length, map, take, drop, refl, sym, ap, ◌∙◌, add-one, zero-add, arith, append_assoc, Option, Some, None}
use Rattle.std.specs.Prelude.{slice_get, option_map, IfSome}
use Rattle.std.proofs.lemmas.List.{append-nil}
use Rattle.std.proofs.Math.ListN.{drop_of_length-le}
use Rattle.std.proofs.lemmas.List.Sums.{sum_by-cons}
use Rattle.segments.specs.declared.segment.Segment.{Segment}
use Rattle.daq_store.specs.declared.entry.Entry.{Entry}
use Rattle.copy_plan.specs.Config.{OdtEntry, written_entries}
use Rattle.copy_plan.proofs.WrittenLemmas.{shown, written_entries-drop}
use Rattle.daq_reader.specs.declared.slots.Slot.{Slot}
use Rattle.daq_reader.specs.Inner.Slots.{IsSlotAt, bytes_of, entry_of, laid_out}

pub bytes_of-cons : (e : OdtEntry) (es : List OdtEntry) → bytes_of (e ∷ es) ≡ e.1 + bytes_of es
bytes_of-cons e es = sum_by-cons (λ (x : OdtEntry). x.1) e es

pub entries-laid_out : (n : ℕ) (es : List OdtEntry) → map entry_of (laid_out n es) ≡ es
entries-laid_out n [] = refl
entries-laid_out n (e ∷ es) = ap (λ rest. e ∷ rest) (entries-laid_out (n + e.1) es)

-- the slots so far and those of the entries to come are all, and so are their bytes
pub record SlotsSoFar (c : ℕ) (segments : List Segment) (done : List Slot) (bytes entry : ℕ) (es : List (Option Entry)) : Type 0 where
  pub slots : done ++ laid_out bytes (written_entries c segments (drop entry es)) ≡ laid_out 0 (written_entries c segments es)
  pub len : bytes + bytes_of (written_entries c segments (drop entry es)) ≡ bytes_of (written_entries c segments es)
  pub small : bytes ≤ 255 * entry

drop_none : (i : ℕ) → drop {A = Option Entry} i [] ≡ []
drop_none zero = refl
drop_none (suc i) = refl

-- an entry that isn't written has no slot
written_entries-skip : (c : ℕ) (segments : List Segment) (es : List (Option Entry)) (i : ℕ) → shown c segments es i ≡ None → written_entries c segments (drop i es) ≡ written_entries c segments (drop (i + 1) es)
written_entries-skip c segments [] i h = ap (written_entries c segments) (drop_none i ∙ sym (drop_none (i + 1)))
written_entries-skip c segments (Some x ∷ es) zero h = absurd (cc)
written_entries-skip c segments (None ∷ es) zero h = refl
written_entries-skip c segments (x ∷ es) (suc i) h = rw add-one (rw add-one at (written_entries-skip c segments es i h))

pub skipped : (c : ℕ) (segments : List Segment) (slots : List Slot) (len i : ℕ) (es : List (Option Entry)) → SlotsSoFar c segments slots len i es → shown c segments es i ≡ None → SlotsSoFar c segments slots len (i + 1) es
skipped c segments slots len i es h none =
    let same = written_entries-skip c segments es i none in
    record {
      slots = ap (λ xs. slots ++ laid_out len xs) (sym same) ∙ h.slots;
      len = ap (λ xs. len + bytes_of xs) (sym same) ∙ h.len;
      small = omega (arith, h.small);
    }

pub laid : (c : ℕ) (segments : List Segment) (slots : List Slot) (len i : ℕ) (es : List (Option Entry)) (e : OdtEntry) → SlotsSoFar c segments slots len i es → Some e ≡ shown c segments es i → e.1 ≤ 255 → SlotsSoFar c segments (slots ++ record { in_image = e.0; size = e.1; start = len } ∷ []) (len + e.1) (i + 1) es
laid c segments slots len i es e h is size =
    let rest : List OdtEntry = written_entries c segments (drop (i + 1) es) in
    let step : written_entries c segments (drop i es) ≡ e ∷ rest = written_entries-drop c segments es i e is in
    record {
      slots = append_assoc slots _ _ ∙ ap (λ xs. slots ++ laid_out len xs) (sym step) ∙ h.slots;
      len = omega (arith, ap bytes_of step, bytes_of-cons e rest, h.len);
      small = omega (arith, h.small, size);
    }

-- entry i among those laid out
pub get-laid_out : (n : ℕ) (es : List OdtEntry) (i : ℕ) → slice_get (laid_out n es) i ≡ option_map (λ (e : OdtEntry). record { in_image = e.0; size = e.1; start = n + bytes_of (take i es) }) (slice_get es i)
get-laid_out n [] i = refl
get-laid_out n (e ∷ es) zero = ap (λ k. Some (record { in_image = e.0; size = e.1; start = k })) (omega arith)
get-laid_out n (e ∷ es) (suc i) =
    get-laid_out (n + e.1) es i
    ∙ ap (λ k. option_map (λ (x : OdtEntry). record { in_image = x.0; size = x.1; start = k }) (slice_get es i)) (omega (arith, bytes_of-cons e (take i es)))

-- an entry ends within all of them
pub bytes_of-within : (es : List OdtEntry) (i : ℕ) (e : OdtEntry) → slice_get es i ≡ Some e → bytes_of (take i es) + e.1 ≤ bytes_of es
bytes_of-within [] i e h = absurd (cc)
bytes_of-within (x ∷ es) zero e h = let same : x ≡ e = cc in omega (arith, bytes_of-cons x es, ap (λ (p : OdtEntry). p.1) same)
bytes_of-within (x ∷ es) (suc i) e h = omega (arith, bytes_of-within es i e h, bytes_of-cons x es, bytes_of-cons x (take i es))

slot_is : (es : List OdtEntry) (i : ℕ) (o : Option OdtEntry) → slice_get es i ≡ o → IfSome (option_map (λ (e : OdtEntry). record { in_image = e.0; size = e.1; start = 0 + bytes_of (take i es) }) o) (IsSlotAt es i)
slot_is es i None is = tt
slot_is es i (Some e) is = record { start = zero-add _; within = omega (arith, bytes_of-within es i e is) }

pub slots_at : (es : List OdtEntry) (i : ℕ) (o : Option Slot) → o ≡ slice_get (laid_out 0 es) i → IfSome o (IsSlotAt es i)
slots_at es i o h = rw (h ∙ get-laid_out 0 es i) (slot_is es i (slice_get es i) refl)

-- what all entries leave
pub record AllLaid (done : List Slot) (bytes : ℕ) (es : List OdtEntry) : Type 0 where
  pub slots : done ≡ laid_out 0 es
  pub entries : map entry_of done ≡ es
  pub len : bytes ≡ bytes_of es

pub all_laid : (c : ℕ) (segments : List Segment) (done : List Slot) (bytes n : ℕ) (es : List (Option Entry)) → SlotsSoFar c segments done bytes n es → length es ≤ n → AllLaid done bytes (written_entries c segments es)
all_laid c segments done bytes n es h past =
    let none : drop n es ≡ [] = drop_of_length-le es past in
    let slots : done ≡ laid_out 0 (written_entries c segments es) = sym (append-nil done) ∙ ap (λ xs. done ++ laid_out bytes (written_entries c segments xs)) (sym none) ∙ h.slots in
    record {
      slots = slots;
      entries = ap (map entry_of) slots ∙ entries-laid_out 0 (written_entries c segments es);
      len = omega (arith, h.len, ap (λ xs. bytes_of (written_entries c segments xs)) none);
    }
