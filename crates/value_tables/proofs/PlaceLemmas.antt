-- The bytes of a sample's entries, joined: how many they are, and where one of them stands.
use Rattle.std.proofs.Common.{inl, inr, Bool, true, false, if◌then◌else◌, nat_le, ◌≡◌, ℕ, zero, suc, ◌+◌, ◌*◌, ◌-◌, ◌≤◌, List, [], ◌∷◌, ◌++◌, length, get_or, map, take, drop, refl, sym, ap, ◌∙◌, add-one, arith, append_assoc, length-append, length-drop, Option, Some, None}
use Rattle.std.specs.Prelude.{flat_map, slice_get, slice_range, option_map}
use Rattle.std.specs.List.{range_with_len}
use Rattle.std.proofs.Math.Seq.{drop-append-add}
use Rattle.std.proofs.lemmas.Bool.{cases_lt}
use Rattle.std.proofs.lemmas.Bool.Decides.{nat_tests}
use Rattle.std.proofs.lemmas.Grind.{flat_map-append}
use Rattle.std.proofs.lemmas.List.{append-nil, drop-append-le, get_or_past, length-map, take-append-le, take-map}
use Rattle.std.proofs.lemmas.List.Sums.{sum_by-cons, sum_by-take-le, sum_by_more}
use Rattle.std.proofs.lemmas.Option.{get_or_from_slice_get, slice_get-map, slice_get_within, unwrap_or-slice_get}
use Rattle.copy_plan.specs.Config.{IsPlan, ListPlan, OdtEntry, odt}
use Rattle.daq_reader.specs.Recorded.{IsRecorded, Recorded, element}
use Rattle.value_tables.specs.Places.{StandAtPlace, entries_len, entry_bytes, joined, joined_entries, listed, listed_in, most_of_odt, most_of_sample, odts_len, sample_len}
use Rattle.value_tables.specs.Sources.{first_of, holds, or_else, source_at, source_in, source_of}
use Rattle.value_tables.specs.Values.{part_of, source_for, width_of}
use Rattle.value_tables.specs.declared.column.Column.{Column}
use Rattle.value_tables.specs.declared.source.Source.{Source}

abbrev sizes : List OdtEntry → List ℕ
sizes es = map (λ (e : OdtEntry). e.1) es

abbrev lengths : List (List ℕ) → List ℕ
lengths bs = map length bs

-- one number more
range_more : (a n : ℕ) → range_with_len a (suc n) ≡ range_with_len a n ++ (a + n) ∷ []
range_more a zero = ap (λ k. k ∷ []) (omega arith)
range_more a (suc n) = ap (λ ks. a ∷ ks) (range_more (a + 1) n ∙ ap (λ k. range_with_len (a + 1) n ++ k ∷ []) (omega arith))

-- what was appended so far, and the part of one number more
pub numbers_more : (out done was : List ℕ) (f : ℕ → List ℕ) (n : ℕ) → done ≡ was ++ flat_map f (range_with_len 0 n) → out ≡ done ++ f n → out ≡ was ++ flat_map f (range_with_len 0 (n + 1))
numbers_more out done was f n so_far is =
    let one : flat_map f (n ∷ []) ≡ f n = append-nil (f n) in
    let number : 0 + n ≡ n = omega arith in
    let step : flat_map f (range_with_len 0 (suc n)) ≡ flat_map f (range_with_len 0 n) ++ f n =
    ap (flat_map f) (range_more 0 n ∙ ap (λ k. range_with_len 0 n ++ k ∷ []) number)
    ∙ flat_map-append f (range_with_len 0 n) (n ∷ [])
    ∙ ap (λ xs. flat_map f (range_with_len 0 n) ++ xs) one in
    is
    ∙ ap (λ xs. xs ++ f n) so_far
    ∙ append_assoc was (flat_map f (range_with_len 0 n)) (f n)
    ∙ ap (λ xs. was ++ xs) (sym step ∙ ap (λ k. flat_map f (range_with_len 0 k)) (sym (add-one n)))

-- the parts of the elements at numbers from a on are those of all elements
numbers_all : {X : Type 0} (f : X → List ℕ) (g : ℕ → List ℕ) (d : X) (a : ℕ) (xs : List X) → ((i : ℕ) → g (a + i) ≡ f (get_or xs i d)) → flat_map g (range_with_len a (length xs)) ≡ flat_map f xs
numbers_all f g d a [] h = refl
numbers_all f g d a (x ∷ xs) h =
    let number : a ≡ a + 0 = omega arith in
    let first : g a ≡ f x = ap g number ∙ h 0 in
    ap (λ ys. ys ++ flat_map g (range_with_len (a + 1) (length xs))) first
    ∙ ap (λ ys. f x ++ ys) (numbers_all f g d (a + 1) xs (λ i. ap g (omega arith) ∙ h (suc i)))

-- of two lists that show the same, one has an element where the other has
record Match {X Z : Type 0} (f : X → Z) (xs : List X) (i : ℕ) (z : Z) : Type 0 where
  there : X
  is : slice_get xs i ≡ Some there
  same : f there ≡ z

match_from : {X Z : Type 0} (f : X → Z) (xs : List X) (i : ℕ) (z : Z) (o : Option X) → slice_get xs i ≡ o → option_map f o ≡ Some z → Match f xs i z
match_from f xs i z None is h = absurd (cc (h))
match_from f xs i z (Some x) is h =
    let same : f x ≡ z = cc (h) in
    record { there = x; is = is; same = same }

match : {X Y Z : Type 0} (f : X → Z) (g : Y → Z) (xs : List X) (ys : List Y) (i : ℕ) (y : Y) → map f xs ≡ map g ys → slice_get ys i ≡ Some y → Match f xs i (g y)
match f g xs ys i y h is =
    match_from f xs i (g y) (slice_get xs i) refl (sym (slice_get-map f xs i) ∙ ap (λ zs. slice_get zs i) h ∙ slice_get-map g ys i ∙ ap (option_map g) is)

front_same : {X Y Z : Type 0} (f : X → Z) (g : Y → Z) (xs : List X) (ys : List Y) (i : ℕ) → map f xs ≡ map g ys → map f (take i xs) ≡ map g (take i ys)
front_same f g xs ys i h = sym (take-map f i xs) ∙ ap (take i) h ∙ take-map g i ys

-- bytes of these sizes are as many as the sizes say
length-entries : (bs : List (List ℕ)) (es : List OdtEntry) → lengths bs ≡ sizes es → length (joined_entries bs) ≡ entries_len es
length-entries [] [] h = refl
length-entries [] (e ∷ es) h = absurd (cc (h))
length-entries (b ∷ bs) [] h = absurd (cc (h))
length-entries (b ∷ bs) (e ∷ es) h =
    let here : length b ≡ e.1 = cc (h) in
    let tail : lengths bs ≡ sizes es = cc (h) in
    omega (arith, here, length-entries bs es tail, length-append b (joined_entries bs), sum_by-cons (λ (x : OdtEntry). x.1) e es)

length-odts : (bss : List (List (List ℕ))) (ess : List (List OdtEntry)) → map lengths bss ≡ map sizes ess → length (flat_map joined_entries bss) ≡ odts_len ess
length-odts [] [] h = refl
length-odts [] (es ∷ ess) h = absurd (cc (h))
length-odts (bs ∷ bss) [] h = absurd (cc (h))
length-odts (bs ∷ bss) (es ∷ ess) h =
    let here : lengths bs ≡ sizes es = cc (h) in
    let tail : map lengths bss ≡ map sizes ess = cc (h) in
    omega (arith, length-entries bs es here, length-odts bss ess tail, length-append (joined_entries bs) (flat_map joined_entries bss), sum_by-cons entries_len es ess)

pub joined_have_length : (plan : ListPlan) (r : Recorded) → IsRecorded plan r → length (joined r) ≡ sample_len plan
joined_have_length plan r h = length-odts r.elements plan.odts h.elements

-- the part of one element stands behind those before it
part : {X : Type 0} (f : X → List ℕ) (xs : List X) (i : ℕ) (x : X) → slice_get xs i ≡ Some x → flat_map f xs ≡ flat_map f (take i xs) ++ (f x ++ flat_map f (drop (suc i) xs))
part f [] i x h = absurd (cc (h))
part f (y ∷ xs) zero x h =
    let is : y ≡ x = cc (h) in
    ap (λ z. f z ++ flat_map f xs) is
part f (y ∷ xs) (suc i) x h =
    ap (λ zs. f y ++ zs) (part f xs i x h) ∙ sym (append_assoc (f y) (flat_map f (take i xs)) (f x ++ flat_map f (drop (suc i) xs)))

regroup : (a b c d e : List ℕ) → a ++ ((b ++ (c ++ d)) ++ e) ≡ (a ++ b) ++ (c ++ (d ++ e))
regroup a b c d e =
    ap (λ xs. a ++ xs) (append_assoc b (c ++ d) e ∙ ap (λ xs. b ++ xs) (append_assoc c d e))
    ∙ sym (append_assoc a b (c ++ (d ++ e)))

-- so many bytes of a part, found in the whole
inside : (xs front b back : List ℕ) (at offset size : ℕ) → xs ≡ front ++ (b ++ back) → length front ≡ at → offset + size ≤ length b → slice_range xs (at + offset) (at + offset + size) ≡ take size (drop offset b)
inside xs front b back at offset size is here fits =
    let many : at + offset + size - (at + offset) ≡ size = omega arith in
    let left : size ≤ length (drop offset b) = omega (arith, fits, length-drop offset b) in
    ap (λ n. take n (drop (at + offset) xs)) many
    ∙ ap (λ ys. take size (drop (at + offset) ys)) is
    ∙ ap (λ n. take size (drop (n + offset) (front ++ (b ++ back)))) (sym here)
    ∙ ap (take size) (drop-append-add front (b ++ back) offset ∙ drop-append-le offset b back (omega (arith, fits)))
    ∙ take-append-le size (drop offset b) back left

ends_within : (xs front b back : List ℕ) (at offset size : ℕ) → xs ≡ front ++ (b ++ back) → length front ≡ at → offset + size ≤ length b → at + offset + size ≤ length xs
ends_within xs front b back at offset size is here fits =
    omega (arith, ap length is, length-append front (b ++ back), length-append b back, here, fits)

-- the first that elements give is what one of them gives
record FirstFrom {X : Type 0} (f : ℕ → X → Option Source) (n : ℕ) (xs : List X) (s : Source) : Type 0 where
  at : ℕ
  there : X
  is : slice_get xs at ≡ Some there
  gives : f (n + at) there ≡ Some s

first_or : {X : Type 0} (f : ℕ → X → Option Source) (n : ℕ) (x : X) (xs : List X) (s : Source) (o : Option Source) → f n x ≡ o → or_else o (first_of f (suc n) xs) ≡ Some s → (first_of f (suc n) xs ≡ Some s → FirstFrom f (suc n) xs s) → FirstFrom f n (x ∷ xs) s
first_or f n x xs s (Some t) is h later =
    let number : n + 0 ≡ n = omega arith in
    let same : t ≡ s = cc (h) in
    record { at = 0; there = x; is = refl; gives = ap (λ k. f k x) number ∙ is ∙ ap (λ u. Some u) same }
first_or f n x xs s None is h later =
    let found : FirstFrom f (suc n) xs s = later h in
    let number : n + suc found.at ≡ suc n + found.at = omega arith in
    record { at = suc found.at; there = found.there; is = found.is; gives = ap (λ k. f k found.there) number ∙ found.gives }

first_from : {X : Type 0} (f : ℕ → X → Option Source) (n : ℕ) (xs : List X) (s : Source) → first_of f n xs ≡ Some s → FirstFrom f n xs s
first_from f n [] s h = absurd (cc (h))
first_from f n (x ∷ xs) s h = first_or f n x xs s (f n x) refl h (first_from f (suc n) xs s)

-- a source in an entry has all bytes
record IsIn (size k e : ℕ) (entry : OdtEntry) (s : Source) : Type 0 where
  is_odt : s.odt ≡ k
  is_entry : s.entry ≡ e
  fits : s.offset + size ≤ entry.1

is_in : (address size k e : ℕ) (entry : OdtEntry) (s : Source) (b : Bool) → holds address size entry ≡ b → (if b then Some (record { odt = k; entry = e; offset = address - entry.0 }) else None) ≡ Some s → IsIn size k e entry s
is_in address size k e entry s false is h = absurd (cc (h))
is_in address size k e entry s true is h =
    let same : ◌≡◌ {A = Source} (record { odt = k; entry = e; offset = address - entry.0 }) s = cc (h) in
    let begins : entry.0 ≤ address = grind (arith, nat_tests) in
    let ends : address + size ≤ entry.0 + entry.1 = grind (arith, nat_tests) in
    let offset : address - entry.0 ≡ s.offset = ap (λ (x : Source). x.offset) same in
    record {
      is_odt = sym (ap (λ (x : Source). x.odt) same);
      is_entry = sym (ap (λ (x : Source). x.entry) same);
      fits = omega (arith, begins, ends, offset);
    }

-- a source is in an entry of the list
pub record HasSource (plan : ListPlan) (size : ℕ) (s : Source) : Type 0 where
  pub entries : List OdtEntry
  pub entry : OdtEntry
  pub is_odt : slice_get plan.odts s.odt ≡ Some entries
  pub is_entry : slice_get entries s.entry ≡ Some entry
  pub fits : s.offset + size ≤ entry.1

pub has_source : (plan : ListPlan) (address size : ℕ) (s : Source) → source_of plan address size ≡ Some s → HasSource plan size s
has_source plan address size s h =
    let o : FirstFrom (source_in address size) 0 plan.odts s = first_from (source_in address size) 0 plan.odts s h in
    let x : FirstFrom (source_at address size (0 + o.at)) 0 o.there s = first_from (source_at address size (0 + o.at)) 0 o.there s o.gives in
    let i : IsIn size (0 + o.at) (0 + x.at) x.there s = is_in address size (0 + o.at) (0 + x.at) x.there s (holds address size x.there) refl x.gives in
    let k : s.odt ≡ o.at = omega (arith, i.is_odt) in
    let e : s.entry ≡ x.at = omega (arith, i.is_entry) in
    record {
      entries = o.there;
      entry = x.there;
      is_odt = ap (slice_get plan.odts) k ∙ o.is;
      is_entry = ap (slice_get o.there) e ∙ x.is;
      fits = i.fits;
    }

-- with as many entries in front of it as its ODT has at most
pub entry_within : (plan : ListPlan) (address size : ℕ) (s : Source) → source_of plan address size ≡ Some s → s.entry ≤ length (odt plan s.odt)
entry_within plan address size s h =
    let src : HasSource plan size s = has_source plan address size s h in
    omega (arith, slice_get_within src.entries s.entry src.entry src.is_entry, ap length (get_or_from_slice_get plan.odts s.odt src.entries [] src.is_odt))

part_here : (offset size : ℕ) (b : List ℕ) → offset + size ≤ length b → part_of offset size (Some b) ≡ Some (take size (drop offset b))
part_here offset size b h =
    let test : nat_le (offset + size) (length b) ≡ true = grind (arith, nat_tests) in
    ap (λ t. if t then Some (take size (drop offset b)) else None) test

stands : (plan : ListPlan) (r : Recorded) (size : ℕ) (s : Source) → IsRecorded plan r → HasSource plan size s → StandAtPlace plan r size s
stands plan r size s h src =
    let m : Match lengths r.elements s.odt (sizes src.entries) = match lengths sizes r.elements plan.odts s.odt src.entries h.elements src.is_odt in
    let bs : List (List ℕ) = m.there in
    let n : Match length bs s.entry src.entry.1 = match length (λ (e : OdtEntry). e.1) bs src.entries s.entry src.entry m.same src.is_entry in
    let b : List ℕ = n.there in
    let es : odt plan s.odt ≡ src.entries = get_or_from_slice_get plan.odts s.odt src.entries [] src.is_odt in
    let odts : List ℕ = flat_map joined_entries (take s.odt r.elements) in
    let entries : List ℕ = joined_entries (take s.entry bs) in
    let back : List ℕ = joined_entries (drop (suc s.entry) bs) ++ flat_map joined_entries (drop (suc s.odt) r.elements) in
    let is : joined r ≡ (odts ++ entries) ++ (b ++ back) =
    part joined_entries r.elements s.odt bs m.is
    ∙ ap (λ xs. odts ++ (xs ++ flat_map joined_entries (drop (suc s.odt) r.elements))) (part (λ (b : List ℕ). b) bs s.entry b n.is)
    ∙ regroup odts entries b (joined_entries (drop (suc s.entry) bs)) (flat_map joined_entries (drop (suc s.odt) r.elements)) in
    let before : length odts ≡ odts_len (take s.odt plan.odts) = length-odts (take s.odt r.elements) (take s.odt plan.odts) (front_same lengths sizes r.elements plan.odts s.odt h.elements) in
    let behind : length entries ≡ entries_len (take s.entry (odt plan s.odt)) =
    length-entries (take s.entry bs) (take s.entry src.entries) (front_same length (λ (e : OdtEntry). e.1) bs src.entries s.entry m.same)
    ∙ ap (λ xs. entries_len (take s.entry xs)) (sym es) in
    let front : length (odts ++ entries) ≡ odts_len (take s.odt plan.odts) + entries_len (take s.entry (odt plan s.odt)) = omega (arith, length-append odts entries, before, behind) in
    let fits : s.offset + size ≤ length b = omega (arith, src.fits, n.same) in
    let element_is : element r s.odt s.entry ≡ Some b = ap (λ xs. slice_get xs s.entry) (get_or_from_slice_get r.elements s.odt bs [] m.is) ∙ n.is in
    record {
      within = omega (arith, ends_within (joined r) (odts ++ entries) b back _ s.offset size is front fits, joined_have_length plan r h);
      bytes =
          ap (part_of s.offset size) element_is
          ∙ part_here s.offset size b fits
          ∙ ap (λ xs. Some xs) (sym (inside (joined r) (odts ++ entries) b back _ s.offset size is front fits));
    }

pub values_stand_at_places : (plan : ListPlan) (r : Recorded) (column : Column) (source : Source) → IsRecorded plan r → source_for plan column ≡ Some source → StandAtPlace plan r (width_of column) source
values_stand_at_places plan r column source h is = stands plan r (width_of column) source h (has_source plan column.address (width_of column) source is)

-- as many entries in each ODT, and as many ODTs
same_count : {X Y Z : Type 0} (f : X → Z) (g : Y → Z) (xs : List X) (ys : List Y) → map f xs ≡ map g ys → length ys ≡ length xs
same_count f g xs ys h = sym (length-map ys g) ∙ ap length (sym h) ∙ length-map xs f

counts : (bss : List (List (List ℕ))) (ess : List (List OdtEntry)) (k : ℕ) → map lengths bss ≡ map sizes ess → length (get_or ess k []) ≡ length (get_or bss k [])
counts [] [] k h = refl
counts [] (es ∷ ess) k h = absurd (cc (h))
counts (bs ∷ bss) [] k h = absurd (cc (h))
counts (bs ∷ bss) (es ∷ ess) zero h =
    let here : lengths bs ≡ sizes es = cc (h) in
    same_count length (λ (e : OdtEntry). e.1) bs es here
counts (bs ∷ bss) (es ∷ ess) (suc k) h =
    let tail : map lengths bss ≡ map sizes ess = cc (h) in
    counts bss ess k tail

listed_in_joined : (plan : ListPlan) (r : Recorded) (k : ℕ) → IsRecorded plan r → listed_in plan r k ≡ joined_entries (get_or r.elements k [])
listed_in_joined plan r k h =
    ap (λ n. flat_map (entry_bytes r k) (range_with_len 0 n)) (counts r.elements plan.odts k h.elements)
    ∙ numbers_all (λ (b : List ℕ). b) (entry_bytes r k) [] 0 (get_or r.elements k [])
    (λ i. ap (entry_bytes r k) (omega arith) ∙ unwrap_or-slice_get (get_or r.elements k []) i [])

pub listed_are_joined : (plan : ListPlan) (r : Recorded) → IsRecorded plan r → listed plan r ≡ joined r
listed_are_joined plan r h =
    ap (λ n. flat_map (listed_in plan r) (range_with_len 0 n)) (same_count lengths sizes r.elements plan.odts h.elements)
    ∙ numbers_all joined_entries (listed_in plan r) [] 0 r.elements
    (λ i. ap (listed_in plan r) (omega arith) ∙ listed_in_joined plan r i h)

-- the entries of an ODT have at most as many bytes as a packet
pub odt_is_small : (plan : ListPlan) (k : ℕ) → IsPlan plan → entries_len (odt plan k) ≤ most_of_odt
odt_is_small plan k is = elim (cases_lt k (length plan.odts)) [
  | inl here ↦ omega (arith, is.short k here, is.form.1)
  | inr past ↦ omega (arith, ap entries_len (get_or_past plan.odts k [] past))
]

many_are_small : (odts : List (List OdtEntry)) → ((k : ℕ) → entries_len (get_or odts k []) ≤ most_of_odt) → odts_len odts ≤ most_of_odt * length odts
many_are_small [] h = omega arith
many_are_small (es ∷ odts) h = omega (arith, h 0, many_are_small odts (λ k. h (suc k)), sum_by-cons entries_len es odts)

pub sample_is_small : (plan : ListPlan) → IsPlan plan → odts_len plan.odts ≤ most_of_sample
sample_is_small plan is = omega (arith, many_are_small plan.odts (λ k. odt_is_small plan k is), is.limit)

pub front_is_small : (plan : ListPlan) (n : ℕ) → IsPlan plan → odts_len (take n plan.odts) ≤ most_of_sample
front_is_small plan n is = omega (arith, sum_by-take-le entries_len plan.odts n, sample_is_small plan is)

pub entries_are_small : (plan : ListPlan) (k n : ℕ) → IsPlan plan → entries_len (take n (odt plan k)) ≤ most_of_odt
entries_are_small plan k n is = omega (arith, sum_by-take-le (λ (e : OdtEntry). e.1) (odt plan k) n, odt_is_small plan k is)

-- the bytes of one entry more
pub entries_more : (es : List OdtEntry) (i : ℕ) (e : OdtEntry) → slice_get es i ≡ Some e → entries_len (take (i + 1) es) ≡ entries_len (take i es) + e.1
entries_more es i e h =
    sum_by_more (λ (e : OdtEntry). e.1) es i (0, 0) (slice_get_within es i e h)
    ∙ ap (λ (x : OdtEntry). entries_len (take i es) + x.1) (get_or_from_slice_get es i e (0, 0) h)
