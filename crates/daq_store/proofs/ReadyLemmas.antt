-- Readiness, ODT by ODT.
use Rattle.std.proofs.Common.{inl, inr, suc, zero, [], Option, ◌≡◌, ℕ, ◌+◌, ◌<◌, ◌≤◌, Bool, true, false, ◌&&◌, List, ◌∷◌, ◌++◌, length, get_or, take, refl, sym, ◌∙◌, ap, arith, nat_le, add-zero, zero-add}
use Rattle.std.specs.List.{list_all, range_with_len}
use Rattle.std.proofs.lemmas.Bool.Decides.{leb_tells}
use Rattle.std.proofs.lemmas.List.{get_or_default}
use Rattle.std.proofs.lemmas.List.Folds.{list_all-append, list_all_at, list_all_more}
use Rattle.std.proofs.lemmas.List.FromFn.{get_or-range_with_len, length-range_with_len}
use Rattle.std.proofs.lemmas.Option.{unwrap_or-slice_get}
use Rattle.xcp_base.specs.Packets.{packet_len}
use Rattle.segments.specs.declared.segment.Segment.{Segment}
use Rattle.daq_store.specs.declared.entry.Entry.{Entry}
use Rattle.daq_store.specs.Calls.{numbers_below}
use Rattle.daq_store.specs.Configuration.{Configuration, odt_entries, entries_len, are_short, is_short, is_ready, is_stamped}

-- one more number
range_more : (n a : ℕ) → range_with_len a (n + 1) ≡ range_with_len a n ++ (a + n) ∷ []
range_more zero a = simp add-zero refl
range_more (suc n) a =
    let here : a + 1 + n ≡ a + suc n = omega arith in
    let more : range_with_len (a + 1) (n + 1) ≡ range_with_len (a + 1) n ++ (a + suc n) ∷ []
    = range_more n (a + 1) ∙ ap (λ (k : ℕ). range_with_len (a + 1) n ++ k ∷ []) here in
    let one : suc n + 1 ≡ suc (n + 1) = omega arith in
    ap (range_with_len a) one ∙ ap (λ (t : List ℕ). a ∷ t) more

-- a test of all numbers below one more
pub all_more : (test : ℕ → Bool) (k : ℕ) → list_all test (numbers_below k) ≡ true → test k ≡ true
    → list_all test (numbers_below (k + 1)) ≡ true
all_more test k all here =
    let last : list_all test ((0 + k) ∷ []) ≡ true = rw (zero-add, here) refl in
    ap (list_all test) (range_more k 0) ∙ list_all-append test (numbers_below k) ((0 + k) ∷ []) ∙ rw (all, last) refl

-- a test of one element more
pub all_taken : {X : Type 0} (test : X → Bool) (xs : List X) (k : ℕ) (x : X) → k < length xs → x ≡ get_or xs k x
    → list_all test (take k xs) ≡ true → test x ≡ true → list_all test (take (k + 1) xs) ≡ true
all_taken test xs k x inside is all here = list_all_more test xs k x inside ∙ rw (all, ← is, here) refl

pub short_is : (n most : ℕ) → n ≤ most → nat_le n most ≡ true
short_is n most h = elim (leb_tells n most) [ inl t ↦ t.0 | inr t ↦ absurd (omega (arith, h, t.1)) ]

-- the entries of an ODT, as a loop finds it
pub odt_at : (c : Configuration) (k : ℕ) (x : List (Option Entry)) → k < length c.odts → x ≡ get_or c.odts k x → odt_entries c k ≡ x
odt_at c k x inside is = unwrap_or-slice_get c.odts k [] ∙ get_or_default c.odts k [] x inside ∙ sym is

-- a packet that is too long
and_false : (b : Bool) → (b && false) ≡ false
and_false true = refl
and_false false = refl

pub long_packet : (segments : List Segment) (c : Configuration) (k : ℕ) → k < length c.odts → c.form.max_dto < packet_len c.form (is_stamped c.mode) k (entries_len c k) → false ≡ is_ready segments c
long_packet segments c k inside long =
    let test : ℕ → Bool = is_short c in
    let fails : test k ≡ false
    = elim (leb_tells (packet_len c.form (is_stamped c.mode) k (entries_len c k)) c.form.max_dto) as (λ v. test k ≡ false) [ inl short ↦ absurd (omega (arith, long, short.1)) | inr t ↦ t.0 ] in
    let at : get_or (numbers_below (length c.odts)) k 0 ≡ k = get_or-range_with_len 0 (length c.odts) k 0 inside ∙ zero-add k in
    let within : k < length (numbers_below (length c.odts)) = rw (length-range_with_len 0 (length c.odts)) inside in
    let short : are_short c ≡ false = list_all_at test (numbers_below (length c.odts)) k 0 within (ap test at ∙ fails) in
    rw short (sym (and_false _))
