-- The identification field of a packet names its own list, and no other.
use Rattle.std.proofs.Common.{inl, inr, ◌⊎◌, Bool, true, false, ◌&&◌, if◌then◌else◌, ◌≡◌, ◌≢◌, ℕ, ◌+◌, ◌*◌, ◌/◌, ◌%◌, ◌<◌, ◌≤◌, nat_le, nat_lt, nat_eq, List, ◌++◌, length, refl, sym, ap, ◌∙◌, arith}
use Rattle.std.proofs.lemmas.Bool.{eq-eqb}
use Rattle.std.proofs.lemmas.Bool.Decides.{nat_tests}
use Rattle.std.proofs.Math.Nat.{mod-add-div}
use Rattle.xcp_base.specs.declared.id_kind.IdKind.{IdKind}
use Rattle.xcp_base.specs.declared.id_kind.IdKind.TheVariants.{Absolute, RelativeByte, RelativeWord}
use Rattle.xcp_base.specs.declared.stamp_size.StampSize.{StampSize}
use Rattle.xcp_base.specs.declared.stamp_size.StampSize.TheVariants.{One, Two, Four}
use Rattle.xcp_base.specs.Forms.{FitsFirstPid, field_len, first_pid_behind, id_field, list_field, most_odts, names, pid_of, stamp_bytes, stamp_field}

-- of a list, FIRST_PID and the number of its ODTs are at most 124 in all
pub fits_all : (id : IdKind) (n f : ℕ) → n ≤ 124 → FitsFirstPid id n f → f + n ≤ 124
fits_all Absolute n f few h = h
fits_all RelativeByte n f few h = omega (arith, few, h)
fits_all RelativeWord n f few h = omega (arith, few, h)

-- FIRST_PID, where the ODTs of the lists before and the own ones are no more than there may be
pub fits_behind : (id : IdKind) (before n : ℕ) → before + n ≤ most_odts id → FitsFirstPid id n (first_pid_behind id before)
fits_behind Absolute before n h = h
fits_behind RelativeByte before n h = refl
fits_behind RelativeWord before n h = refl

within : (a b x : ℕ) → a ≤ x → x < b → (nat_le a x && nat_lt x b) ≡ true
within a b x low high = grind (arith, nat_tests)

marked_within : (f n k : ℕ) (b : Bool) → f + n ≤ 124 → k < n → (nat_le f ((f + k + (if b then 128 else 0)) % 128) && nat_lt ((f + k + (if b then 128 else 0)) % 128) (f + n)) ≡ true
marked_within f n k true room h = within f (f + n) ((f + k + 128) % 128) (omega arith) (omega arith)
marked_within f n k false room h = within f (f + n) ((f + k + 0) % 128) (omega arith) (omega arith)

-- the field of an ODT of a list names the list
pub names-id_field : (id : IdKind) (f n l k : ℕ) (overload : Bool) (rest : List ℕ) → f + n ≤ 124 → k < n → names id f n l (id_field id f l k overload ++ rest) ≡ true
names-id_field Absolute f n l k overload rest room h = marked_within f n k (nat_eq k 0 && overload) room h
names-id_field RelativeByte f n l k overload rest room h = eq-eqb l l refl
names-id_field RelativeWord f n l k overload rest room h = eq-eqb (l % 256 + 256 * (l / 256)) l (mod-add-div l 256)

-- two lists have PIDs apart, where these tell the lists apart
abbrev pub AreApart : IdKind → ℕ → ℕ → ℕ → ℕ → Type 0
AreApart Absolute f n g m = (f + n ≤ g) ⊎ (g + m ≤ f)
AreApart RelativeByte f n g m = Unit {0}
AreApart RelativeWord f n g m = Unit {0}

pub apart_behind : (id : IdKind) (a n b m : ℕ) → (a + n ≤ b) ⊎ (b + m ≤ a) → AreApart id (first_pid_behind id a) n (first_pid_behind id b) m
apart_behind Absolute a n b m h = h
apart_behind RelativeByte a n b m h = tt
apart_behind RelativeWord a n b m h = tt

not_both : (f n g m x : ℕ) → (f + n ≤ g) ⊎ (g + m ≤ f) → (nat_le f x && nat_lt x (f + n)) ≡ true → (nat_le g x && nat_lt x (g + m)) ≡ false
not_both f n g m x (inl h) is = grind (arith, nat_tests)
not_both f n g m x (inr h) is = grind (arith, nat_tests)

other_number : (l r x : ℕ) → l ≢ r → nat_eq x l ≡ true → nat_eq x r ≡ false
other_number l r x differ is = grind (arith, nat_tests)

-- a field that names a list names no other
pub names-apart : (id : IdKind) (f n l g m r : ℕ) (q : List ℕ) → l ≢ r → AreApart id f n g m → names id f n l q ≡ true → names id g m r q ≡ false
names-apart Absolute f n l g m r q differ apart is = not_both f n g m (pid_of q) apart is
names-apart RelativeByte f n l g m r q differ apart is = other_number l r _ differ is
names-apart RelativeWord f n l g m r q differ apart is = other_number l r _ differ is

-- the list fields of two lists differ, where there are such
pub list_field-apart : (id : IdKind) (l r : ℕ) → id ≢ Absolute → l ≢ r → list_field id l ≢ list_field id r
list_field-apart Absolute l r relative differ same = relative refl
list_field-apart RelativeByte l r relative differ same = let e : l ≡ r = cc in differ e
list_field-apart RelativeWord l r relative differ same =
    let low : l % 256 ≡ r % 256 = cc in
    let high : l / 256 ≡ r / 256 = cc in
    differ (sym (mod-add-div l 256) ∙ ap (λ n. n + 256 * (l / 256)) low ∙ ap (λ n. r % 256 + 256 * n) high ∙ mod-add-div r 256)

pub field_len-limit : (id : IdKind) → field_len id ≤ 3
field_len-limit Absolute = omega arith
field_len-limit RelativeByte = omega arith
field_len-limit RelativeWord = omega arith

pub length-id_field : (id : IdKind) (f l k : ℕ) (overload : Bool) → length (id_field id f l k overload) ≡ field_len id
length-id_field Absolute f l k overload = refl
length-id_field RelativeByte f l k overload = refl
length-id_field RelativeWord f l k overload = refl

pub length-stamp_field : (size : StampSize) (ticks : ℕ) → length (stamp_field size ticks) ≡ stamp_bytes size
length-stamp_field One ticks = refl
length-stamp_field Two ticks = refl
length-stamp_field Four ticks = refl
