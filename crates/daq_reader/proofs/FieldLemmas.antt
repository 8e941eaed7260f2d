-- A packet that passes the checks begins with the identification field of its ODT, and the other way
-- round.
use Rattle.std.proofs.Common.{inl, inr, ◌⊎◌, Bool, true, false, not, if◌then◌else◌, ◌==◌, ◌≡◌, ℕ, ◌+◌, ◌*◌, ◌/◌, ◌%◌, ◌<◌, ◌≤◌, nat_lt, List, [], ◌∷◌, ◌++◌, length, drop, refl, ap, ◌∙◌, arith, Option, Some, None, length-append, length-drop}
use Rattle.std.specs.Prelude.{All, slice_index}
use Rattle.std.proofs.lemmas.Bool.Decides.{nat_tests}
use Rattle.std.proofs.lemmas.List.Elements.{All-head, All-tail}
use Rattle.xcp_base.specs.declared.id_kind.IdKind.{IdKind}
use Rattle.xcp_base.specs.declared.id_kind.IdKind.TheVariants.{Absolute, RelativeByte, RelativeWord}
use Rattle.xcp_base.specs.Forms.{field_len, id_field, names, pid_byte}
use Rattle.xcp_base.proofs.FormLemmas.{length-id_field, names-id_field}
use Rattle.copy_plan.specs.Config.{IsPlan, ListPlan}
use Rattle.copy_plan.specs.Pids.{field, pid}
use Rattle.daq_reader.specs.declared.packet_fault.PacketFault.{PacketFault}
use Rattle.daq_reader.specs.declared.packet_fault.PacketFault.TheVariants.{OtherList, OutOfTurn, WrongLength}
use Rattle.daq_reader.specs.Recorded.{is_of_list}
use Rattle.daq_reader.specs.Faults.{fault_of, is_pid, len_of}
use Rattle.daq_reader.specs.Inner.Fitting.{Fits}

-- a packet that names the list and has this PID begins with the identification field
pub field_in_front : (id : IdKind) (f n l k : ℕ) (o : Bool) (q : List ℕ) → field_len id ≤ length q → names id f n l q ≡ true → slice_index q 0 ≡ pid_byte f k o → All (λ (b : ℕ). b < 256) q → q ≡ id_field id f l k o ++ drop (field_len id) q
field_in_front Absolute f n l k o [] long is first small = absurd (omega (arith, long))
field_in_front Absolute f n l k o (x ∷ xs) long is first small = ap (λ (b : ℕ). b ∷ xs) first
field_in_front RelativeByte f n l k o [] long is first small = absurd (omega (arith, long))
field_in_front RelativeByte f n l k o (x ∷ []) long is first small = absurd (omega (arith, long))
field_in_front RelativeByte f n l k o (x ∷ y ∷ xs) long is first small =
    let number : y ≡ l = grind (arith, nat_tests) in
    ap (λ (b : ℕ). b ∷ y ∷ xs) first ∙ ap (λ (b : ℕ). pid_byte f k o ∷ b ∷ xs) number
field_in_front RelativeWord f n l k o [] long is first small = absurd (omega (arith, long))
field_in_front RelativeWord f n l k o (x ∷ []) long is first small = absurd (omega (arith, long))
field_in_front RelativeWord f n l k o (x ∷ y ∷ []) long is first small = absurd (omega (arith, long))
field_in_front RelativeWord f n l k o (x ∷ y ∷ z ∷ xs) long is first small =
    let number : y + 256 * z ≡ l = grind (arith, nat_tests) in
    let second : y < 256 = All-head (λ (b : ℕ). b < 256) y (z ∷ xs) (All-tail (λ (b : ℕ). b < 256) x (y ∷ z ∷ xs) small) in
    let low : y ≡ l % 256 = omega arith in
    let high : z ≡ l / 256 = omega arith in
    ap (λ (b : ℕ). b ∷ y ∷ z ∷ xs) first ∙ ap (λ (b : ℕ). pid_byte f k o ∷ b ∷ z ∷ xs) low ∙ ap (λ (b : ℕ). pid_byte f k o ∷ l % 256 ∷ b ∷ xs) high

-- the checks, one after another
abbrev first_fault : Bool → Bool → Bool → Bool → Option PacketFault
first_fault a b c d =
    if a then Some OtherList
    else if not b then Some OtherList
    else if not c then Some OutOfTurn
    else if d then None else Some WrongLength

record Passed (a b c d : Bool) : Type 0 where
  long : a ≡ false
  list : b ≡ true
  odt : c ≡ true
  len : d ≡ true

all_passed : (a b c d : Bool) → first_fault a b c d ≡ None → Passed a b c d
all_passed true b c d h = absurd (cc)
all_passed false false c d h = absurd (cc)
all_passed false true false d h = absurd (cc)
all_passed false true true false h = absurd (cc)
all_passed false true true true h = record { long = refl; list = refl; odt = refl; len = refl }

none_fails : (a b c d : Bool) → a ≡ false → b ≡ true → c ≡ true → d ≡ true → first_fault a b c d ≡ None
none_fails a b c d long list odt len = rw (long, list, odt, len)

-- a first byte is that of the ODT with the overload indication, or without
pub record HasPid (plan : ListPlan) (k : ℕ) (q : List ℕ) : Type 0 where
  pub overload : Bool
  pub first : slice_index q 0 ≡ pid plan k overload

same : (a b : ℕ) → (a == b) ≡ true → a ≡ b
same a b h = grind (arith, nat_tests)

one_of : (plan : ListPlan) (k : ℕ) (q : List ℕ) (b : Bool) → (slice_index q 0 == pid plan k false) ≡ b → (if b then true else slice_index q 0 == pid plan k true) ≡ true → HasPid plan k q
one_of plan k q true is h = record { overload = false; first = same _ _ is }
one_of plan k q false is h = record { overload = true; first = same _ _ h }

pub has_pid : (plan : ListPlan) (k : ℕ) (q : List ℕ) → is_pid plan k q ≡ true → HasPid plan k q
has_pid plan k q h = one_of plan k q (slice_index q 0 == pid plan k false) refl h

is_same : (a b : ℕ) → a ≡ b → (a == b) ≡ true
is_same a b h = grind (arith, nat_tests)

-- the bytes of a packet without fault
pub fits : (plan : ListPlan) (k : ℕ) (q : List ℕ) → All (λ (b : ℕ). b < 256) q → fault_of plan k q ≡ None → Fits plan k q
fits plan k q small none =
    let passed : Passed (nat_lt (length q) (field_len plan.form.id)) (is_of_list plan q) (is_pid plan k q) (length q == len_of plan k)
    = all_passed (nat_lt (length q) (field_len plan.form.id)) (is_of_list plan q) (is_pid plan k q) (length q == len_of plan k) none in
    let long : field_len plan.form.id ≤ length q = grind (arith, nat_tests, passed.long) in
    let at = has_pid plan k q passed.odt in
    record {
      overload = at.overload;
      rest = drop (field_len plan.form.id) q;
      is = field_in_front plan.form.id plan.first_pid (length plan.odts) plan.list k at.overload q long passed.list at.first small;
      len = omega (arith, same (length q) (len_of plan k) passed.len, length-drop (field_len plan.form.id) q);
    }

-- it has the length of its ODT's packet
pub len_is : (plan : ListPlan) (k : ℕ) (q : List ℕ) → fault_of plan k q ≡ None → length q ≡ len_of plan k
len_is plan k q none =
    same (length q) (len_of plan k) (all_passed (nat_lt (length q) (field_len plan.form.id)) (is_of_list plan q) (is_pid plan k q) (length q == len_of plan k) none).len

is_either : (x a b : ℕ) → (x ≡ a) ⊎ (x ≡ b) → (if x == a then true else x == b) ≡ true
is_either x a b h = grind (arith, nat_tests)

pid_is : (plan : ListPlan) (k : ℕ) (o : Bool) (q : List ℕ) → slice_index q 0 ≡ pid plan k o → is_pid plan k q ≡ true
pid_is plan k true q h = is_either (slice_index q 0) (pid plan k false) (pid plan k true) (inr h)
pid_is plan k false q h = is_either (slice_index q 0) (pid plan k false) (pid plan k true) (inl h)

first_of : (id : IdKind) (f l k : ℕ) (o : Bool) (rest : List ℕ) → slice_index (id_field id f l k o ++ rest) 0 ≡ pid_byte f k o
first_of id f l k o rest = refl

not_below : (a b : ℕ) → b ≤ a → nat_lt a b ≡ false
not_below a b h = grind (arith, nat_tests)

-- a packet of the ODT has no fault
pub no_fault : (plan : ListPlan) (k : ℕ) (q : List ℕ) → IsPlan plan → k < length plan.odts → Fits plan k q → fault_of plan k q ≡ None
no_fault plan k q is here h =
    let front : List ℕ = field plan k h.overload in
    let size : length q ≡ field_len plan.form.id + length h.rest = ap length h.is ∙ length-append front h.rest ∙ ap (λ n. n + length h.rest) (length-id_field plan.form.id plan.first_pid plan.list k h.overload) in
    none_fails (nat_lt (length q) (field_len plan.form.id)) (is_of_list plan q) (is_pid plan k q) (length q == len_of plan k)
    (not_below _ _ (omega (arith, size)))
    (ap (is_of_list plan) h.is ∙ names-id_field plan.form.id plan.first_pid (length plan.odts) plan.list k h.overload h.rest is.pids here)
    (pid_is plan k h.overload q (ap (λ xs. slice_index xs 0) h.is ∙ first_of plan.form.id plan.first_pid plan.list k h.overload h.rest))
    (is_same _ _ (omega (arith, size, h.len)))
