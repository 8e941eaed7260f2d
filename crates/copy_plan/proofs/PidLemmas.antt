-- The PIDs of the lists of a store.
use Rattle.std.proofs.Common.{inl, inr, if◌then◌else◌, ◌==◌, ◌&&◌, true, false, ◌≡◌, ◌≢◌, ℕ, zero, suc, ◌+◌, ◌%◌, ◌<◌, ◌≤◌, length, refl, sym, ap, ◌∙◌, arith}
use Rattle.std.specs.Prelude.{sum_by}
use Rattle.std.specs.List.{range_with_len}
use Rattle.std.proofs.lemmas.Bool.{cases_lt}
use Rattle.std.proofs.lemmas.Grind.{common_steps}
use Rattle.std.proofs.lemmas.List.Sums.{sum_by-cons}
use Rattle.xcp_base.specs.declared.id_kind.IdKind.{IdKind}
use Rattle.xcp_base.specs.declared.id_kind.IdKind.TheVariants.{Absolute, RelativeByte, RelativeWord}
use Rattle.xcp_base.specs.Forms.{FitsFirstPid}
use Rattle.xcp_base.proofs.FormLemmas.{list_field-apart}
use Rattle.daq_store.specs.Shape.{odt_count}
use Rattle.copy_plan.specs.Config.{ListPlan}
use Rattle.copy_plan.specs.Pids.{pid, ListFieldsApart, MarkedPid, PidRanges, PidsApart, RelativePid}

-- each number of a range counts in the sum over it
in_range : (f : ℕ → ℕ) (n a l : ℕ) → l < n → sum_by f (range_with_len a l) + f (a + l) ≤ sum_by f (range_with_len a n)
in_range f zero a l h = absurd (omega (arith, h))
in_range f (suc n) a zero h =
    let here : f (a + 0) ≡ f a = ap f (omega arith) in
    omega (arith, here, sum_by-cons f a (range_with_len (a + 1) n))
in_range f (suc n) a (suc l) h =
    let here : f (a + suc l) ≡ f (a + 1 + l) = ap f (omega arith) in
    omega (arith, here, in_range f n (a + 1) l (omega (arith, h)), sum_by-cons f a (range_with_len (a + 1) n), sum_by-cons f a (range_with_len (a + 1) l))

-- the overload indication is the highest bit, and leaves the others
pub marked_pid : MarkedPid
marked_pid plan k overload is here = grind (arith, common_steps, is.pids)

pub pid_ranges : PidRanges
pid_ranges calls l m k h here =
    let at : odt_count calls (0 + l) ≡ odt_count calls l = ap (odt_count calls) (omega arith) in
    omega (arith, here, at, in_range (odt_count calls) m 0 l h)

-- without the overload indication a PID is FIRST_PID and the number of the ODT
unmarked : (plan : ListPlan) (k : ℕ) → pid plan k false ≡ plan.first_pid + k
unmarked plan k = elim (k == 0) as (λ v. plan.first_pid + k + (if v && false then 128 else 0) ≡ plan.first_pid + k) [ true ↦ omega arith | false ↦ omega arith ]

-- FIRST_PID is 0 with a relative ODT number
first_is_0 : (id : IdKind) (n f : ℕ) → id ≢ Absolute → FitsFirstPid id n f → f ≡ 0
first_is_0 Absolute n f relative h = absurd (relative refl)
first_is_0 RelativeByte n f relative h = h
first_is_0 RelativeWord n f relative h = h

pub relative_pid : RelativePid
relative_pid plan k is relative here =
    let first : plan.first_pid ≡ 0 = first_is_0 plan.form.id (length plan.odts) plan.first_pid relative is.first in
    let same : pid plan k false ≡ k = omega (arith, unmarked plan k, first) in
    (same, omega (arith, same, is.limit, here))

pub list_fields_apart : ListFieldsApart
list_fields_apart id l m relative differ = list_field-apart id l m relative differ

pub pids_apart : PidsApart
pids_apart calls l m p q of_p of_q at_l at_m differ k j here there a b same =
    let first : pid p k a % 128 ≡ p.first_pid + k = (marked_pid p k a of_p here).0 ∙ unmarked p k in
    let second : pid q j b % 128 ≡ q.first_pid + j = (marked_pid q j b of_q there).0 ∙ unmarked q j in
    let equal : p.first_pid + k ≡ q.first_pid + j = sym first ∙ ap (λ n. n % 128) same ∙ second in
    let below : k < odt_count calls l = omega (arith, here, at_l.odts) in
    let above : j < odt_count calls m = omega (arith, there, at_m.odts) in
    elim (cases_lt l m) [
      | inl less ↦ omega (arith, equal, at_l.first_pid, at_m.first_pid, pid_ranges calls l m k less below)
      | inr more ↦ omega (arith, equal, at_l.first_pid, at_m.first_pid, pid_ranges calls m l j (omega (arith, more, differ)) above)
    ]
