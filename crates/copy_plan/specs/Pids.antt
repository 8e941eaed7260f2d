-- The identification field of a DAQ packet (ASAM MCD-1 XCP, protocol layer, identification field):
-- the PID, which is FIRST_PID of the list plus the number of the ODT; with a relative ODT number,
-- where FIRST_PID is 0, the number of the list behind it. The PID's highest bit is the overload
-- indication.
use Rattle.std.specs.Prelude.{◌≡◌, ◌≢◌, ℕ, ◌+◌, ◌%◌, ◌<◌, ◌≤◌, Bool, false, List, length}
use Rattle.xcp_base.specs.declared.id_kind.IdKind.{IdKind}
use Rattle.xcp_base.specs.declared.id_kind.IdKind.TheVariants.{Absolute}
use Rattle.xcp_base.specs.Forms.{id_field, list_field, pid_byte}
use Rattle.daq_store.specs.declared.command.Command.{Command}
use Rattle.daq_store.specs.Shape.{odt_count, odts_before}
use Rattle.copy_plan.specs.Config.{ListPlan, IsPlan}

-- the PID of ODT k
abbrev pub pid : ListPlan → ℕ → Bool → ℕ
pid plan k overload = pid_byte plan.first_pid k overload

-- the identification field of ODT k
abbrev pub field : ListPlan → ℕ → Bool → List ℕ
field plan k overload = id_field plan.form.id plan.first_pid plan.list k overload

-- with an absolute ODT number the PIDs of a list are below FIRST_PID of each list with a higher
-- number
abbrev pub PidRanges : Type 0
PidRanges =
    (calls : List Command) (l m k : ℕ) → l < m → k < odt_count calls l
    → odts_before calls l + k < odts_before calls m

-- the overload indication changes the highest bit alone, and without it a PID is at most 0x7B
abbrev pub MarkedPid : Type 0
MarkedPid =
    (plan : ListPlan) (k : ℕ) (overload : Bool) → IsPlan plan → k < length plan.odts
    → (pid plan k overload % 128 ≡ pid plan k false) × (pid plan k false ≤ 0x7B)

-- a relative ODT number is the PID without the overload indication, and at most 0x7B
abbrev pub RelativePid : Type 0
RelativePid =
    (plan : ListPlan) (k : ℕ) → IsPlan plan → plan.form.id ≢ Absolute → k < length plan.odts
    → (pid plan k false ≡ k) × (pid plan k false ≤ 0x7B)

-- FIRST_PID and the number of ODTs are those of list l after some calls
pub record IsOfList (calls : List Command) (l : ℕ) (plan : ListPlan) : Type 0 where
  pub first_pid : plan.first_pid ≡ odts_before calls l
  pub odts : length plan.odts ≡ odt_count calls l

-- with an absolute ODT number plans of two lists of one store have no PID in common
abbrev pub PidsApart : Type 0
PidsApart =
    (calls : List Command) (l m : ℕ) (p q : ListPlan) → IsPlan p → IsPlan q
    → IsOfList calls l p → IsOfList calls m q → l ≢ m
    → (k j : ℕ) → k < length p.odts → j < length q.odts → (a b : Bool) → pid p k a ≢ pid q j b

-- with a relative ODT number packets of two lists differ in the number behind the PID
abbrev pub ListFieldsApart : Type 0
ListFieldsApart =
    (id : IdKind) (l m : ℕ) → id ≢ Absolute → l ≢ m → list_field id l ≢ list_field id m
