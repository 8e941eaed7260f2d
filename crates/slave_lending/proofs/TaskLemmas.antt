-- Tasks that are handed out, taken back and come back, by the slots of a slave.
use Rattle.std.proofs.lemmas.Bool.Decides.{eqb_tells}
use Rattle.std.proofs.lemmas.Option.{same_Some, slice_get_within}
use Rattle.std.proofs.Common.{◌≡◌, ◌≤◌, inr, ℕ, zero, suc, ◌+◌, ◌<◌, true, false, List, [], ◌∷◌, length, set, get_or, Some, refl, sym, ap, subst, ◌∙◌, inl, arith}
use Rattle.std.specs.Prelude.{slice_get, Result, Ok, Err, IfOk, IfErr, OnErr, OnOk}
use Rattle.std.proofs.lemmas.List.{length-set, set-set}
use Rattle.frame_ring.specs.declared.frame_send.FrameSend.{FrameSend}
use Rattle.slave.specs.Standing.{SlaveState}
use Rattle.frame_writer.specs.Reading.{ReaderState}
use Rattle.slave_channels.specs.Inner.{IsFront}
use Rattle.slave_channels.proofs.EachLemmas.{front-next, front-none, front-rest, get-set_same, get-set_other, read_at, set_back}
use Rattle.tasks.specs.Tasks.{TaskState}
use Rattle.slave_lending.specs.Lends.{Collects, LendsTask, NoneAway, RefusesAt, RefusesTask, SomeAway}
use Rattle.slave_lending.specs.Slots.{MayComeBack, SlotState, away, is_away, with_task}
use Rattle.slave_lending.specs.States.{LendingSlaveState}
use Rattle.slave_lending.specs.declared.lend_fault.LendFault.{LendFault}
use Rattle.slave_lending.specs.declared.lend_fault.LendFault.TheVariants as fault

set-there : {A : Type 0} (xs : List A) (c : ℕ) (x : A) → slice_get xs c ≡ Some x → set xs c x ≡ xs
set-there [] c x at = refl
set-there (y ∷ ys) zero x at = let same : y ≡ x = cc in ap (λ z. z ∷ ys) (sym same)
set-there (y ∷ ys) (suc c) x at = ap (λ zs. y ∷ zs) (set-there ys c x at)

-- a slave with these slots
abbrev pub with_slots : SlaveState → ReaderState → List SlotState → LendingSlaveState
with_slots slave stream slots = record { slave = slave; stream = stream; tasks = slots }

module _ (slave : SlaveState) (stream : ReaderState) (xs : List SlotState) (now : LendingSlaveState)
    (is : with_slots slave stream xs ≡ now) (c : ℕ) where
  -- the task that is there is handed out
  lends : (x y : SlotState) (task : TaskState FrameSend) → c < length xs → x ≡ get_or xs c x → x ≡ with_task task → y ≡ away x.ring
      → LendsTask now (with_slots slave stream (set xs c y)) c task
  lends x y task there read here gone =
      subst (λ (a : LendingSlaveState). LendsTask a (with_slots slave stream (set xs c y)) c task) is (record {
        here = read_at xs c x read there ∙ ap (λ (s : SlotState). Some s) here;
        away = ap (λ (s : SlotState). set xs c s) gone ∙ ap (λ (s : SlotState). set xs c (away s.ring)) here;
        slave = refl;
        stream = refl;
      })

  pub lends-if : (x y : SlotState) (result : Result (TaskState FrameSend) LendFault) → c < length xs → x ≡ get_or xs c x
      → IfOk result (λ task. x ≡ with_task task) → OnOk result (y ≡ away x.ring)
      → IfOk result (LendsTask now (with_slots slave stream (set xs c y)) c)
  lends-if x y (Ok task) there read here gone = lends x y task there read here gone
  lends-if x y (Err e) there read here gone = tt

  refuses : (x : SlotState) (e : LendFault) → c < length xs → x ≡ get_or xs c x → RefusesAt x e → RefusesTask now c e
  refuses x fault.NoChannel there read so = absurd so
  refuses x fault.Lent there read so =
      subst (λ (a : LendingSlaveState). RefusesTask a c fault.Lent) is (x, read_at xs c x read there, so)
  refuses x fault.Memory there read so =
      subst (λ (a : LendingSlaveState). RefusesTask a c fault.Memory) is (x, read_at xs c x read there, so)

  pub refuses-if : (x : SlotState) (result : Result (TaskState FrameSend) LendFault) → c < length xs → x ≡ get_or xs c x
      → IfErr result (RefusesAt x) → IfErr result (RefusesTask now c)
  refuses-if x (Ok task) there read so = tt
  refuses-if x (Err e) there read so = refuses x e there read so

  -- the task that was handed out is there again
  pub back-as-before : (before : LendingSlaveState) (task : TaskState FrameSend) (y : SlotState) → y ≡ with_task task → LendsTask before now c task
      → with_slots slave stream (set xs c y) ≡ before
  back-as-before before task y same lent =
      let tasks : set xs c y ≡ before.tasks
      = ap (λ (s : SlotState). set xs c s) same
      ∙ (ap (λ (a : LendingSlaveState). set a.tasks c (with_task task)) is
      ∙ (ap (λ (ts : List SlotState). set ts c (with_task task)) lent.away
      ∙ (set-set before.tasks c (away task.ring) (with_task task)
      ∙ set-there before.tasks c (with_task task) lent.here))) in
      ap (λ (ts : List SlotState). record { slave = slave; stream = stream; tasks = ts }) tasks
      ∙ (ap (λ (s : SlaveState). record { slave = s; stream = stream; tasks = before.tasks }) (ap (λ (a : LendingSlaveState). a.slave) is ∙ lent.slave)
      ∙ ap (λ (r : ReaderState). record { slave = before.slave; stream = r; tasks = before.tasks }) (ap (λ (a : LendingSlaveState). a.stream) is ∙ lent.stream))

  -- and it is of that slot's line
  pub lent-line : (before : LendingSlaveState) (task : TaskState FrameSend) (x : SlotState) → LendsTask before now c task → x ≡ get_or xs c x → c < length xs → x.ring ≡ task.ring
  lent-line before task x lent read there =
      let same : xs ≡ set before.tasks c (away task.ring) = ap (λ (a : LendingSlaveState). a.tasks) is ∙ lent.away in
      let inside = slice_get_within before.tasks c (with_task task) lent.here in
      ap (λ (s : SlotState). s.ring)
      (same_Some x (away task.ring) (sym (read_at xs c x read there) ∙ ap (λ (ys : List SlotState). slice_get ys c) same ∙ get-set_same before.tasks c (away task.ring) inside))

  -- where none was handed out, nothing changed
  pub stays-if : {A E : Type 0} (x y : SlotState) (result : Result A E) → x ≡ get_or xs c x → OnErr result (y ≡ x)
      → OnErr result (with_slots slave stream (set xs c y) ≡ now)
  stays-if x y (Ok task) read same = tt
  stays-if x y (Err e) read same = ap (λ (ys : List SlotState). with_slots slave stream ys) (set_back xs c x y read same) ∙ is

  -- a task was handed out only where there is one
  pub lent-there : (before : LendingSlaveState) (task : TaskState FrameSend) → LendsTask before now c task → c < length xs
  lent-there before task lent =
      let same : xs ≡ set before.tasks c (away task.ring) = ap (λ (a : LendingSlaveState). a.tasks) is ∙ lent.away in
      let size : length xs ≡ length before.tasks = ap (λ (ts : List SlotState). length ts) same ∙ length-set before.tasks c (away task.ring) in
      omega (arith, size, slice_get_within before.tasks c (with_task task) lent.here)

-- tasks come back one by one
abbrev pub Front : ℕ → List SlotState → List SlotState → Type 0
Front n old now = IsFront (λ k. MayComeBack) n old now

-- of the first n none is away
abbrev pub NoneBelow : ℕ → List SlotState → Type 0
NoneBelow n now = (k : ℕ) (at : SlotState) → k < n → slice_get now k ≡ Some at → is_away at ≡ false

pub none-below : (ts : List SlotState) → NoneBelow 0 ts
none-below ts = λ k at below is. absurd (omega (arith, below))

pub none-more : (ts : List SlotState) (c : ℕ) (y : SlotState) → c < length ts → NoneBelow c ts → is_away y ≡ false → NoneBelow (c + 1) (set ts c y)
none-more ts c y there none not_away = λ k at below is.
    elim (eqb_tells k c) [
      | inl w ↦
          let here : slice_get (set ts c y) c ≡ Some at = subst (λ j. slice_get (set ts c y) j ≡ Some at) w.1 is in
          let same : y ≡ at = same_Some y at (sym (get-set_same ts c y there) ∙ here) in
          subst (λ (s : SlotState). is_away s ≡ false) same not_away
      | inr w ↦ none k at (omega (arith, below, w.1)) (sym (get-set_other ts c k y w.1) ∙ is)
    ]

-- the slot at place c may have changed
pub front-more : (old xs : List SlotState) (c : ℕ) (x y : SlotState) → x ≡ get_or xs c x → c < length xs
    → Front c old xs → MayComeBack x y → Front (c + 1) old (set xs c y)
front-more old xs c x y read there so_far may = front-next (λ k. MayComeBack) c old xs x y read there so_far may

-- a task that is away is some
pub some-away : (slave : SlaveState) (stream : ReaderState) (xs : List SlotState) (c : ℕ) (y : SlotState) → c < length xs
    → is_away y ≡ true → SomeAway (with_slots slave stream (set xs c y))
some-away slave stream xs c y there gone = (c, (y, get-set_same xs c y there, gone))

-- where none is at any place, none is
pub none-away : (slave : SlaveState) (stream : ReaderState) (xs : List SlotState) (n : ℕ) → length xs ≤ n → NoneBelow n xs
    → NoneAway (with_slots slave stream xs)
none-away slave stream xs n all none = λ c at is. none c at (omega (arith, all, slice_get_within xs c at is)) is

-- what is left of tasks came back
pub collects : (a : LendingSlaveState) (slave : SlaveState) (stream : ReaderState) (xs : List SlotState) (n : ℕ)
    → slave ≡ a.slave → stream ≡ a.stream → Front n a.tasks xs → Collects a (with_slots slave stream xs)
collects a slave stream xs n one two so_far = record {
  tasks = front-rest (λ k. MayComeBack) n a.tasks xs (λ k s. inl refl) so_far;
  slave = one;
  stream = two;
}

-- nothing changed yet
pub front-here : (a : LendingSlaveState) (slave : SlaveState) (stream : ReaderState) (xs : List SlotState) → with_slots slave stream xs ≡ a
    → Front 0 a.tasks xs
front-here a slave stream xs is =
    subst (λ (b : LendingSlaveState). Front 0 b.tasks xs) is (front-none (λ k. MayComeBack) xs)
