-- Laws of entries: what an entry is, by the newest exchange that says anything of it. They look at
-- the places of exchanges, with the newest in front.
use Rattle.std.specs.Prelude.{◌≡◌, ℕ, ◌<◌, ◌==◌, ◌&&◌, Bool, true, false, ⊤, List, ◌∷◌, ◌++◌}
use Rattle.std.specs.Prelude.{Some}
use Rattle.measured_values.specs.declared.byte_order.ByteOrder.{ByteOrder}
use Rattle.captured_session.specs.Commands.{command_of}
use Rattle.captured_session.specs.Exchanges.{Exchange}
use Rattle.captured_session.specs.Lists.{entry_at}
use Rattle.captured_session.specs.SetUps.{element_at, facts_after, form_after, moved, outcome_of}
use Rattle.captured_session.specs.SetUps.{pointer_after}
use Rattle.captured_session.specs.declared.command.Command.{Command}
use Rattle.captured_session.specs.declared.command.Command.TheVariants.{AllocDaq, AllocOdt}
use Rattle.captured_session.specs.declared.command.Command.TheVariants.{AllocOdtEntry, ClearDaqList}
use Rattle.captured_session.specs.declared.command.Command.TheVariants.{FreeDaq, Missing, WriteDaq}
use Rattle.captured_session.specs.declared.command.Command.TheVariants.{WriteDaqMultiple}
use Rattle.captured_session.specs.declared.element.Element.{Element}
use Rattle.captured_session.specs.declared.entry.Entry.TheVariants.{Is}
use Rattle.captured_session.specs.declared.form.Form.{Form}
use Rattle.captured_session.specs.declared.outcome.Outcome.{Outcome}
use Rattle.captured_session.specs.declared.outcome.Outcome.TheVariants.{Done, Refused, Unanswered}
use Rattle.captured_session.specs.declared.pointer.Pointer.{Pointer}
use Rattle.captured_session.specs.declared.pointer.Pointer.TheVariants.{At, Unknown, Within}

-- what is written at this pointer may be the entry, as far as is known
abbrev pub may_be : ℕ → ℕ → ℕ → Pointer → Bool
may_be list odt e Unknown = true
may_be list odt e (Within l o) = l == list && o == odt
may_be list odt e (At l o i) = l == list && o == odt && i == e

-- a command says nothing of the entry, if the pointer was this: it was refused, or speaks of other
-- lists or ODTs, or nothing that it wrote may be the entry. A WRITE_DAQ_MULTIPLE that was refused
-- may have written as well, and one that is missing may be any.
abbrev pub IsSilent : ℕ → ℕ → ℕ → Pointer → Command → Outcome → Type 0
IsSilent list odt e p (WriteDaqMultiple n) outcome =
    (i : ℕ) → i < n → may_be list odt e (moved i p) ≡ false
IsSilent list odt e p Missing outcome = ⊥
IsSilent list odt e p command Refused = ⊤
IsSilent list odt e p FreeDaq outcome = ⊥
IsSilent list odt e p AllocDaq outcome = ⊥
IsSilent list odt e p (AllocOdt l n) outcome = (l == list) ≡ false
IsSilent list odt e p (AllocOdtEntry l o n) Done = (l == list && o == odt) ≡ false
IsSilent list odt e p (AllocOdtEntry l o n) Unanswered = (l == list) ≡ false
IsSilent list odt e p (ClearDaqList l) outcome = (l == list) ≡ false
IsSilent list odt e p (WriteDaq x) outcome = may_be list odt e p ≡ false
IsSilent list odt e p command outcome = ⊤

-- entry i of the n of a WRITE_DAQ_MULTIPLE is this one, and was written to the entry of the list;
-- what was written behind it may not be that entry
pub record WritesOne (list odt e : ℕ) (x : Element) (order : ByteOrder) (p : Pointer) (c : List ℕ)
    (n : ℕ) : Type 0 where
  pub i : ℕ
  pub few : i < n
  pub here : moved i p ≡ At list odt e
  pub is : element_at order c i ≡ Some x
  pub last : (j : ℕ) → i < j → j < n → may_be list odt e (moved j p) ≡ false

-- a command was carried out, and wrote this one to the entry
abbrev pub Writes :
    ℕ → ℕ → ℕ → Element → ByteOrder → Pointer → List ℕ → Command → Outcome → Type 0
Writes list odt e x order p c (WriteDaq y) Done = (p ≡ At list odt e) × (y ≡ x)
Writes list odt e x order p c (WriteDaqMultiple n) Done = WritesOne list odt e x order p c n
Writes list odt e x order p c command outcome = ⊥

-- the same of an exchange, by the pointer and the byte order behind those before it
abbrev pub SaysNothing : Form → List Exchange → Exchange → ℕ → ℕ → ℕ → Type 0
SaysNothing given before (c, reply) list odt e =
    IsSilent list odt e (pointer_after given before)
    (command_of (form_after given before).order c) (outcome_of reply)

abbrev pub WritesEntry : Form → List Exchange → Exchange → ℕ → ℕ → ℕ → Element → Type 0
WritesEntry given before (c, reply) list odt e x =
    Writes list odt e x (form_after given before).order (pointer_after given before) c
    (command_of (form_after given before).order c) (outcome_of reply)

-- the newest exchange that says anything of the entry wrote this one to it: those behind it say
-- nothing
pub record IsWritten (given : Form) (all : List Exchange) (list odt e : ℕ)
    (x : Element) : Type 0 where
  pub later : List Exchange
  pub write : Exchange
  pub before : List Exchange
  pub split : all ≡ later ++ write ∷ before
  pub writes : WritesEntry given before write list odt e x
  pub silent : (newer older : List Exchange) (y : Exchange) → later ≡ newer ++ y ∷ older
      → SaysNothing given (older ++ write ∷ before) y list odt e

-- an entry is known to be this one only if the newest exchange that says anything of it wrote this
abbrev pub KnownIsWritten : Type 0
KnownIsWritten =
    (given : Form) (all : List Exchange) (list odt e : ℕ) (x : Element)
    → entry_at (facts_after given all) list odt e ≡ Is x → IsWritten given all list odt e x

-- and whenever that exchange did
abbrev pub WrittenIsKnown : Type 0
WrittenIsKnown =
    (given : Form) (all : List Exchange) (list odt e : ℕ) (x : Element)
    → IsWritten given all list odt e x → entry_at (facts_after given all) list odt e ≡ Is x
