-- What is known of a slave's set-up after some exchanges, with the newest in front.
use Rattle.std.specs.Prelude.{ℕ, ◌+◌, ◌*◌, ◌/◌, ◌%◌, ◌==◌, Bool, true, false, if◌then◌else◌, nat_le}
use Rattle.std.specs.Prelude.{List, [], ◌∷◌, ◌++◌, drop, map, Option, Some, None}
use Rattle.std.specs.List.{range_with_len}
use Rattle.measured_values.specs.declared.byte_order.ByteOrder.{ByteOrder}
use Rattle.measured_values.specs.declared.byte_order.ByteOrder.TheVariants.{MsbFirst, MsbLast}
use Rattle.captured_session.specs.Commands.{command_of, dword, word}
use Rattle.captured_session.specs.Exchanges.{Exchange, Heard, exchanges, is_synched, to_come}
use Rattle.captured_session.specs.Exchanges.{waiting}
use Rattle.captured_session.specs.declared.command.Command.{Command}
use Rattle.captured_session.specs.declared.command.Command.TheVariants.{AllocDaq, AllocOdt}
use Rattle.captured_session.specs.declared.command.Command.TheVariants.{AllocOdtEntry, ClearDaqList}
use Rattle.captured_session.specs.declared.command.Command.TheVariants.{Connect, FreeDaq, Missing}
use Rattle.captured_session.specs.declared.command.Command.TheVariants.{ProcessorInfo}
use Rattle.captured_session.specs.declared.command.Command.TheVariants.{ResolutionInfo, SetDaqPtr}
use Rattle.captured_session.specs.declared.command.Command.TheVariants.{SetDaqListMode}
use Rattle.captured_session.specs.declared.command.Command.TheVariants.{StartStopDaqList, WriteDaq}
use Rattle.captured_session.specs.declared.command.Command.TheVariants.{WriteDaqMultiple}
use Rattle.captured_session.specs.declared.element.Element.{Element}
use Rattle.captured_session.specs.declared.fact.Fact.{Fact}
use Rattle.captured_session.specs.declared.fact.Fact.TheVariants.{Cleared, Entries, Entry, FirstPid}
use Rattle.captured_session.specs.declared.fact.Fact.TheVariants.{LostAll, LostList, LostOdt, Mode}
use Rattle.captured_session.specs.declared.fact.Fact.TheVariants.{Odts}
use Rattle.captured_session.specs.declared.form.Form.{Form}
use Rattle.captured_session.specs.declared.id_field.IdField.{IdField}
use Rattle.captured_session.specs.declared.id_field.IdField.TheVariants.{Absolute, RelativeByte}
use Rattle.captured_session.specs.declared.id_field.IdField.TheVariants.{RelativeWord}
use Rattle.captured_session.specs.declared.id_field.IdField.TheVariants.{RelativeWordAligned}
use Rattle.captured_session.specs.declared.outcome.Outcome.{Outcome}
use Rattle.captured_session.specs.declared.outcome.Outcome.TheVariants.{Done, Refused, Unanswered}
use Rattle.captured_session.specs.declared.pointer.Pointer.{Pointer}
use Rattle.captured_session.specs.declared.pointer.Pointer.TheVariants.{At, Unknown, Within}

-- what came of a command: its positive reply begins with 0xFF; it has none if that to SYNCH came
abbrev pub outcome_of : Option (List ℕ) → Outcome
outcome_of None = Unanswered
outcome_of (Some []) = Refused
outcome_of (Some (code ∷ rest)) =
    if code == 0xFF then Done
    else if is_synched (code ∷ rest) then Unanswered
    else Refused

-- the bytes of a reply; without one there are none
abbrev pub reply_of : Option (List ℕ) → List ℕ
reply_of None = []
reply_of (Some reply) = reply

-- how the packets look: what a positive reply tells, and else what was told before
abbrev pub order_of : ℕ → ByteOrder
order_of mode = if mode % 2 == 0 then MsbLast else MsbFirst

abbrev pub field_of : ℕ → IdField
field_of kind =
    if kind == 0 then Absolute
    else if kind == 1 then RelativeByte
    else if kind == 2 then RelativeWord
    else RelativeWordAligned

abbrev pub connected : Form → List ℕ → Form
connected form (_ ∷ _ ∷ mode ∷ _) =
    record form { has_order = true; order = order_of mode; granularity = mode / 2 % 4 }
connected form _ = form

abbrev pub with_processor : Form → List ℕ → Form
with_processor form (_ ∷ properties ∷ _ ∷ _ ∷ _ ∷ _ ∷ _ ∷ key ∷ _) =
    record form {
      has_field = true;
      field = field_of (key / 64 % 4);
      has_overload = properties / 64 % 2 == 1;
    }
with_processor form _ = form

abbrev pub with_resolution : Form → List ℕ → Form
with_resolution form (_ ∷ _ ∷ _ ∷ _ ∷ _ ∷ mode ∷ a ∷ b ∷ _) =
    record form { has_stamp = true; stamp = mode; ticks = word form.order a b }
with_resolution form _ = form

abbrev pub form_behind : Command → Outcome → List ℕ → Form → Form
form_behind Connect Done reply form = connected form reply
form_behind ProcessorInfo Done reply form = with_processor form reply
form_behind ResolutionInfo Done reply form = with_resolution form reply
form_behind _ _ reply form = form

abbrev pub form_after : Form → List Exchange → Form
form_after given [] = given
form_after given ((c, reply) ∷ before) =
    form_behind (command_of (form_after given before).order c) (outcome_of reply) (reply_of reply)
    (form_after given before)

-- where the next entry is written
abbrev pub moved : ℕ → Pointer → Pointer
moved n (At list odt entry) =
    if nat_le (entry + n) 255 then At list odt (entry + n) else Within list odt
moved n p = p

abbrev pub astray : Pointer → Pointer
astray (At list odt entry) = Within list odt
astray p = p

abbrev pub pointer_behind : Command → Outcome → Pointer → Pointer
pointer_behind Missing _ p = Unknown
pointer_behind FreeDaq Refused p = p
pointer_behind FreeDaq _ p = Unknown
pointer_behind (SetDaqPtr list odt entry) Done p = At list odt entry
pointer_behind (SetDaqPtr list odt entry) _ p = Unknown
pointer_behind (WriteDaq x) Done p = moved 1 p
pointer_behind (WriteDaq x) Unanswered p = astray p
pointer_behind (WriteDaqMultiple n) Done p = moved n p
pointer_behind (WriteDaqMultiple n) _ p = astray p
pointer_behind _ _ p = p

abbrev pub pointer_after : Form → List Exchange → Pointer
pointer_after given [] = Unknown
pointer_after given ((c, reply) ∷ before) =
    pointer_behind (command_of (form_after given before).order c) (outcome_of reply)
    (pointer_after given before)

-- entry i of WRITE_DAQ_MULTIPLE, eight bytes; one that isn't whole is none
abbrev pub element_of : ByteOrder → List ℕ → Option Element
element_of order (bit ∷ size ∷ a ∷ b ∷ c ∷ d ∷ ext ∷ _ ∷ _) =
    Some record { bit = bit; size = size; extension = ext; address = dword order a b c d }
element_of order _ = None

abbrev pub element_at : ByteOrder → List ℕ → ℕ → Option Element
element_at order packet i = element_of order (drop (2 + 8 * i) packet)

-- what a write tells, of an entry or, without one, of none that is known
abbrev pub write_at : Pointer → Option Element → Fact
write_at (At list odt entry) x = Entry list odt entry x
write_at (Within list odt) x = LostOdt list odt
write_at Unknown x = LostAll

abbrev pub writes_from : Pointer → ℕ → (ℕ → Option Element) → List Fact
writes_from p n element =
    map (λ i. write_at (moved i p) (element i)) (range_with_len 0 n)

abbrev pub first_pid_in : ℕ → List ℕ → Option Fact
first_pid_in list (_ ∷ pid ∷ _) = Some (FirstPid list pid)
first_pid_in list _ = None

-- what a command tells of lists, by what came of it; one without a reply leaves unknown what it
-- would have changed
abbrev pub fact_of : Pointer → List ℕ → Command → Outcome → Option Fact
fact_of p reply (AllocOdt list n) Done = Some (Odts list n)
fact_of p reply (AllocOdt list n) Unanswered = Some (LostList list)
fact_of p reply (AllocOdtEntry list odt n) Done = Some (Entries list odt n)
fact_of p reply (AllocOdtEntry list odt n) Unanswered = Some (LostList list)
fact_of p reply (WriteDaq x) Done = Some (write_at p (Some x))
fact_of p reply (WriteDaq x) Unanswered = Some (write_at p None)
fact_of p reply (SetDaqListMode list mode) Done = Some (Mode list (Some mode))
fact_of p reply (SetDaqListMode list mode) Unanswered = Some (Mode list None)
fact_of p reply (ClearDaqList list) Done = Some (Cleared list)
fact_of p reply (ClearDaqList list) Unanswered = Some (LostList list)
fact_of p reply (StartStopDaqList list) Done = first_pid_in list reply
fact_of p reply _ _ = None

abbrev pub in_list : Option Fact → List Fact
in_list None = []
in_list (Some fact) = fact ∷ []

-- the same, also of WRITE_DAQ_MULTIPLE: of one that is refused some entries may be written
abbrev pub facts_of : ByteOrder → Pointer → List ℕ → List ℕ → Command → Outcome → List Fact
facts_of order p c reply (WriteDaqMultiple n) Done = writes_from p n (element_at order c)
facts_of order p c reply (WriteDaqMultiple n) _ = writes_from p n (λ i. None)
facts_of order p c reply command outcome = in_list (fact_of p reply command outcome)

-- behind these nothing is known of any list, modes and PIDs included: FREE_DAQ and ALLOC_DAQ begin
-- a set-up anew, or may have; a command that is missing may be any
abbrev pub frees : Command → Outcome → Bool
frees Missing _ = true
frees FreeDaq Refused = false
frees FreeDaq _ = true
frees AllocDaq Refused = false
frees AllocDaq _ = true
frees _ _ = false

-- the facts of a set-up, with the newest at the end
abbrev pub facts_after : Form → List Exchange → List Fact
facts_after given [] = []
facts_after given ((c, reply) ∷ before) =
    (if frees (command_of (form_after given before).order c) (outcome_of reply) then []
    else facts_after given before)
    ++ facts_of (form_after given before).order (pointer_after given before) c (reply_of reply)
    (command_of (form_after given before).order c) (outcome_of reply)

-- how packets look, where the next entry is written, the facts of the set-up
pub record SetUp : Type 0 where
  pub form : Form
  pub pointer : Pointer
  pub facts : List Fact

-- what is known after some exchanges, if packets first looked like this
abbrev pub set_up_after : Form → List Exchange → SetUp
set_up_after given xs = record {
  form = form_after given xs;
  pointer = pointer_after given xs;
  facts = facts_after given xs;
}

-- of a session also the command that waits for its reply, and the bytes of an UPLOAD that are still
-- to come
pub record Session : Type 0 where
  pub set_up : SetUp
  pub waiting : Option (List ℕ)
  pub to_come : ℕ

-- what is known after some packets, with the newest in front
abbrev pub session_after : Form → List Heard → Session
session_after given heard = record {
  set_up = set_up_after given (exchanges heard);
  waiting = waiting heard;
  to_come = to_come heard;
}
