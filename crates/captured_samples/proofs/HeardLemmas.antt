-- What a packet of the session changes of the set-up.
use Rattle.std.proofs.Common.{◌≡◌, ℕ, ◌≤◌, ◌++◌, ◌∷◌, [], List, length, refl, sym, ap, subst, ◌∙◌, arith, Bool, true, false, Option, Some, None}
use Rattle.std.proofs.Common.{if◌then◌else◌, OnOk, Result, Ok, Err}
use Rattle.std.specs.List.{list_all}
use Rattle.std.proofs.lemmas.List.{append-nil, length-append}
use Rattle.captured_session.specs.Commands.{command_of}
use Rattle.captured_session.specs.Exchanges.{Exchange, Heard, answered, ends_with, exchanges, is_command, is_lone, is_missing, is_reply, to_come, unanswered, waiting}
use Rattle.captured_session.specs.Lists.{ListOf}
use Rattle.captured_session.specs.SetUps.{SetUp, facts_after, facts_of, form_after, frees, outcome_of, pointer_after, reply_of}
use Rattle.captured_session.specs.declared.command.Command.{Command}
use Rattle.captured_session.specs.declared.command.Command.TheVariants.{AllocDaq, FreeDaq, Missing}
use Rattle.captured_session.specs.declared.fact.Fact.{Fact}
use Rattle.captured_session.specs.declared.form.Form.{Form}
use Rattle.captured_session.specs.declared.outcome.Outcome.{Outcome}
use Rattle.captured_session.specs.declared.outcome.Outcome.TheVariants.{Done, Unanswered}
use Rattle.captured_session.specs.declared.pointer.Pointer.{Pointer}
use Rattle.captured_session.specs.declared.side.Side.TheVariants.{Master, Slave}
use Rattle.measured_values.specs.declared.byte_order.ByteOrder.{ByteOrder}
use Rattle.captured_samples.specs.Slaves.{AllMet, AllRead, Keeps, SlaveOf, StandsBy, Tells}
use Rattle.captured_samples.specs.Standing.{ListsIn, Start, Told, come_to, set_up_by, stands_in, told_at_gap, told_by, told_of_packet, with_any, with_slave}
use Rattle.captured_samples.specs.Frames.{ReadOf, heard_with, with_frame}
use Rattle.captured_samples.specs.declared.counter_steps.CounterStep.{CounterStep}
use Rattle.captured_samples.specs.declared.counter_steps.CounterStep.TheVariants.{Behind, First, Jump, Next}

-- as many facts as before are those of before
none-of : (xs : List Fact) → length xs ≡ 0 → xs ≡ []
none-of [] e = refl
none-of (x ∷ xs) e = absurd (omega arith)

more-none : (old more : List Fact) → length (old ++ more) ≡ length old → old ++ more ≡ old
more-none old more e =
    let n : length more ≡ 0 = omega (arith, length-append old more, e) in
    ap (λ (xs : List Fact). old ++ xs) (none-of more n) ∙ append-nil old

same-if : (order : ByteOrder) (p : Pointer) (c reply : List ℕ) (command : Command) (outcome : Outcome) (old : List Fact)
    → length ((if frees command outcome then [] else old) ++ facts_of order p c reply command outcome) ≡ length old
    → (if frees command outcome then [] else old) ++ facts_of order p c reply command outcome ≡ old
same-if order p c reply Missing outcome old e = sym (none-of old (sym e))
same-if order p c reply FreeDaq Done old e = sym (none-of old (sym e))
same-if order p c reply FreeDaq Unanswered old e = sym (none-of old (sym e))
same-if order p c reply AllocDaq Done old e = sym (none-of old (sym e))
same-if order p c reply AllocDaq Unanswered old e = sym (none-of old (sym e))
same-if order p c reply command outcome old e =
    more-none old (facts_of order p c reply command outcome) e

same-exchange : (given : Form) (c : List ℕ) (reply : Option (List ℕ)) (before : List Exchange)
    → length (facts_after given ((c, reply) ∷ before)) ≡ length (facts_after given before)
    → facts_after given ((c, reply) ∷ before) ≡ facts_after given before
same-exchange given c reply before e =
    same-if (form_after given before).order (pointer_after given before) c (reply_of reply)
    (command_of (form_after given before).order c) (outcome_of reply) (facts_after given before) e

same-ends : (given : Form) (ends before : List Exchange)
    → length (facts_after given (ends ++ before)) ≡ length (facts_after given before)
    → (xs : List Exchange) → ends ≡ xs → length xs ≤ 1
    → facts_after given (ends ++ before) ≡ facts_after given before
same-ends given [] before e xs is few = refl
same-ends given ((c, reply) ∷ []) before e xs is few = same-exchange given c reply before e
same-ends given (x ∷ y ∷ ends) before e xs is few =
    let many : length (x ∷ y ∷ ends) ≤ 1 = subst (λ (zs : List Exchange). length zs ≤ 1) (sym is) few in
    absurd (omega arith)

few-if : (b : Bool) (xs ys : List Exchange) → length xs ≤ 1 → length ys ≤ 1
    → length (if b then xs else ys) ≤ 1
few-if true xs ys few others = few
few-if false xs ys few others = others

few-none : length {A = Exchange} [] ≤ 1
few-none = omega arith

few-one : (x : Exchange) → length (x ∷ []) ≤ 1
few-one x = omega arith

few-unanswered : (w : Option (List ℕ)) → length (unanswered w) ≤ 1
few-unanswered None = omega arith
few-unanswered (Some c) = omega arith

few-answered : (w : Option (List ℕ)) (n : ℕ) (p : List ℕ) → length (answered w n p) ≤ 1
few-answered None n p = few-if (is_lone n p) (([], Some p) ∷ []) [] (few-one ([], Some p)) few-none
few-answered (Some c) n p = omega arith

few-ends : (x : Heard) (w : Option (List ℕ)) (n : ℕ) → length (ends_with x w n) ≤ 1
few-ends (Master, p) w n =
    few-if (is_missing p) (([], None) ∷ []) (if is_command p then unanswered w else []) (few-one ([], None))
    (few-if (is_command p) (unanswered w) [] (few-unanswered w) few-none)
few-ends (Slave, p) w n =
    few-if (is_reply p) (answered w n p) [] (few-answered w n p) few-none

-- as many facts behind a packet as before it are those of before
pub facts-unchanged : (given : Form) (x : Heard) (heard : List Heard)
    → length (facts_after given (exchanges (x ∷ heard))) ≡ length (facts_after given (exchanges heard))
    → facts_after given (exchanges (x ∷ heard)) ≡ facts_after given (exchanges heard)
facts-unchanged given x heard e =
    let ends = ends_with x (waiting heard) (to_come heard) in
    same-ends given ends (exchanges heard) e ends refl (few-ends x (waiting heard) (to_come heard))

-- lists that a set-up tells are told by each one of the same form and facts
pub all_read-same : (start : Start) (s t : SetUp) (lists : List ListOf) → t.form ≡ s.form → t.facts ≡ s.facts
    → AllRead start s lists → AllRead start t lists
all_read-same start s t lists form facts read =
    let P : Form → List Fact → Type 0 =
    λ f fs. (list_all (stands_in start (record { form = f; pointer = t.pointer; facts = fs })) lists ≡ true)
    × AllMet (record { form = f; pointer = t.pointer; facts = fs }) fs lists in
    let was : P s.form s.facts = (read.stand, read.met) in
    let is : P t.form t.facts = subst (λ (fs : List Fact). P t.form fs) (sym facts) (subst (λ (f : Form). P f s.facts) (sym form) was) in
    record { stand = is.0; met = is.1 }

-- of the same lists, and what is told
pub keeps-of : (start : Start) (heard : List Heard) (a b : ListsIn) (x : SlaveOf) → a ≡ b → Keeps start heard b x
    → Keeps start heard a x
keeps-of start heard a b x same k = subst (λ (ls : ListsIn). Keeps start heard ls x) (sym same) k

pub tells-of : (a b : List Told → Type 0) (ts us : List Told) → ts ≡ us → Tells a b us → Tells a b ts
tells-of a b ts us same t = subst (λ (vs : List Told). Tells a b vs) (sym same) t

-- what the slave's next frame changes, unless it is behind
pub record IsNext (start : Start) (r : ReadOf) (ls : ListsIn) (step : CounterStep) (n : ℕ) (p : List ℕ) : Type 0 where
  pub frame : with_frame r n p step ≡ record r { counter = Some n; heard = heard_with p r.heard }
  pub slave :
      with_slave start (set_up_by start r.heard) step p ls
      ≡ with_any start (set_up_by start r.heard) p (come_to start (set_up_by start r.heard) step ls)
  pub told :
      told_by start (set_up_by start r.heard) step p ls
      ≡ told_at_gap start (set_up_by start r.heard) step ls
      ++ told_of_packet start (set_up_by start r.heard) p (come_to start (set_up_by start r.heard) step ls)

pub is_next : (start : Start) (r : ReadOf) (ls : ListsIn) (step : CounterStep) (n : ℕ) (p : List ℕ) → (step ≡ Behind → ⊥)
    → IsNext start r ls step n p
is_next start r ls First n p other = record { frame = refl; slave = refl; told = refl }
is_next start r ls Next n p other = record { frame = refl; slave = refl; told = refl }
is_next start r ls Jump n p other = record { frame = refl; slave = refl; told = refl }
is_next start r ls Behind n p other = absurd (other refl)

pub stands-of : (start : Start) (q r : ReadOf) (ls ms : ListsIn) (x : SlaveOf) → q ≡ r → ls ≡ ms → StandsBy start r ms x
    → StandsBy start q ls x
stands-of start q r ls ms x same lists s =
    subst (λ (t : ReadOf). StandsBy start t ls x) (sym same) (subst (λ (ns : ListsIn). StandsBy start r ns x) (sym lists) s)

pub on_both : {T E A B C : Type 0} (r : Result T E) → (A → B → C) → OnOk r A → OnOk r B → OnOk r C
on_both (Ok t) f a b = f a b
on_both (Err e) f a b = a
