-- Where the next entry is written behind some exchanges.
use Rattle.std.proofs.Common.{◌≡◌, ℕ, ◌+◌, ◌<◌, Bool, true, false, not, ◌&&◌, ◌||◌, nat_le, List}
use Rattle.std.proofs.Common.{[], ◌∷◌, ◌++◌, refl, sym, ap}
use Rattle.std.proofs.Common.{◌∙◌, subst, arith, if◌then◌else◌, Option, Some, None, All}
use Rattle.std.proofs.Common.{slice_index, add-zero, zero-add}
use Rattle.std.proofs.lemmas.Bool.{false≢true}
use Rattle.std.proofs.lemmas.Bool.Decides.{nat_tests}
use Rattle.std.proofs.lemmas.List.Elements.{All-head, All-tail}
use Rattle.std.proofs.lemmas.List.Sums.{sum_by-cons}
use Rattle.std.specs.List.{sum_by}
use Rattle.measured_values.specs.declared.byte_order.ByteOrder.{ByteOrder}
use Rattle.captured_session.specs.Codes.{has_positive, is_of}
use Rattle.captured_session.specs.Commands.{command_of, word}
use Rattle.captured_session.specs.Exchanges.{Exchange, is_missing, is_synched}
use Rattle.captured_session.specs.LawsOfPointers.{PointerMoves, entries_written, sets_pointer}
use Rattle.captured_session.specs.LawsOfSetUps.{is_open, is_refused}
use Rattle.captured_session.specs.SetUps.{form_after, moved, outcome_of, pointer_after}
use Rattle.captured_session.specs.SetUps.{pointer_behind}
use Rattle.captured_session.specs.declared.command.Command.{Command}
use Rattle.captured_session.specs.declared.command.Command.TheVariants.{FreeDaq, Missing, SetDaqPtr}
use Rattle.captured_session.specs.declared.command.Command.TheVariants.{WriteDaq, WriteDaqMultiple}
use Rattle.captured_session.specs.declared.element.Element.{Element}
use Rattle.captured_session.specs.declared.form.Form.{Form}
use Rattle.captured_session.specs.declared.outcome.Outcome.{Outcome}
use Rattle.captured_session.specs.declared.outcome.Outcome.TheVariants.{Done, Refused}
use Rattle.captured_session.specs.declared.pointer.Pointer.{Pointer}
use Rattle.captured_session.specs.declared.pointer.Pointer.TheVariants.{At, Within}
use Rattle.captured_session.proofs.CodeLemmas.{IsCode, and-both, coded, command-is, not-code}
use Rattle.captured_session.proofs.CodeLemmas.{has-done, or-false}
use Rattle.captured_session.proofs.SetUpLemmas.{refused-is}

-- so many entries on, and so many more
moved-none : (list odt entry : ℕ) → entry < 256 → At list odt entry ≡ moved 0 (At list odt entry)
moved-none list odt entry within =
    let here : nat_le (entry + 0) 255 ≡ true = grind (arith, nat_tests) in
    ap (λ (n : ℕ). At list odt n) (sym (add-zero entry))
    ∙ ap (λ (v : Bool). if v then At list odt (entry + 0) else Within list odt) (sym here)

abbrev moved_to : ℕ → ℕ → ℕ → Pointer
moved_to list odt n = if nat_le n 255 then At list odt n else Within list odt

moved-if : (a b list odt entry : ℕ) (v : Bool) → nat_le (entry + b) 255 ≡ v
    → moved a (if v then At list odt (entry + b) else Within list odt)
    ≡ moved_to list odt (entry + (a + b))
moved-if a b list odt entry true is =
    let all : entry + b + a ≡ entry + (a + b) = omega arith in
    ap (moved_to list odt) all
moved-if a b list odt entry false is =
    let past : nat_le (entry + (a + b)) 255 ≡ false = grind (arith, nat_tests) in
    ap (λ (v : Bool). if v then At list odt (entry + (a + b)) else Within list odt) (sym past)

moved-more : (a b list odt entry : ℕ)
    → moved a (moved b (At list odt entry)) ≡ moved (a + b) (At list odt entry)
moved-more a b list odt entry = moved-if a b list odt entry (nat_le (entry + b) 255) refl

-- the commands that write, and SET_DAQ_PTR
set-daq-ptr : (order : ByteOrder) (c : List ℕ) → is_of 0xE2 6 c ≡ true
    → command_of order c
    ≡ SetDaqPtr (word order (slice_index c 2) (slice_index c 3)) (slice_index c 4) (slice_index c 5)
set-daq-ptr order (code ∷ x ∷ a ∷ b ∷ k ∷ e ∷ rest) is =
    coded order 0xE2 5 (code ∷ x ∷ a ∷ b ∷ k ∷ e ∷ rest) is
set-daq-ptr order _ is = absurd (false≢true is)

write-daq : (order : ByteOrder) (c : List ℕ) → is_of 0xE1 8 c ≡ true
    → (x : Element) × (command_of order c ≡ WriteDaq x)
write-daq order (code ∷ bit ∷ size ∷ ext ∷ a ∷ b ∷ d ∷ e ∷ rest) is =
    (_, coded order 0xE1 7 (code ∷ bit ∷ size ∷ ext ∷ a ∷ b ∷ d ∷ e ∷ rest) is)
write-daq order _ is = absurd (false≢true is)

write-daq-multiple : (order : ByteOrder) (c : List ℕ) → is_of 0xC7 2 c ≡ true
    → command_of order c ≡ WriteDaqMultiple (slice_index c 1)
write-daq-multiple order (code ∷ n ∷ rest) is = coded order 0xC7 1 (code ∷ n ∷ rest) is
write-daq-multiple order _ is = absurd (false≢true is)

-- by the command and what came of it
behind-by : {given : Command} {told : Outcome} (command : Command) (outcome : Outcome)
    → given ≡ command → told ≡ outcome → (p : Pointer)
    → pointer_behind given told p ≡ pointer_behind command outcome p
behind-by command outcome is came p = λ i. pointer_behind (is i) (came i) p

-- any other command leaves the pointer
pointer-other : (command : Command) (outcome : Outcome) (p : Pointer)
    → ((list odt entry : ℕ) → command ≡ SetDaqPtr list odt entry → ⊥)
    → ((x : Element) → command ≡ WriteDaq x → ⊥)
    → ((n : ℕ) → command ≡ WriteDaqMultiple n → ⊥) → (command ≡ Missing → ⊥)
    → (command ≡ FreeDaq → outcome ≡ Refused) → pointer_behind command outcome p ≡ p
pointer-other FreeDaq outcome p ptr one more missing free =
    ap (λ (o : Outcome). pointer_behind FreeDaq o p) (free refl)
pointer-other (SetDaqPtr list odt entry) outcome p ptr one more missing free =
    absurd (ptr list odt entry refl)
pointer-other (WriteDaq x) outcome p ptr one more missing free = absurd (one x refl)
pointer-other (WriteDaqMultiple n) outcome p ptr one more missing free = absurd (more n refl)
pointer-other Missing outcome p ptr one more missing free = absurd (missing refl)
pointer-other _ outcome p ptr one more missing free = refl

-- an exchange that doesn't set the pointer
record LeavesPointer (c : List ℕ) (reply : Option (List ℕ)) : Type 0 where
  missing : is_missing c ≡ false
  ptr : is_of 0xE2 6 c ≡ false
  free : (is_of 0xD6 1 c && not (is_refused reply)) ≡ false
  one : (is_of 0xE1 8 c && is_open reply) ≡ false
  more : (is_of 0xC7 2 c && not (has_positive 1 reply)) ≡ false

leaves-pointer : (c : List ℕ) (reply : Option (List ℕ)) → sets_pointer (c, reply) ≡ false
    → LeavesPointer c reply
leaves-pointer c reply none =
    let free = is_of 0xD6 1 c && not (is_refused reply) in
    let one = is_of 0xE1 8 c && is_open reply in
    let more = is_of 0xC7 2 c && not (has_positive 1 reply) in
    let ptr = is_of 0xE2 6 c in
    let missing = is_missing c in
    let first = or-false (missing || ptr || free || one) more none in
    let second = or-false (missing || ptr || free) one first.left in
    let third = or-false (missing || ptr) free second.left in
    let fourth = or-false missing ptr third.left in
    record {
      missing = fourth.left;
      ptr = fourth.right;
      free = third.right;
      one = second.right;
      more = first.right;
    }

-- how many entries it wrote, by the tests that are made of it
abbrev written_by : List ℕ → Bool → Bool → Bool → ℕ
written_by c positive one more =
    if positive then (if one then 1 else if more then slice_index c 1 else 0) else 0

not-both : (a b : Bool) → (a && b) ≡ false → a ≡ true → b ≡ true → ⊥
not-both a b none here there = false≢true (sym none ∙ and-both a b here there)

-- WRITE_DAQ that has a reply which is neither positive nor that to SYNCH
refused : (reply : Option (List ℕ)) → (true && is_open reply) ≡ false
    → has_positive 1 reply ≡ false → outcome_of reply ≡ Refused
refused None some positive = absurd (false≢true (sym some))
refused (Some reply) some positive =
    refused-is (Some reply)
    (and-both (not (is_of 0xFF 1 reply)) (not (is_synched reply)) (ap not positive) (ap not some))

-- FREE_DAQ that doesn't set it
not-free : (c : List ℕ) (reply : Option (List ℕ)) (b : Bool) → is_refused reply ≡ b
    → is_of 0xD6 1 c ≡ true → (is_of 0xD6 1 c && not b) ≡ false → outcome_of reply ≡ Refused
not-free c reply true is here none = refused-is reply is
not-free c reply false is here none = absurd (not-both (is_of 0xD6 1 c) true none here refl)

-- any other exchange
step-other : (c : List ℕ) (reply : Option (List ℕ)) (order : ByteOrder) (p : Pointer)
    → LeavesPointer c reply → is_of 0xE1 8 c ≡ false → is_of 0xC7 2 c ≡ false
    → pointer_behind (command_of order c) (outcome_of reply) p ≡ p
step-other c reply order p leaves one more =
    let is = command-is order c in
    let code : (k : Command) → command_of order c ≡ k → IsCode k c =
    λ k here. subst (λ k. IsCode k c) here is in
    pointer-other (command_of order c) (outcome_of reply) p
    (λ list odt entry here. not-code 0xE2 6 c leaves.ptr (code (SetDaqPtr list odt entry) here))
    (λ x here. not-code 0xE1 8 c one (code (WriteDaq x) here))
    (λ n here. not-code 0xC7 2 c more (code (WriteDaqMultiple n) here))
    (λ here. false≢true (sym leaves.missing ∙ ap is_missing (code Missing here)))
    (λ here. not-free c reply (is_refused reply) refl (code FreeDaq here) leaves.free)

step-by : (c : List ℕ) (reply : Option (List ℕ)) (order : ByteOrder) (n list odt entry : ℕ)
    → LeavesPointer c reply → (positive one more : Bool) → has_positive 1 reply ≡ positive
    → is_of 0xE1 8 c ≡ one → is_of 0xC7 2 c ≡ more
    → pointer_behind (command_of order c) (outcome_of reply) (moved n (At list odt entry))
    ≡ moved (written_by c positive one more + n) (At list odt entry)
step-by c reply order n list odt entry leaves true true more hp ho hm =
    let (x, is) = write-daq order c ho in
    behind-by (WriteDaq x) Done is (has-done 0 reply hp) (moved n (At list odt entry))
    ∙ moved-more 1 n list odt entry
step-by c reply order n list odt entry leaves false true more hp ho hm =
    let (x, is) = write-daq order c ho in
    let some : (true && is_open reply) ≡ false =
    ap (λ (v : Bool). v && is_open reply) (sym ho) ∙ leaves.one in
    behind-by (WriteDaq x) Refused is (refused reply some hp) (moved n (At list odt entry))
    ∙ ap (λ (k : ℕ). moved k (At list odt entry)) (sym (zero-add n))
step-by c reply order n list odt entry leaves true false true hp ho hm =
    behind-by (WriteDaqMultiple (slice_index c 1)) Done (write-daq-multiple order c hm)
    (has-done 0 reply hp) (moved n (At list odt entry))
    ∙ moved-more (slice_index c 1) n list odt entry
step-by c reply order n list odt entry leaves false false true hp ho hm =
    absurd (not-both (is_of 0xC7 2 c) (not (has_positive 1 reply)) leaves.more hm (ap not hp))
step-by c reply order n list odt entry leaves true false false hp ho hm =
    step-other c reply order (moved n (At list odt entry)) leaves ho hm
    ∙ ap (λ (k : ℕ). moved k (At list odt entry)) (sym (zero-add n))
step-by c reply order n list odt entry leaves false false false hp ho hm =
    step-other c reply order (moved n (At list odt entry)) leaves ho hm
    ∙ ap (λ (k : ℕ). moved k (At list odt entry)) (sym (zero-add n))

step : (x : Exchange) (order : ByteOrder) (n list odt entry : ℕ) → sets_pointer x ≡ false
    → pointer_behind (command_of order x.0) (outcome_of x.1) (moved n (At list odt entry))
    ≡ moved (entries_written x + n) (At list odt entry)
step (c, reply) order n list odt entry none =
    step-by c reply order n list odt entry (leaves-pointer c reply none)
    (has_positive 1 reply) (is_of 0xE1 8 c) (is_of 0xC7 2 c) refl refl refl

moves : (given : Form) (later xs : List Exchange) (list odt entry : ℕ)
    → pointer_after given xs ≡ At list odt entry → entry < 256
    → All (λ x. sets_pointer x ≡ false) later
    → pointer_after given (later ++ xs) ≡ moved (sum_by entries_written later) (At list odt entry)
moves given [] xs list odt entry start within none = start ∙ moved-none list odt entry within
moves given (x ∷ later) xs list odt entry start within none =
    let Leaves : Exchange → Type 0 = λ x. sets_pointer x ≡ false in
    let order = (form_after given (later ++ xs)).order in
    let before = moves given later xs list odt entry start within (All-tail Leaves x later none) in
    ap (λ (p : Pointer). pointer_behind (command_of order x.0) (outcome_of x.1) p) before
    ∙ step x order (sum_by entries_written later) list odt entry (All-head Leaves x later none)
    ∙ ap (λ (k : ℕ). moved k (At list odt entry)) (sym (sum_by-cons entries_written x later))

pub pointer_moves : PointerMoves
pointer_moves given later before c reply is within done none =
    let order = (form_after given before).order in
    let list = word order (slice_index c 2) (slice_index c 3) in
    let odt = slice_index c 4 in
    let entry = slice_index c 5 in
    moves given later ((c, reply) ∷ before) list odt entry
    (behind-by (SetDaqPtr list odt entry) Done (set-daq-ptr order c is) (has-done 0 reply done)
    (pointer_after given before))
    within none
