-- Which packets are of which command.
use Rattle.std.proofs.Common.{◌≡◌, ℕ, suc, ◌≤◌, Bool, true, false, List, [], ◌∷◌, length, drop}
use Rattle.std.proofs.Common.{refl, ap, sym}
use Rattle.std.proofs.Common.{◌∙◌, arith, if◌then◌else◌, ◌==◌, ◌&&◌, ◌||◌, ◌⊎◌, inl, inr, nat_le}
use Rattle.std.specs.Bool.{⊤}
use Rattle.std.proofs.Common.{Option, Some, None}
use Rattle.std.proofs.lemmas.Bool.{eqb-true, false≢true}
use Rattle.std.proofs.lemmas.Bool.Decides.{nat_tests}
use Rattle.measured_values.specs.declared.byte_order.ByteOrder.{ByteOrder}
use Rattle.captured_session.specs.Codes.{has_positive, is_of}
use Rattle.captured_session.specs.Commands.{alloc_odt, alloc_odt_entry, clear_daq_list, command_by}
use Rattle.captured_session.specs.Commands.{command_of, set_daq_list_mode, set_daq_ptr}
use Rattle.captured_session.specs.Commands.{start_stop_daq_list, write_daq, write_daq_multiple}
use Rattle.captured_session.specs.Exchanges.{is_synched}
use Rattle.captured_session.specs.SetUps.{outcome_of, reply_of}
use Rattle.captured_session.specs.declared.command.Command.{Command}
use Rattle.captured_session.specs.declared.command.Command.TheVariants.{AllocDaq, AllocOdt}
use Rattle.captured_session.specs.declared.command.Command.TheVariants.{AllocOdtEntry, ClearDaqList}
use Rattle.captured_session.specs.declared.command.Command.TheVariants.{Connect, FreeDaq, Missing}
use Rattle.captured_session.specs.declared.command.Command.TheVariants.{Other}
use Rattle.captured_session.specs.declared.command.Command.TheVariants.{ProcessorInfo}
use Rattle.captured_session.specs.declared.command.Command.TheVariants.{ResolutionInfo, SetDaqPtr}
use Rattle.captured_session.specs.declared.command.Command.TheVariants.{SetDaqListMode}
use Rattle.captured_session.specs.declared.command.Command.TheVariants.{StartStopDaqList, WriteDaq}
use Rattle.captured_session.specs.declared.command.Command.TheVariants.{WriteDaqMultiple}
use Rattle.captured_session.specs.declared.outcome.Outcome.{Outcome}
use Rattle.captured_session.specs.declared.outcome.Outcome.TheVariants.{Done, Refused, Unanswered}

-- a packet of a command has its code and its bytes
abbrev pub IsCode : Command → List ℕ → Type 0
IsCode Connect c = is_of 0xFF 1 c ≡ true
IsCode ProcessorInfo c = is_of 0xDA 1 c ≡ true
IsCode ResolutionInfo c = is_of 0xD9 1 c ≡ true
IsCode FreeDaq c = is_of 0xD6 1 c ≡ true
IsCode AllocDaq c = is_of 0xD5 1 c ≡ true
IsCode (AllocOdt list n) c = is_of 0xD4 5 c ≡ true
IsCode (AllocOdtEntry list odt n) c = is_of 0xD3 6 c ≡ true
IsCode (SetDaqPtr list odt entry) c = is_of 0xE2 6 c ≡ true
IsCode (WriteDaq x) c = is_of 0xE1 8 c ≡ true
IsCode (WriteDaqMultiple n) c = is_of 0xC7 2 c ≡ true
IsCode (SetDaqListMode list mode) c = is_of 0xE0 7 c ≡ true
IsCode (ClearDaqList list) c = is_of 0xE3 4 c ≡ true
IsCode (StartStopDaqList list) c = is_of 0xDE 4 c ≡ true
IsCode Missing c = c ≡ []
IsCode Other c = ⊤

pub and-right : (a b : Bool) → (a && b) ≡ true → b ≡ true
and-right true b is = is
and-right false b is = absurd (false≢true is)

pub and-left : (a b : Bool) → (a && b) ≡ true → a ≡ true
and-left true b is = refl
and-left false b is = is

pub or-cases : (a b : Bool) → (a || b) ≡ true → (a ≡ true) ⊎ (b ≡ true)
or-cases true b is = inl refl
or-cases false b is = inr is

pub record AreFalse (a b : Bool) : Type 0 where
  pub left : a ≡ false
  pub right : b ≡ false

pub or-false : (a b : Bool) → (a || b) ≡ false → AreFalse a b
or-false true b is = absurd (false≢true (sym is))
or-false false b is = record { left = refl; right = is }

pub and-both : (a b : Bool) → a ≡ true → b ≡ true → (a && b) ≡ true
and-both a b here there = ap (λ (v : Bool). v && b) here ∙ there

pub is-of : (code n k : ℕ) (fields : List ℕ) → (code == n) ≡ true → k ≤ length (code ∷ fields)
    → is_of n k (code ∷ fields) ≡ true
is-of code n k fields here within = grind (arith, nat_tests)

alloc_odt-is : (order : ByteOrder) (code : ℕ) (fields : List ℕ) → (code == 0xD4) ≡ true
    → IsCode (alloc_odt order fields) (code ∷ fields)
alloc_odt-is order code (a ∷ b ∷ c ∷ d ∷ rest) is =
    is-of code 0xD4 5 (a ∷ b ∷ c ∷ d ∷ rest) is (omega arith)
alloc_odt-is order code _ is = tt

alloc_odt_entry-is : (order : ByteOrder) (code : ℕ) (fields : List ℕ) → (code == 0xD3) ≡ true
    → IsCode (alloc_odt_entry order fields) (code ∷ fields)
alloc_odt_entry-is order code (a ∷ b ∷ c ∷ d ∷ e ∷ rest) is =
    is-of code 0xD3 6 (a ∷ b ∷ c ∷ d ∷ e ∷ rest) is (omega arith)
alloc_odt_entry-is order code _ is = tt

set_daq_ptr-is : (order : ByteOrder) (code : ℕ) (fields : List ℕ) → (code == 0xE2) ≡ true
    → IsCode (set_daq_ptr order fields) (code ∷ fields)
set_daq_ptr-is order code (a ∷ b ∷ c ∷ d ∷ e ∷ rest) is =
    is-of code 0xE2 6 (a ∷ b ∷ c ∷ d ∷ e ∷ rest) is (omega arith)
set_daq_ptr-is order code _ is = tt

write_daq-is : (order : ByteOrder) (code : ℕ) (fields : List ℕ) → (code == 0xE1) ≡ true
    → IsCode (write_daq order fields) (code ∷ fields)
write_daq-is order code (a ∷ b ∷ c ∷ d ∷ e ∷ f ∷ g ∷ rest) is =
    is-of code 0xE1 8 (a ∷ b ∷ c ∷ d ∷ e ∷ f ∷ g ∷ rest) is (omega arith)
write_daq-is order code _ is = tt

write_daq_multiple-is : (code : ℕ) (fields : List ℕ) → (code == 0xC7) ≡ true
    → IsCode (write_daq_multiple fields) (code ∷ fields)
write_daq_multiple-is code (a ∷ rest) is =
    is-of code 0xC7 2 (a ∷ rest) is (omega arith)
write_daq_multiple-is code _ is = tt

set_daq_list_mode-is : (order : ByteOrder) (code : ℕ) (fields : List ℕ) → (code == 0xE0) ≡ true
    → IsCode (set_daq_list_mode order fields) (code ∷ fields)
set_daq_list_mode-is order code (a ∷ b ∷ c ∷ d ∷ e ∷ f ∷ rest) is =
    is-of code 0xE0 7 (a ∷ b ∷ c ∷ d ∷ e ∷ f ∷ rest) is (omega arith)
set_daq_list_mode-is order code _ is = tt

clear_daq_list-is : (order : ByteOrder) (code : ℕ) (fields : List ℕ) → (code == 0xE3) ≡ true
    → IsCode (clear_daq_list order fields) (code ∷ fields)
clear_daq_list-is order code (a ∷ b ∷ c ∷ rest) is =
    is-of code 0xE3 4 (a ∷ b ∷ c ∷ rest) is (omega arith)
clear_daq_list-is order code _ is = tt

start_stop_daq_list-is : (order : ByteOrder) (code : ℕ) (fields : List ℕ) → (code == 0xDE) ≡ true
    → IsCode (start_stop_daq_list order fields) (code ∷ fields)
start_stop_daq_list-is order code (a ∷ b ∷ c ∷ rest) is =
    is-of code 0xDE 4 (a ∷ b ∷ c ∷ rest) is (omega arith)
start_stop_daq_list-is order code _ is = tt

-- by a test of the code
by-code : (P : Command → Type 0) (b : Bool) (x y : Command) → (b ≡ true → P x) → P y
    → P (if b then x else y)
by-code P true x y here other = here refl
by-code P false x y here other = other

-- the command of a packet is of its code
pub command-is : (order : ByteOrder) (c : List ℕ) → IsCode (command_of order c) c
command-is order [] = refl
command-is order (code ∷ fields) =
    let P : Command → Type 0 = λ command. IsCode command (code ∷ fields) in
    let one : (n : ℕ) → (code == n) ≡ true → is_of n 1 (code ∷ fields) ≡ true =
    λ n is. is-of code n 1 fields is (omega arith) in
    by-code P (code == 0xFF) _ _ (one 0xFF) (by-code P (code == 0xDA) _ _ (one 0xDA)
    (by-code P (code == 0xD9) _ _ (one 0xD9) (by-code P (code == 0xD6) _ _ (one 0xD6)
    (by-code P (code == 0xD5) _ _ (one 0xD5)
    (by-code P (code == 0xD4) _ _ (alloc_odt-is order code fields)
    (by-code P (code == 0xD3) _ _ (alloc_odt_entry-is order code fields)
    (by-code P (code == 0xE2) _ _ (set_daq_ptr-is order code fields)
    (by-code P (code == 0xE1) _ _ (write_daq-is order code fields)
    (by-code P (code == 0xC7) _ _ (write_daq_multiple-is code fields)
    (by-code P (code == 0xE0) _ _ (set_daq_list_mode-is order code fields)
    (by-code P (code == 0xE3) _ _ (clear_daq_list-is order code fields)
    (by-code P (code == 0xDE) _ _ (start_stop_daq_list-is order code fields) tt))))))))))))

pub not-code : (n k : ℕ) (c : List ℕ) → is_of n k c ≡ false → is_of n k c ≡ true → ⊥
not-code n k c other is = false≢true (sym other ∙ is)

-- a packet without bytes is of none
pub none-of : (code k : ℕ) → is_of code (suc k) [] ≡ true → ⊥
none-of code k is =
    let long : nat_le (suc k) 0 ≡ true = and-left (nat_le (suc k) 0) (0 == code) is in
    grind (arith, nat_tests)

-- a packet with the code of a command
pub coded : (order : ByteOrder) (n k : ℕ) (c : List ℕ) → is_of n (suc k) c ≡ true
    → command_of order c ≡ command_by order n (drop 1 c)
coded order n k [] is = absurd (none-of n k is)
coded order n k (code ∷ fields) is =
    let here : (code == n) ≡ true =
    and-right (nat_le (suc k) (length (code ∷ fields))) (code == n) is in
    ap (λ (m : ℕ). command_by order m fields) (eqb-true code n here)

-- what came of a command, by whether its reply is positive, or that to SYNCH
abbrev pub came_by : Bool → Bool → Outcome
came_by positive synched =
    if positive then Done else (if synched then Unanswered else Refused)

-- a positive reply
done-if : (b s : Bool) → came_by b s ≡ Done → b ≡ true
done-if true s is = refl
done-if false true is = absurd cc
done-if false false is = absurd cc

pub done-positive : (n : ℕ) (reply : Option (List ℕ)) → outcome_of reply ≡ Done
    → n ≤ length (reply_of reply) → has_positive n reply ≡ true
done-positive n None is within = absurd cc
done-positive n (Some []) is within = absurd cc
done-positive n (Some (code ∷ rest)) is within =
    is-of code 0xFF n rest (done-if (code == 0xFF) (is_synched (code ∷ rest)) is) within

pub positive-done : (n : ℕ) (reply : List ℕ) → is_of 0xFF (suc n) reply ≡ true
    → outcome_of (Some reply) ≡ Done
positive-done n [] is = absurd (none-of 0xFF n is)
positive-done n (code ∷ rest) is =
    ap (λ (b : Bool). came_by b (is_synched (code ∷ rest)))
    (and-right (nat_le (suc n) (length (code ∷ rest))) (code == 0xFF) is)

pub has-done : (n : ℕ) (reply : Option (List ℕ)) → has_positive (suc n) reply ≡ true
    → outcome_of reply ≡ Done
has-done n None is = absurd (false≢true is)
has-done n (Some reply) is = positive-done n reply is
