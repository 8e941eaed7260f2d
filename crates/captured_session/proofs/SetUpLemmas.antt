-- What is known behind some exchanges.
use Rattle.std.proofs.Common.{◌≡◌, ℕ, Bool, true, false, not, ◌&&◌, List, [], ◌∷◌, ◌++◌, refl, sym}
use Rattle.std.proofs.Common.{ap, ◌∙◌, subst, arith, ◌==◌, nat_le, length, Option, Some, None, inl}
use Rattle.std.proofs.Common.{inr}
use Rattle.std.proofs.lemmas.Bool.{false≢true}
use Rattle.std.proofs.lemmas.Bool.Decides.{nat_tests}
use Rattle.std.proofs.lemmas.List.{append-nil}
use Rattle.captured_session.specs.Codes.{is_of}
use Rattle.captured_session.specs.Commands.{command_of}
use Rattle.captured_session.specs.Exchanges.{Exchange, is_missing, is_synched}
use Rattle.captured_session.specs.Inner.{behind, behind_outcome}
use Rattle.captured_session.specs.LawsOfSetUps.{AllocDaqForgets, FreeDaqForgets, NothingIsKnown}
use Rattle.captured_session.specs.LawsOfSetUps.{RefusedChangesNothing, allocs_lists, frees_all}
use Rattle.captured_session.specs.LawsOfSetUps.{is_refused}
use Rattle.captured_session.specs.SetUps.{SetUp, outcome_of, reply_of, set_up_after}
use Rattle.captured_session.specs.declared.command.Command.{Command}
use Rattle.captured_session.specs.declared.command.Command.TheVariants.{AllocDaq, FreeDaq}
use Rattle.captured_session.specs.declared.command.Command.TheVariants.{Missing, SetDaqPtr}
use Rattle.captured_session.specs.declared.command.Command.TheVariants.{WriteDaqMultiple}
use Rattle.captured_session.specs.declared.form.Form.{Form}
use Rattle.captured_session.specs.declared.outcome.Outcome.{Outcome}
use Rattle.captured_session.specs.declared.outcome.Outcome.TheVariants.{Done, Refused, Unanswered}
use Rattle.captured_session.specs.declared.pointer.Pointer.TheVariants.{Unknown}
use Rattle.captured_session.proofs.CodeLemmas.{IsCode, not-code, and-left, and-right, coded}
use Rattle.captured_session.proofs.CodeLemmas.{came_by, command-is}
use Rattle.captured_session.proofs.CodeLemmas.{or-cases}

-- what is the same behind some exchanges stays the same
pub same-behind : (given other : Form) (later xs ys : List Exchange)
    → set_up_after given xs ≡ set_up_after other ys
    → set_up_after given (later ++ xs) ≡ set_up_after other (later ++ ys)
same-behind given other [] xs ys same = same
same-behind given other (x ∷ later) xs ys same =
    ap (λ (s : SetUp). behind s x.0 x.1) (same-behind given other later xs ys same)

-- its reply, by whether it is positive, or that to SYNCH
refused-by : (b s : Bool) → (not b && not s) ≡ true → came_by b s ≡ Refused
refused-by true s is = absurd (false≢true is)
refused-by false true is = absurd (false≢true is)
refused-by false false is = refl

other-by : (b s : Bool) → (not b && not s) ≡ false → came_by b s ≡ Refused → ⊥
other-by true s is came = absurd cc
other-by false true is came = absurd cc
other-by false false is came = false≢true (sym is)

positive-is : (code : ℕ) (rest : List ℕ) → is_of 0xFF 1 (code ∷ rest) ≡ (code == 0xFF)
positive-is code rest =
    let within : nat_le 1 (length (code ∷ rest)) ≡ true = grind (arith, nat_tests) in
    ap (λ (b : Bool). b && (code == 0xFF)) within

refused-code : (code : ℕ) (rest : List ℕ)
    → is_refused (Some (code ∷ rest)) ≡ (not (code == 0xFF) && not (is_synched (code ∷ rest)))
refused-code code rest =
    ap (λ (b : Bool). not b && not (is_synched (code ∷ rest))) (positive-is code rest)

pub refused-is : (reply : Option (List ℕ)) → is_refused reply ≡ true → outcome_of reply ≡ Refused
refused-is None is = absurd (false≢true is)
refused-is (Some []) is = refl
refused-is (Some (code ∷ rest)) is =
    refused-by (code == 0xFF) (is_synched (code ∷ rest)) (sym (refused-code code rest) ∙ is)

pub refused-not : (reply : Option (List ℕ)) → is_refused reply ≡ false
    → outcome_of reply ≡ Refused → ⊥
refused-not None is came = absurd cc
refused-not (Some []) is came = false≢true (sym is)
refused-not (Some (code ∷ rest)) is came =
    other-by (code == 0xFF) (is_synched (code ∷ rest)) (sym (refused-code code rest) ∙ is) came

refused-stays : (s : SetUp) (c reply : List ℕ) (command : Command)
    → ((list odt entry : ℕ) → command ≡ SetDaqPtr list odt entry → ⊥)
    → ((n : ℕ) → command ≡ WriteDaqMultiple n → ⊥) → (command ≡ Missing → ⊥)
    → behind_outcome s c reply command Refused ≡ s
refused-stays s c reply (SetDaqPtr list odt entry) ptr multiple missing =
    absurd (ptr list odt entry refl)
refused-stays s c reply (WriteDaqMultiple n) ptr multiple missing = absurd (multiple n refl)
refused-stays s c reply Missing ptr multiple missing = absurd (missing refl)
refused-stays s c reply _ ptr multiple missing = λ i. record {
  form = s.form;
  pointer = s.pointer;
  facts = append-nil s.facts i;
}

pub refused_changes_nothing : RefusedChangesNothing
refused_changes_nothing given later before c reply refused ptr multiple missing =
    let s = set_up_after given before in
    let command = command_of s.form.order c in
    let is = command-is s.form.order c in
    same-behind given given later ((c, reply) ∷ before) before
    (ap (λ (o : Outcome). behind_outcome s c (reply_of reply) command o) (refused-is reply refused)
    ∙ refused-stays s c (reply_of reply) command
    (λ list odt entry here. not-code 0xE2 6 c ptr (subst (λ k. IsCode k c) here is))
    (λ n here. not-code 0xC7 2 c multiple (subst (λ k. IsCode k c) here is))
    (λ here. false≢true (sym missing ∙ ap is_missing (subst (λ k. IsCode k c) here is))))

-- behind a command that is missing, FREE_DAQ and ALLOC_DAQ
freed : SetUp → SetUp
freed s = record { form = s.form; pointer = Unknown; facts = [] }

emptied : SetUp → SetUp
emptied s = record s { facts = [] }

free-by : (s : SetUp) (c reply : List ℕ) (o : Outcome) → (o ≡ Refused → ⊥)
    → behind_outcome s c reply FreeDaq o ≡ freed s
unfolding freed
free-by s c reply Done other = refl
free-by s c reply Refused other = absurd (other refl)
free-by s c reply Unanswered other = refl

alloc-by : (s : SetUp) (c reply : List ℕ) (o : Outcome) → (o ≡ Refused → ⊥)
    → behind_outcome s c reply AllocDaq o ≡ emptied s
unfolding emptied
alloc-by s c reply Done other = refl
alloc-by s c reply Refused other = absurd (other refl)
alloc-by s c reply Unanswered other = refl

not-true : (b : Bool) → not b ≡ true → b ≡ false
not-true true is = absurd (false≢true is)
not-true false is = refl

-- a command of this code that wasn't refused
not-refused : (n : ℕ) (c : List ℕ) (reply : Option (List ℕ))
    → (is_of n 1 c && not (is_refused reply)) ≡ true → outcome_of reply ≡ Refused → ⊥
not-refused n c reply is =
    refused-not reply
    (not-true (is_refused reply) (and-right (is_of n 1 c) (not (is_refused reply)) is))

frees-all : (s : SetUp) (x : Exchange) → frees_all x ≡ true → behind s x.0 x.1 ≡ freed s
unfolding freed
frees-all s ([], reply) is = refl
frees-all s (code ∷ rest, reply) is =
    let c = code ∷ rest in
    let here : is_of 0xD6 1 c ≡ true = and-left (is_of 0xD6 1 c) (not (is_refused reply)) is in
    ap (λ (k : Command). behind_outcome s c (reply_of reply) k (outcome_of reply))
    (coded s.form.order 0xD6 0 c here)
    ∙ free-by s c (reply_of reply) (outcome_of reply) (not-refused 0xD6 c reply is)

allocs-lists : (s : SetUp) (x : Exchange) → allocs_lists x ≡ true → behind s x.0 x.1 ≡ emptied s
unfolding emptied
allocs-lists s (c, reply) is =
    let here : is_of 0xD5 1 c ≡ true = and-left (is_of 0xD5 1 c) (not (is_refused reply)) is in
    ap (λ (k : Command). behind_outcome s c (reply_of reply) k (outcome_of reply))
    (coded s.form.order 0xD5 0 c here)
    ∙ alloc-by s c (reply_of reply) (outcome_of reply) (not-refused 0xD5 c reply is)

pub free_daq_forgets : FreeDaqForgets
unfolding freed
free_daq_forgets given other later before earlier x is form =
    same-behind given other later (x ∷ before) (x ∷ earlier)
    (frees-all (set_up_after given before) x is
    ∙ ap (λ (f : Form). record { form = f; pointer = Unknown; facts = [] }) form
    ∙ sym (frees-all (set_up_after other earlier) x is))

pub alloc_daq_forgets : AllocDaqForgets
unfolding emptied
alloc_daq_forgets given other later before earlier x is form pointer =
    let same : emptied (set_up_after given before) ≡ emptied (set_up_after other earlier) =
    λ i. record { form = form i; pointer = pointer i; facts = [] } in
    same-behind given other later (x ∷ before) (x ∷ earlier)
    (allocs-lists (set_up_after given before) x is ∙ same
    ∙ sym (allocs-lists (set_up_after other earlier) x is))

pub nothing_is_known : NothingIsKnown
unfolding freed emptied
nothing_is_known given before x is = elim (or-cases (frees_all x) (allocs_lists x) is) [
  | inl free ↦ ap (λ (s : SetUp). s.facts) (frees-all (set_up_after given before) x free)
  | inr alloc ↦ ap (λ (s : SetUp). s.facts) (allocs-lists (set_up_after given before) x alloc)
]
