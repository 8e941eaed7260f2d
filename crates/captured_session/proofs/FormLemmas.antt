-- How packets look behind some exchanges.
use Rattle.std.proofs.Common.{◌≡◌, ℕ, suc, ◌/◌, ◌%◌, ◌≤◌, Bool, true, false, List, [], ◌∷◌, ◌++◌}
use Rattle.std.proofs.Common.{drop, length, refl, sym, ap, ◌∙◌, subst}
use Rattle.std.proofs.Common.{Some, All, arith, ◌&&◌, ◌==◌, slice_index}
use Rattle.std.proofs.lemmas.Bool.{false≢true}
use Rattle.std.proofs.lemmas.List.{append-nil}
use Rattle.std.proofs.lemmas.List.Elements.{All-head, All-tail}
use Rattle.measured_values.specs.declared.byte_order.ByteOrder.{ByteOrder}
use Rattle.captured_session.specs.Codes.{has_positive, is_of}
use Rattle.captured_session.specs.Commands.{command_by, command_of, word}
use Rattle.captured_session.specs.Exchanges.{Exchange}
use Rattle.captured_session.specs.LawsOfForms.{FieldIsGiven, FieldIsNewest, OrderIsGiven}
use Rattle.captured_session.specs.LawsOfForms.{OrderIsNewest, StampIsGiven, StampIsNewest}
use Rattle.captured_session.specs.LawsOfForms.{tells_field, tells_order, tells_stamp}
use Rattle.captured_session.specs.SetUps.{field_of, form_after, form_behind, order_of, outcome_of}
use Rattle.captured_session.specs.SetUps.{reply_of}
use Rattle.captured_session.specs.declared.command.Command.{Command}
use Rattle.captured_session.specs.declared.command.Command.TheVariants.{Connect, ProcessorInfo}
use Rattle.captured_session.specs.declared.command.Command.TheVariants.{ResolutionInfo}
use Rattle.captured_session.specs.declared.form.Form.{Form}
use Rattle.captured_session.specs.declared.id_field.IdField.{IdField}
use Rattle.captured_session.specs.declared.outcome.Outcome.{Outcome}
use Rattle.captured_session.specs.declared.outcome.Outcome.TheVariants.{Done}
use Rattle.captured_session.proofs.CodeLemmas.{IsCode, and-both, and-left, and-right, coded}
use Rattle.captured_session.proofs.CodeLemmas.{command-is, done-positive, positive-done}

-- behind one exchange
abbrev behind : Exchange → Form → Form
behind x form = form_behind (command_of form.order x.0) (outcome_of x.1) (reply_of x.1) form

-- what no exchange tells stays
kept : {A : Type 0} (look : Form → A) (tells : Exchange → Bool)
    → ((x : Exchange) (form : Form) → tells x ≡ false → look (behind x form) ≡ look form)
    → (given : Form) (later xs : List Exchange) → All (λ x. tells x ≡ false) later
    → look (form_after given (later ++ xs)) ≡ look (form_after given xs)
kept look tells keeps given [] xs none = refl
kept look tells keeps given (x ∷ later) xs none =
    keeps x (form_after given (later ++ xs)) (All-head (λ x. tells x ≡ false) x later none)
    ∙ kept look tells keeps given later xs (All-tail (λ x. tells x ≡ false) x later none)

as_given : {A : Type 0} (look : Form → A) (tells : Exchange → Bool)
    → ((x : Exchange) (form : Form) → tells x ≡ false → look (behind x form) ≡ look form)
    → (given : Form) (xs : List Exchange) → All (λ x. tells x ≡ false) xs
    → look (form_after given xs) ≡ look given
as_given look tells keeps given xs none =
    ap (λ (ys : List Exchange). look (form_after given ys)) (sym (append-nil xs))
    ∙ kept look tells keeps given xs [] none

-- an exchange of another command, or one that was not carried out, tells nothing
keeps : {A : Type 0} (look : Form → A) (command : Command) (code n : ℕ)
    → ((c : List ℕ) → IsCode command c → is_of code 1 c ≡ true)
    → ((given : Command) (outcome : Outcome) (reply : List ℕ) (form : Form)
    → (given ≡ command → outcome ≡ Done → n ≤ length reply → ⊥)
    → look (form_behind given outcome reply form) ≡ look form)
    → (x : Exchange) (form : Form) → (is_of code 1 x.0 && has_positive n x.1) ≡ false
    → look (behind x form) ≡ look form
keeps look command code n is kept (c, reply) form none =
    kept (command_of form.order c) (outcome_of reply) (reply_of reply) form
    (λ same outcome within.
    let coded = is c (subst (λ command. IsCode command c) same (command-is form.order c)) in
    let positive = done-positive n reply outcome within in
    false≢true (sym none ∙ and-both (is_of code 1 c) (has_positive n reply) coded positive))

-- one that was carried out tells what its reply does
tells : {A : Type 0} (look : Form → A) (command : Command) (code n : ℕ) (told : Form → List ℕ → A)
    → ((order : ByteOrder) (fields : List ℕ) → command_by order code fields ≡ command)
    → ((form : Form) (reply : List ℕ) → is_of 0xFF (suc n) reply ≡ true
    → look (form_behind command Done reply form) ≡ told form reply)
    → (form : Form) (c reply : List ℕ) → (is_of code 1 c && is_of 0xFF (suc n) reply) ≡ true
    → look (behind (c, Some reply) form) ≡ told form reply
tells look command code n told by says form c reply is =
    let here : is_of code 1 c ≡ true = and-left (is_of code 1 c) (is_of 0xFF (suc n) reply) is in
    let positive : is_of 0xFF (suc n) reply ≡ true =
    and-right (is_of code 1 c) (is_of 0xFF (suc n) reply) is in
    ap (λ (it : Command). look (form_behind it (outcome_of (Some reply)) reply form))
    (coded form.order code 0 c here ∙ by form.order (drop 1 c))
    ∙ ap (λ (outcome : Outcome). look (form_behind command outcome reply form))
    (positive-done n reply positive)
    ∙ says form reply positive

-- byte order and granularity
abbrev Order : Type 0
Order = Bool × ByteOrder × ℕ

abbrev order_in : Form → Order
order_in form = (form.has_order, form.order, form.granularity)

abbrev order_by : Form → List ℕ → Order
order_by form reply = (true, order_of (slice_index reply 2), slice_index reply 2 / 2 % 4)

order-kept : (command : Command) (outcome : Outcome) (reply : List ℕ) (form : Form)
    → (command ≡ Connect → outcome ≡ Done → 3 ≤ length reply → ⊥)
    → order_in (form_behind command outcome reply form) ≡ order_in form
order-kept Connect Done (a ∷ b ∷ mode ∷ rest) form none = absurd (none refl refl (omega arith))
order-kept Connect Done _ form none = refl
order-kept ProcessorInfo Done (a ∷ b ∷ d ∷ e ∷ f ∷ g ∷ h ∷ i ∷ rest) form none = refl
order-kept ProcessorInfo Done _ form none = refl
order-kept ResolutionInfo Done (a ∷ b ∷ d ∷ e ∷ f ∷ g ∷ h ∷ i ∷ rest) form none = refl
order-kept ResolutionInfo Done _ form none = refl
order-kept _ _ reply form none = refl

order-keeps : (x : Exchange) (form : Form) → tells_order x ≡ false
    → order_in (behind x form) ≡ order_in form
order-keeps = keeps order_in Connect 0xFF 3 (λ c is. is) order-kept

order-says : (form : Form) (reply : List ℕ) → is_of 0xFF 3 reply ≡ true
    → order_in (form_behind Connect Done reply form) ≡ order_by form reply
order-says form (a ∷ b ∷ mode ∷ rest) is = refl
order-says form _ is = absurd (false≢true is)

order-tells : (form : Form) (c reply : List ℕ) → tells_order (c, Some reply) ≡ true
    → order_in (behind (c, Some reply) form) ≡ order_by form reply
order-tells = tells order_in Connect 0xFF 2 order_by (λ order fields. refl) order-says

pub order_is_newest : OrderIsNewest
order_is_newest given later before c reply is none =
    let kept = kept order_in tells_order order-keeps given later ((c, Some reply) ∷ before) none in
    let all = kept ∙ order-tells (form_after given before) c reply is in
    (ap (λ (it : Order). it.0) all, ap (λ (it : Order). it.1) all, ap (λ (it : Order). it.2) all)

pub order_is_given : OrderIsGiven
order_is_given given xs none =
    let all = as_given order_in tells_order order-keeps given xs none in
    (ap (λ (it : Order). it.0) all, ap (λ (it : Order). it.1) all, ap (λ (it : Order). it.2) all)

-- identification field and overload indication
abbrev Field : Type 0
Field = Bool × IdField × Bool

abbrev field_in : Form → Field
field_in form = (form.has_field, form.field, form.has_overload)

abbrev field_by : Form → List ℕ → Field
field_by form reply =
    (true, field_of (slice_index reply 7 / 64 % 4), slice_index reply 1 / 64 % 2 == 1)

field-kept : (command : Command) (outcome : Outcome) (reply : List ℕ) (form : Form)
    → (command ≡ ProcessorInfo → outcome ≡ Done → 8 ≤ length reply → ⊥)
    → field_in (form_behind command outcome reply form) ≡ field_in form
field-kept Connect Done (a ∷ b ∷ mode ∷ rest) form none = refl
field-kept Connect Done _ form none = refl
field-kept ProcessorInfo Done (a ∷ b ∷ d ∷ e ∷ f ∷ g ∷ h ∷ i ∷ rest) form none =
    absurd (none refl refl (omega arith))
field-kept ProcessorInfo Done _ form none = refl
field-kept ResolutionInfo Done (a ∷ b ∷ d ∷ e ∷ f ∷ g ∷ h ∷ i ∷ rest) form none = refl
field-kept ResolutionInfo Done _ form none = refl
field-kept _ _ reply form none = refl

field-keeps : (x : Exchange) (form : Form) → tells_field x ≡ false
    → field_in (behind x form) ≡ field_in form
field-keeps = keeps field_in ProcessorInfo 0xDA 8 (λ c is. is) field-kept

field-says : (form : Form) (reply : List ℕ) → is_of 0xFF 8 reply ≡ true
    → field_in (form_behind ProcessorInfo Done reply form) ≡ field_by form reply
field-says form (a ∷ b ∷ d ∷ e ∷ f ∷ g ∷ h ∷ i ∷ rest) is = refl
field-says form _ is = absurd (false≢true is)

field-tells : (form : Form) (c reply : List ℕ) → tells_field (c, Some reply) ≡ true
    → field_in (behind (c, Some reply) form) ≡ field_by form reply
field-tells = tells field_in ProcessorInfo 0xDA 7 field_by (λ order fields. refl) field-says

pub field_is_newest : FieldIsNewest
field_is_newest given later before c reply is none =
    let kept = kept field_in tells_field field-keeps given later ((c, Some reply) ∷ before) none in
    let all = kept ∙ field-tells (form_after given before) c reply is in
    (ap (λ (it : Field). it.0) all, ap (λ (it : Field). it.1) all, ap (λ (it : Field). it.2) all)

pub field_is_given : FieldIsGiven
field_is_given given xs none =
    let all = as_given field_in tells_field field-keeps given xs none in
    (ap (λ (it : Field). it.0) all, ap (λ (it : Field). it.1) all, ap (λ (it : Field). it.2) all)

-- timestamps
abbrev Stamp : Type 0
Stamp = Bool × ℕ × ℕ

abbrev stamp_in : Form → Stamp
stamp_in form = (form.has_stamp, form.stamp, form.ticks)

abbrev stamp_by : Form → List ℕ → Stamp
stamp_by form reply =
    (true, slice_index reply 5, word form.order (slice_index reply 6) (slice_index reply 7))

stamp-kept : (command : Command) (outcome : Outcome) (reply : List ℕ) (form : Form)
    → (command ≡ ResolutionInfo → outcome ≡ Done → 8 ≤ length reply → ⊥)
    → stamp_in (form_behind command outcome reply form) ≡ stamp_in form
stamp-kept Connect Done (a ∷ b ∷ mode ∷ rest) form none = refl
stamp-kept Connect Done _ form none = refl
stamp-kept ProcessorInfo Done (a ∷ b ∷ d ∷ e ∷ f ∷ g ∷ h ∷ i ∷ rest) form none = refl
stamp-kept ProcessorInfo Done _ form none = refl
stamp-kept ResolutionInfo Done (a ∷ b ∷ d ∷ e ∷ f ∷ g ∷ h ∷ i ∷ rest) form none =
    absurd (none refl refl (omega arith))
stamp-kept ResolutionInfo Done _ form none = refl
stamp-kept _ _ reply form none = refl

stamp-keeps : (x : Exchange) (form : Form) → tells_stamp x ≡ false
    → stamp_in (behind x form) ≡ stamp_in form
stamp-keeps = keeps stamp_in ResolutionInfo 0xD9 8 (λ c is. is) stamp-kept

stamp-says : (form : Form) (reply : List ℕ) → is_of 0xFF 8 reply ≡ true
    → stamp_in (form_behind ResolutionInfo Done reply form) ≡ stamp_by form reply
stamp-says form (a ∷ b ∷ d ∷ e ∷ f ∷ g ∷ h ∷ i ∷ rest) is = refl
stamp-says form _ is = absurd (false≢true is)

stamp-tells : (form : Form) (c reply : List ℕ) → tells_stamp (c, Some reply) ≡ true
    → stamp_in (behind (c, Some reply) form) ≡ stamp_by form reply
stamp-tells = tells stamp_in ResolutionInfo 0xD9 7 stamp_by (λ order fields. refl) stamp-says

pub stamp_is_newest : StampIsNewest
stamp_is_newest given later before c reply is none =
    let kept = kept stamp_in tells_stamp stamp-keeps given later ((c, Some reply) ∷ before) none in
    let all = kept ∙ stamp-tells (form_after given before) c reply is in
    (ap (λ (it : Stamp). it.0) all, ap (λ (it : Stamp). it.1) all, ap (λ (it : Stamp). it.2) all)

pub stamp_is_given : StampIsGiven
stamp_is_given given xs none =
    let all = as_given stamp_in tells_stamp stamp-keeps given xs none in
    (ap (λ (it : Stamp). it.0) all, ap (λ (it : Stamp). it.1) all, ap (λ (it : Stamp). it.2) all)
