-- Behind a jump of a master's counter no list is known.
use Rattle.std.proofs.Common.{◌≡◌, ℕ, Bool, true, false, List, [], ◌∷◌, ◌++◌, refl, ap, ◌∙◌, if◌then◌else◌, None}
use Rattle.captured_session.specs.Exchanges.{Exchange, Heard, exchanges, is_command}
use Rattle.captured_session.specs.Lists.{list_at}
use Rattle.captured_session.specs.SetUps.{set_up_after}
use Rattle.captured_session.specs.declared.form.Form.{Form}
use Rattle.captured_session.specs.declared.side.Side.TheVariants.{Master}
use Rattle.captured_samples.specs.Frames.{ReadOf, jumps, last_of, read_of, with_missing}
use Rattle.captured_samples.specs.Losses.{JumpForgets}
use Rattle.captured_samples.specs.Standing.{set_up_by}

none-if : (given : Form) (xs : List Exchange) (list : ℕ) (b : Bool)
    → list_at (set_up_after given ((if b then [] else []) ++ ([], None) ∷ xs)) list ≡ None
none-if given xs list true = refl
none-if given xs list false = refl

none-behind : (given : Form) (heard : List Heard) (p : List ℕ) (list : ℕ)
    → list_at (set_up_after given (exchanges ((Master, p) ∷ (Master, []) ∷ heard))) list ≡ None
none-behind given heard [] list = refl
none-behind given heard (code ∷ rest) list =
    none-if given (exchanges heard) list (is_command (code ∷ rest))

pub jump_forgets : JumpForgets
jump_forgets start h n p list copy jump =
    let r = read_of h in
    let last = last_of r.commands in
    let with : Bool → ReadOf = λ j. record r { commands = (n, p) ∷ r.commands; heard = (Master, p) ∷ with_missing j r.heard } in
    ap (λ (b : Bool). list_at (set_up_by start (if b then r else with (jumps last n p)).heard) list) copy
    ∙ ap (λ (j : Bool). list_at (set_up_by start (with j).heard) list) jump
    ∙ none-behind start.given r.heard p list
