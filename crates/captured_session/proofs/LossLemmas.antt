-- Behind commands that are missing nothing is known of any list.
use Rattle.std.proofs.Common.{◌≡◌, ℕ, ◌&&◌, not, Bool, true, false, List, [], ◌∷◌, ◌++◌, refl, ap}
use Rattle.std.proofs.Common.{◌∙◌, if◌then◌else◌, is_some, Option, Some, None}
use Rattle.std.proofs.lemmas.Bool.{false≢true}
use Rattle.captured_session.specs.Exchanges.{Exchange, answered, exchanges, is_lone, is_reply}
use Rattle.captured_session.specs.Exchanges.{lone_by, to_come, waiting}
use Rattle.captured_session.specs.LawsOfLosses.{LossForgets}
use Rattle.captured_session.specs.Lists.{list_at}
use Rattle.captured_session.specs.SetUps.{set_up_after}
use Rattle.captured_session.specs.declared.side.Side.TheVariants.{Master, Slave}
use Rattle.captured_session.proofs.CodeLemmas.{and-left, and-right}

-- what ends with a reply that is alone
ends-alone : (w : Option (List ℕ)) (n : ℕ) (p : List ℕ)
    → (is_reply p && not (is_some w) && is_lone n p) ≡ true
    → (if is_reply p then answered w n p else []) ≡ ([], Some p) ∷ []
ends-alone None n p is =
    let reply = and-left (is_reply p) true (and-left (is_reply p && true) (is_lone n p) is) in
    ap (λ (b : Bool). if b then lone_by n p else []) reply
    ∙ ap (λ (b : Bool). if b then ([], Some p) ∷ [] else [])
    (and-right (is_reply p && true) (is_lone n p) is)
ends-alone (Some c) n p is =
    absurd (false≢true (and-right (is_reply p) false
    (and-left (is_reply p && false) (is_lone n p) is)))

pub loss_forgets : LossForgets
loss_forgets given before (Master, []) list is = refl
loss_forgets given before (Master, code ∷ rest) list is = absurd (false≢true is)
loss_forgets given before (Slave, p) list is =
    ap (λ (xs : List Exchange). list_at (set_up_after given (xs ++ exchanges before)) list)
    (ends-alone (waiting before) (to_come before) p is)
