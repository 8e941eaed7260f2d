-- Laws of commands that are missing in a capture: nothing is known behind them of any list. They
-- look at the places of packets, with the newest in front.
use Rattle.std.specs.Prelude.{◌≡◌, ℕ, ◌&&◌, not, Bool, true, List, ◌∷◌, is_some, None}
use Rattle.captured_session.specs.Exchanges.{Heard, is_lone, is_missing, is_reply, to_come, waiting}
use Rattle.captured_session.specs.Lists.{list_at}
use Rattle.captured_session.specs.SetUps.{session_after}
use Rattle.captured_session.specs.declared.form.Form.{Form}
use Rattle.captured_session.specs.declared.side.Side.TheVariants.{Master, Slave}

-- a place where commands may be missing; or a reply that no command waits for, but not more of an
-- UPLOAD, nor the reply to SYNCH
abbrev pub is_loss : Heard → List Heard → Bool
is_loss (Master, p) before = is_missing p
is_loss (Slave, p) before =
    is_reply p && not (is_some (waiting before)) && is_lone (to_come before) p

abbrev pub LossForgets : Type 0
LossForgets =
    (given : Form) (before : List Heard) (x : Heard) (list : ℕ) → is_loss x before ≡ true
    → list_at (session_after given (x ∷ before)).set_up list ≡ None
