-- What is heard and sent by the acts of a log behind others.
use Rattle.std.proofs.Common.{◌≡◌, ℕ, Bool, true, false, List, [], ◌∷◌, ◌++◌, append-nil, refl, sym, ap, ◌∙◌, inl, inr}
use Rattle.std.specs.List.{list_all}
use Rattle.std.proofs.lemmas.Bool.{false≢true}
use Rattle.slave_outbox.specs.Outboxes.{packets_in}
use Rattle.frame_writer.specs.Frame.{text}
use Rattle.session.specs.Past.{Given}
use Rattle.session.specs.declared.profile.Profile.{Profile}
use Rattle.slave.specs.Hearing.{IsHearing, MayOpen, is_before, most_before}
use Rattle.slave.specs.Log.{Act, CameBack, Discarded, Heard, HungUp, Opened, Refused, Sent, Took, sent_laid}
use Rattle.slave.specs.Taking.{is_take}
use Rattle.session_file.specs.Lines.{LineData, master, memory, trigger, send, send_in, lose, hang_up}
use Rattle.slave.specs.Session.{sent_text}
use Rattle.session_file.specs.Playing.{heard_by, masters}
use Rattle.slave.proofs.ThinnedLemmas.{assoc}

-- the packets of the master, line by line
pub masters-append : (xs ys : List LineData) → masters (xs ++ ys) ≡ masters xs ++ masters ys
masters-append [] ys = refl
masters-append (master packet ∷ xs) ys = ap (λ ps. packet ∷ ps) (masters-append xs ys)
masters-append (trigger c stamp slices ∷ xs) ys = masters-append xs ys
masters-append (memory slices ∷ xs) ys = masters-append xs ys
masters-append (send ∷ xs) ys = masters-append xs ys
masters-append (send_in room ∷ xs) ys = masters-append xs ys
masters-append (lose ∷ xs) ys = masters-append xs ys
masters-append (hang_up ∷ xs) ys = masters-append xs ys

-- the packets of some acts behind others
pub heard-append : (acts log : List Act) → heard_by (acts ++ log) ≡ heard_by log ++ heard_by acts
heard-append [] log = sym (append-nil (heard_by log))
heard-append (Heard x ∷ acts) log = ap (λ xs. xs ++ x.packet ∷ []) (heard-append acts log) ∙ assoc (heard_by log) (heard_by acts) (x.packet ∷ [])
heard-append (Refused packet code ∷ acts) log = ap (λ xs. xs ++ packet ∷ []) (heard-append acts log) ∙ assoc (heard_by log) (heard_by acts) (packet ∷ [])
heard-append (Opened at ∷ acts) log = heard-append acts log
heard-append (Took m c x ∷ acts) log = heard-append acts log
heard-append (CameBack m c past ∷ acts) log = heard-append acts log
heard-append (Sent n ∷ acts) log = heard-append acts log
heard-append (HungUp ∷ acts) log = heard-append acts log
heard-append (Discarded ∷ acts) log = heard-append acts log

-- an act that sends nothing
abbrev pub is_silent : Act → Bool
is_silent (Heard x) = true
is_silent (Refused packet code) = true
is_silent (Opened at) = true
is_silent (Took m c x) = true
is_silent (CameBack m c past) = true
is_silent (Sent n) = false
is_silent HungUp = true
is_silent Discarded = true

-- acts that send nothing leave what was sent as it is
units-stay : (d : Profile) (acts log : List Act) → list_all is_silent acts ≡ true → sent_laid d (acts ++ log) ≡ sent_laid d log
units-stay d [] log are = refl
units-stay d (Heard x ∷ acts) log are = units-stay d acts log are
units-stay d (Refused packet code ∷ acts) log are = units-stay d acts log are
units-stay d (Opened at ∷ acts) log are = units-stay d acts log are
units-stay d (Took m c x ∷ acts) log are = units-stay d acts log are
units-stay d (CameBack m c past ∷ acts) log are = units-stay d acts log are
units-stay d (Sent n ∷ acts) log are = absurd (false≢true are)
units-stay d (HungUp ∷ acts) log are = units-stay d acts log are
units-stay d (Discarded ∷ acts) log are = units-stay d acts log are

-- and the text of it
pub text-stays : (d : Profile) (acts log : List Act) → list_all is_silent acts ≡ true → sent_text d (acts ++ log) ≡ sent_text d log
text-stays d acts log are = ap (λ xs. text 0 (packets_in xs)) (units-stay d acts log are)

-- items that are taken are no packets, and nothing is sent
pub takes-nothing : (acts : List Act) → list_all is_take acts ≡ true → (heard_by acts ≡ []) × (list_all is_silent acts ≡ true)
takes-nothing [] are = (refl, refl)
takes-nothing (Heard x ∷ acts) are = absurd (false≢true are)
takes-nothing (Refused packet code ∷ acts) are = absurd (false≢true are)
takes-nothing (Opened at ∷ acts) are = absurd (false≢true are)
takes-nothing (Took m c x ∷ acts) are = takes-nothing acts are
takes-nothing (CameBack m c past ∷ acts) are = absurd (false≢true are)
takes-nothing (Sent n ∷ acts) are = absurd (false≢true are)
takes-nothing (HungUp ∷ acts) are = absurd (false≢true are)
takes-nothing (Discarded ∷ acts) are = absurd (false≢true are)

before-nothing : (acts : List Act) → list_all is_before acts ≡ true → (heard_by acts ≡ []) × (list_all is_silent acts ≡ true)
before-nothing [] are = (refl, refl)
before-nothing (Heard x ∷ acts) are = absurd (false≢true are)
before-nothing (Refused packet code ∷ acts) are = absurd (false≢true are)
before-nothing (Opened at ∷ acts) are = before-nothing acts are
before-nothing (Took m c x ∷ acts) are = absurd (false≢true are)
before-nothing (CameBack m c past ∷ acts) are = before-nothing acts are
before-nothing (Sent n ∷ acts) are = absurd (false≢true are)
before-nothing (HungUp ∷ acts) are = absurd (false≢true are)
before-nothing (Discarded ∷ acts) are = absurd (false≢true are)

-- a packet that was heard is one, and nothing is sent
pub heard-one : (act : Act) (opening : List Act) (packet : List ℕ) (given : Given) → IsHearing packet given act → MayOpen most_before opening
    → (heard_by (act ∷ opening) ≡ packet ∷ []) × (list_all is_silent (act ∷ opening) ≡ true)
heard-one act opening packet given is may = by_act is
  where
    none : (heard_by opening ≡ []) × (list_all is_silent opening ≡ true)
    none = before-nothing opening may.are

    by_act : IsHearing packet given act → (heard_by (act ∷ opening) ≡ packet ∷ []) × (list_all is_silent (act ∷ opening) ≡ true)
    by_act (inl w) = (
      ap (λ a. heard_by (a ∷ opening)) w.1 ∙ ap (λ xs. xs ++ w.0.packet ∷ []) none.0 ∙ ap (λ p. p ∷ []) w.2,
      ap (λ a. list_all is_silent (a ∷ opening)) w.1 ∙ none.1,
    )
    by_act (inr w) = (
      ap (λ a. heard_by (a ∷ opening)) w.1 ∙ ap (λ xs. xs ++ packet ∷ []) none.0,
      ap (λ a. list_all is_silent (a ∷ opening)) w.1 ∙ none.1,
    )
