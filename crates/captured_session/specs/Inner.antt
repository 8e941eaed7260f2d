-- One exchange more of a session.
use Rattle.std.specs.Prelude.{ℕ, if◌then◌else◌, List, [], ◌∷◌, ◌++◌, Option, Some, None}
use Rattle.captured_session.specs.Commands.{command_of}
use Rattle.captured_session.specs.Exchanges.{awaited, is_command, is_lone, is_missing, is_reply}
use Rattle.captured_session.specs.Exchanges.{left_by}
use Rattle.captured_session.specs.SetUps.{Session, SetUp, facts_of, form_behind, frees, outcome_of}
use Rattle.captured_session.specs.SetUps.{pointer_behind, reply_of}
use Rattle.captured_session.specs.declared.command.Command.{Command}
use Rattle.captured_session.specs.declared.element.Element.{Element}
use Rattle.captured_session.specs.declared.entry.Entry.{Entry as KnownEntry}
use Rattle.captured_session.specs.declared.entry.Entry.TheVariants.{Is, Open, Unwritten}
use Rattle.captured_session.specs.declared.outcome.Outcome.{Outcome}
use Rattle.captured_session.specs.declared.side.Side.{Side}
use Rattle.captured_session.specs.declared.side.Side.TheVariants.{Master, Slave}

-- behind a command of which this came
abbrev pub behind_outcome : SetUp → List ℕ → List ℕ → Command → Outcome → SetUp
behind_outcome old c reply command outcome = record {
  form = form_behind command outcome reply old.form;
  pointer = pointer_behind command outcome old.pointer;
  facts = (if frees command outcome then [] else old.facts)
      ++ facts_of old.form.order old.pointer c reply command outcome;
}

abbrev pub behind : SetUp → List ℕ → Option (List ℕ) → SetUp
behind old c reply =
    behind_outcome old c (reply_of reply) (command_of old.form.order c) (outcome_of reply)

-- a command that waits, if there is one, without a reply
abbrev pub gives_up : Option (List ℕ) → SetUp → SetUp
gives_up None old = old
gives_up (Some c) old = behind old c None

-- with a reply; it is one to a command that is missing, if none waits and it is alone
abbrev pub answers : Option (List ℕ) → ℕ → List ℕ → SetUp → SetUp
answers None n p old = if is_lone n p then behind old [] (Some p) else old
answers (Some c) n p old = behind old c (Some p)

-- commands may be missing
abbrev pub misses : Session → Session
misses old = record { set_up = behind old.set_up [] None; waiting = None; to_come = 0 }

-- one packet more
abbrev pub asks : List ℕ → Session → Session
asks p old = record { set_up = gives_up old.waiting old.set_up; waiting = Some p; to_come = 0 }

abbrev pub tells : List ℕ → Session → Session
tells p old = record {
  set_up = answers old.waiting old.to_come p old.set_up;
  waiting = None;
  to_come = left_by p (awaited old.waiting old.to_come);
}

abbrev pub hears : Side → List ℕ → Session → Session
hears Master p old =
    if is_missing p then misses old else if is_command p then asks p old else old
hears Slave p old = if is_reply p then tells p old else old

-- behind entries that are these
abbrev pub entry_behind : Option (List Element) → KnownEntry → Option (List Element)
entry_behind None entry = None
entry_behind (Some xs) Open = None
entry_behind (Some xs) Unwritten = None
entry_behind (Some xs) (Is x) = Some (xs ++ x ∷ [])

-- behind ODTs of which these are known
abbrev pub odt_behind :
    Option (List (List Element)) → Option (List Element) → Option (List (List Element))
odt_behind (Some odts) (Some odt) = Some (odts ++ odt ∷ [])
odt_behind _ _ = None
