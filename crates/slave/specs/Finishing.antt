-- What came back of a measurement at an event channel of a slave.
use Rattle.std.specs.Prelude.{◌≡◌, ◌⊎◌, ℕ, ◌+◌, ◌%◌, true, false, List, [], ◌∷◌, length}
use Rattle.std.specs.Prelude.{Option, Some, IfSome, IsNone}
use Rattle.sampler.specs.Past.{Past}
use Rattle.slave_outbox.specs.Intakes.{StandsAfter}
use Rattle.tasks.specs.Links.{is_here, is_out}
use Rattle.slave_channels.specs.Channels.{ChannelState, FinishedState, IsPastOf, number_of}
use Rattle.slave.specs.Hearing.{GoesBy, NoneComes}
use Rattle.slave.specs.Log.{Act, CameBack, deeds_of}
use Rattle.slave.specs.Standing.{Busy, PartsStandAfter, SlaveState}
use Rattle.slave.specs.Openings.{IsOpenedAfter, past_at}

-- the intake of what came back stands after all that was done with its ring, by the slave's log
abbrev pub IsFinishedOf : SlaveState → ℕ → FinishedState → Type 0
IsFinishedOf a c f =
    (log : List Act) → PartsStandAfter a.session.profile a log
    → StandsAfter f.intake (deeds_of a.session.profile f.number c log)

-- it was opened with the store that the session had where its measurement was opened, and with a
-- ring of the capacity that the profile has there
abbrev pub IsOpenedThere : SlaveState → ℕ → FinishedState → Type 0
IsOpenedThere a c f =
    (log : List Act) → PartsStandAfter a.session.profile a log
    → IsOpenedAfter a.session.profile (past_at a.session.profile f.number log) c f.opened

-- what came back was handed out, if it did; nothing else changed that a log tells of. What a
-- slave then stands after is said by `goes`
pub record GivesBackBy (goes : SlaveState → SlaveState → List Act → Type 0) (a b : SlaveState)
    (c : ℕ) (answer : Option FinishedState)
    : Type 0 where
  pub session : b.session ≡ a.session
  pub outbox : b.outbox ≡ a.outbox
  pub as_many : length b.channels ≡ length a.channels
  pub number : b.number ≡ a.number
  pub none : IsNone answer → goes a b []
  pub some :
      IfSome answer (λ f.
      (past : Past) → IsPastOf f past → goes a b (CameBack f.number c past ∷ []))
  pub finished : IfSome answer (IsFinishedOf a c)
  pub opened : IfSome answer (IsOpenedThere a c)

-- a part that is kept as the last of an event channel is of the newest measurement
abbrev pub IsOfNewest : SlaveState → ChannelState → Type 0
IsOfNewest s ch =
    (m : ℕ) → number_of ch.newer ≡ Some m → (m + 1) % 18446744073709551616 ≡ s.number

-- all that is here, or known to have come back, at an event channel was given back, but for what is
-- left of the newest measurement while lists run
pub record GaveAll (s : SlaveState) (ch : ChannelState) : Type 0 where
  pub older_not_here : is_here ch.link.older ≡ false
  pub older : is_out ch.link.older ≡ true → ch.link.coming ≡ []
  pub newer : NoneComes ch.link ⊎ (Busy s.session × IsOfNewest s ch)

abbrev pub GivesBack : SlaveState → SlaveState → ℕ → Option FinishedState → Type 0
GivesBack a b c answer = GivesBackBy GoesBy a b c answer
