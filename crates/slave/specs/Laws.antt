-- What follows from the definitions.
use Rattle.std.specs.Prelude.{◌≡◌, ℕ, ◌+◌, ◌<◌, true, List}
use Rattle.xcp_base.specs.declared.limits.TheConstants.{MAX_LISTS}
use Rattle.session.specs.Starts.{runs}
use Rattle.session.specs.declared.profile.Profile.{Profile}
use Rattle.slave_outbox.specs.Deeds.{passes}
use Rattle.slave.specs.Log.{Act, deeds_of, opened, past_of}
use Rattle.slave.specs.Session.{SameStory, SessionLaw}
use Rattle.slave.specs.Standing.{IsLog, SlaveStandsAfter, SlaveState}

-- a sample that is laid out is of the newest measurement, and its list runs: so it stands behind
-- the reply to the start of the list, and before that to its stop
abbrev pub NothingOutsideARun : Type 0
NothingOutsideARun =
    (d : Profile) (log : List Act) → IsLog d log
    → (m c l : ℕ) → l < MAX_LISTS → passes (deeds_of d m c log) l ≡ true
    → (m + 1 ≡ opened log) × (runs (past_of d log) l ≡ true)

-- what a slave's log says of the bytes that were sent
abbrev pub SessionOfLog : Type 0
SessionOfLog = (d : Profile) (log : List Act) → IsLog d log → SessionLaw d log

-- after whichever two logs one slave stands, they tell one story
abbrev pub OneSlaveOneStory : Type 0
OneSlaveOneStory =
    (d : Profile) (s : SlaveState) (a b : List Act) → SlaveStandsAfter d s a
    → SlaveStandsAfter d s b → SameStory d a b
