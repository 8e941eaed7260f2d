-- What is kept of a slave whose samples are read, and what that stands after.
use Rattle.std.specs.Prelude.{◌≡◌, ◌⊎◌, ◌∷◌, ◌++◌, [], ℕ, ◌+◌, ◌<◌, ⊤, Bool, false, true, List}
use Rattle.std.specs.Prelude.{length, map, Option, None}
use Rattle.std.specs.List.{list_all}
use Rattle.captured_session.specs.Exchanges.{Heard}
use Rattle.captured_session.specs.Lists.{ListOf, list_at}
use Rattle.captured_session.specs.SetUps.{Session, SetUp, session_after}
use Rattle.captured_session.specs.declared.fact.Fact.{Fact}
use Rattle.captured_session.specs.declared.fact.Fact.TheVariants.{Odts}
use Rattle.captured_session.specs.declared.limits.TheConstants.{MAX_FACTS}
use Rattle.captured_samples.specs.Frames.{Came, LastOf, ReadOf, last_of, read_of}
use Rattle.captured_samples.specs.Standing.{ListIn, ListsIn, Start, Told, has_number, lists_of}
use Rattle.captured_samples.specs.Standing.{set_up_by, shown_in, stands_in}
use Rattle.captured_samples.specs.declared.list_state.ListState.{ListState}
use Rattle.captured_samples.specs.declared.tallies.Tallies.{Tallies}

-- of a list: what is under way of it, and whether frames are missing behind its last whole sample
abbrev pub state_of : ListIn → ListState
state_of x = record { number = x.number; samples = shown_in x; gap = x.gap }

pub record StatesOf : Type 0 where
  pub lists : List ListState
  pub begun : ℕ

abbrev pub states_of : ListsIn → StatesOf
states_of ls = record { lists = map state_of ls.lists; begun = ls.begun }

pub record SlaveOf : Type 0 where
  pub session : Session
  pub lists : StatesOf
  pub is_changed : Bool
  pub counter : Option ℕ
  pub command : LastOf
  pub tallies : Tallies

-- the lists that are there
abbrev pub lists_in : ListsIn → List ListOf
lists_in ls = map (λ (x : ListIn). x.list) ls.lists

-- each list that a fact says to have ODTs is there, or can't be read
abbrev pub IsMet : SetUp → Fact → List ListOf → Type 0
IsMet s (Odts n count) lists = (has_number n lists ≡ true) ⊎ (list_at s n ≡ None)
IsMet s _ lists = ⊤

abbrev pub AllMet : SetUp → List Fact → List ListOf → Type 0
AllMet s [] lists = ⊤
AllMet s (fact ∷ later) lists = IsMet s fact lists × AllMet s later lists

-- these lists are those that a set-up tells
pub record AllRead (start : Start) (s : SetUp) (lists : List ListOf) : Type 0 where
  pub stand : list_all (stands_in start s) lists ≡ true
  pub met : AllMet s s.facts lists

-- the session, and the lists; unless the set-up may have changed, they are those that it tells
pub record Keeps (start : Start) (heard : List Heard) (ls : ListsIn) (s : SlaveOf) : Type 0 where
  pub session : s.session ≡ session_after start.given heard
  pub lists : s.lists ≡ states_of ls
  pub read : s.is_changed ≡ false → AllRead start (set_up_by start heard) (lists_in ls)

-- it stands so, where this was read and these are the lists
pub record StandsBy (start : Start) (r : ReadOf) (ls : ListsIn) (s : SlaveOf) : Type 0 where
  pub keeps : Keeps start r.heard ls s
  pub counter : s.counter ≡ r.counter
  pub command : s.command ≡ last_of r.commands

-- it stands after the frames that came, with the newest in front
abbrev pub StandsAfter : Start → List Came → SlaveOf → Type 0
StandsAfter start h s = StandsBy start (read_of h) (lists_of start h) s

-- with a command more there may be too many facts in it
abbrev pub IsFull : SetUp → Type 0
IsFull s = MAX_FACTS < length s.facts + 256

-- whoever is handed samples was told more: where it stood after something, it stands after that and
-- these
abbrev pub Tells : (List Told → Type 0) → (List Told → Type 0) → List Told → Type 0
Tells old new more = (before : List Told) → old before → new (before ++ more)
