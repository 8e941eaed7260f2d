-- The DAQ lists of a slave whose samples are read, after the frames that came, with the newest in
-- front; and what whoever is handed the samples is told.
use Rattle.std.specs.Prelude.{◌↔◌, ℕ, ◌+◌, ◌-◌, ◌^◌, ◌==◌, ◌&&◌, not, min, Bool, true, false}
use Rattle.std.specs.Prelude.{IsTrue, if◌then◌else◌, nat_lt, List, [], ◌∷◌, ◌++◌, filter, length}
use Rattle.std.specs.Prelude.{map, Option, Some, None}
use Rattle.std.specs.List.{list_any}
use Rattle.captured_session.specs.Alike.{ReadsAlike}
use Rattle.captured_session.specs.Exchanges.{Heard}
use Rattle.captured_session.specs.Lists.{ListOf, list_at}
use Rattle.captured_session.specs.SetUps.{SetUp, session_after}
use Rattle.captured_session.specs.declared.fact.Fact.{Fact}
use Rattle.captured_session.specs.declared.fact.Fact.TheVariants.{Odts}
use Rattle.captured_session.specs.declared.form.Form.{Form}
use Rattle.captured_samples.specs.Frames.{Came, anew, is_sample, of_master, of_slave, read_of}
use Rattle.captured_samples.specs.Frames.{step_of}
use Rattle.captured_samples.specs.Places.{odt_in}
use Rattle.captured_samples.specs.Samples.{ShownOf, shown_of, under_way}
use Rattle.captured_samples.specs.declared.counter_steps.CounterStep.{CounterStep}
use Rattle.captured_samples.specs.declared.counter_steps.CounterStep.TheVariants.{Behind, First}
use Rattle.captured_samples.specs.declared.counter_steps.CounterStep.TheVariants.{Jump}
use Rattle.captured_samples.specs.declared.mark.Mark.{Mark}

-- what reading begins with: how packets look until the slave says otherwise, and a test that tells
-- lists whose packets are read alike from others; with any such test the same is read
pub record Start : Type 0 where
  pub given : Form
  pub alike : ListOf → ListOf → Bool
  pub tells : (a b : ListOf) → IsTrue (alike a b) ↔ ReadsAlike a b

-- a set-up of a list, and its number; the packets that came since, with the newest in front, where
-- `None` is a gap; whether frames are missing behind its last whole sample
pub record ListIn : Type 0 where
  pub number : ℕ
  pub list : ListOf
  pub came : List (Option (List ℕ))
  pub gap : Bool

-- those that stand, and how many were met
pub record ListsIn : Type 0 where
  pub lists : List ListIn
  pub begun : ℕ

-- whether a list still stands in a set-up
abbrev pub alike_some : Start → ListOf → Option ListOf → Bool
alike_some start l None = false
alike_some start l (Some found) = start.alike l found

abbrev pub stands_in : Start → SetUp → ListOf → Bool
stands_in start s l = alike_some start l (list_at s l.list)

abbrev pub stands : Start → SetUp → ListIn → Bool
stands start s x = stands_in start s x.list

-- with the list of this number, if it can be read and isn't there yet
abbrev pub has_number : ℕ → List ListOf → Bool
has_number n lists = list_any (λ (l : ListOf). l.list == n) lists

abbrev pub has_list : ℕ → List ListIn → Bool
has_list n lists = has_number n (map (λ (x : ListIn). x.list) lists)

abbrev pub next_number : ℕ → ℕ
next_number n = min (n + 1) (2 ^ 64 - 1)

abbrev pub with_found : ListsIn → Option ListOf → ListsIn
with_found ls None = ls
with_found ls (Some found) = record {
  lists = ls.lists ++ record { number = ls.begun; list = found; came = []; gap = false } ∷ [];
  begun = next_number ls.begun;
}

abbrev pub with_list : SetUp → ℕ → ListsIn → ListsIn
with_list s n ls = if has_list n ls.lists then ls else with_found ls (list_at s n)

abbrev pub with_fact : SetUp → Fact → ListsIn → ListsIn
with_fact s (Odts n count) ls = with_list s n ls
with_fact s _ ls = ls

abbrev pub with_facts : SetUp → List Fact → ListsIn → ListsIn
with_facts s [] ls = ls
with_facts s (fact ∷ later) ls = with_facts s later (with_fact s fact ls)

-- the lists as a set-up tells them: those that still stand go on, and the others begin
abbrev pub still : Start → SetUp → ListsIn → ListsIn
still start s ls = record ls { lists = filter (stands start s) ls.lists }

abbrev pub read_anew : Start → SetUp → ListsIn → ListsIn
read_anew start s ls = with_facts s s.facts (still start s ls)

-- behind a gap; frames of the slave are missing, or it counts anew
abbrev pub marked : ListIn → ListIn
marked x = record x { came = None ∷ x.came; gap = true }

abbrev pub broken : ListIn → ListIn
broken x = record x { came = None ∷ x.came }

abbrev pub for_each : (ListIn → ListIn) → ListsIn → ListsIn
for_each f ls = record ls { lists = map f ls.lists }

-- with the slave's next frame, before its packet is looked at
abbrev pub come_to : Start → SetUp → CounterStep → ListsIn → ListsIn
come_to start s First ls = for_each broken ls
come_to start s Jump ls = for_each marked (read_anew start s ls)
come_to start s _ ls = ls

-- whether packets are a whole sample
abbrev pub is_whole : ShownOf → Bool
is_whole shown = nat_lt 0 shown.packets && shown.packets == length shown.list.odts

-- what is under way of a list, and with one packet more
abbrev pub shown_in : ListIn → ShownOf
shown_in x = shown_of x.list (under_way x.list x.came)

abbrev pub and_packet : List ℕ → ListIn → ListIn
and_packet p x = record x { came = Some p ∷ x.came }

abbrev pub given_to : List ℕ → ListIn → ListIn
given_to p x =
    record (and_packet p x) { gap = x.gap && not (is_whole (shown_in (and_packet p x))) }

-- a packet is given to the first list that it is of
abbrev pub give_if : Option ℕ → ListIn → ListIn → List ListIn → List ListIn → List ListIn
give_if None x taken others later = x ∷ others
give_if (Some k) x taken others later = taken ∷ later

abbrev pub give : List ℕ → List ListIn → List ListIn
give p [] = []
give p (x ∷ later) = give_if (odt_in x.list p) x (given_to p x) (give p later) later

-- what is told: a set-up of a list, with its number; a whole sample of the one of this number, with
-- its mark
pub data Told : Type 0 where
  began : ℕ → ListOf → Told
  handed : ℕ → ShownOf → Mark → Told

abbrev pub handed_of : ListIn → ShownOf → List Told
handed_of x shown =
    if is_whole shown
    then handed x.number shown (record { overload = shown.overload; gap = x.gap }) ∷ []
    else []

abbrev pub hand_if : Option ℕ → List Told → List Told → List Told
hand_if None own others = others
hand_if (Some k) own others = own

abbrev pub hands : List ℕ → List ListIn → List Told
hands p [] = []
hands p (x ∷ later) =
    hand_if (odt_in x.list p) (handed_of x (shown_in (and_packet p x))) (hands p later)

abbrev pub told_found : ListsIn → Option ListOf → List Told
told_found ls None = []
told_found ls (Some found) = began ls.begun found ∷ []

abbrev pub told_list : SetUp → ℕ → ListsIn → List Told
told_list s n ls = if has_list n ls.lists then [] else told_found ls (list_at s n)

abbrev pub told_fact : SetUp → Fact → ListsIn → List Told
told_fact s (Odts n count) ls = told_list s n ls
told_fact s _ ls = []

abbrev pub told_facts : SetUp → List Fact → ListsIn → List Told
told_facts s [] ls = []
told_facts s (fact ∷ later) ls = told_fact s fact ls ++ told_facts s later (with_fact s fact ls)

abbrev pub begins_anew : Start → SetUp → ListsIn → List Told
begins_anew start s ls = told_facts s s.facts (still start s ls)

-- with a packet of a sample, of lists that are read anew before
abbrev pub with_packet : Start → SetUp → List ℕ → ListsIn → ListsIn
with_packet start s p ls =
    record (read_anew start s ls) { lists = give p (read_anew start s ls).lists }

abbrev pub with_any : Start → SetUp → List ℕ → ListsIn → ListsIn
with_any start s p ls = if is_sample p then with_packet start s p ls else ls

-- with the slave's next frame
abbrev pub with_slave : Start → SetUp → CounterStep → List ℕ → ListsIn → ListsIn
with_slave start s Behind p ls = ls
with_slave start s step p ls = with_any start s p (come_to start s step ls)

-- the set-up that was learnt from what the session heard, and from the frames that came
abbrev pub set_up_by : Start → List Heard → SetUp
set_up_by start heard = (session_after start.given heard).set_up

abbrev pub set_up_of : Start → List Came → SetUp
set_up_of start h = set_up_by start (read_of h).heard

abbrev pub lists_of : Start → List Came → ListsIn
lists_of start [] = record { lists = []; begun = 0 }
lists_of start (of_master n p ∷ before) = lists_of start before
lists_of start (of_slave n p ∷ before) =
    with_slave start (set_up_of start before) (step_of (read_of before) n p) p
    (lists_of start before)
lists_of start (anew ∷ before) = for_each broken (lists_of start before)

-- what is told at the slave's next frame: the set-ups of lists that begin, and the sample that is
-- whole with it
abbrev pub told_at_gap : Start → SetUp → CounterStep → ListsIn → List Told
told_at_gap start s Jump ls = begins_anew start s ls
told_at_gap start s _ ls = []

abbrev pub told_of_packet : Start → SetUp → List ℕ → ListsIn → List Told
told_of_packet start s p ls =
    if is_sample p then begins_anew start s ls ++ hands p (read_anew start s ls).lists else []

abbrev pub told_by : Start → SetUp → CounterStep → List ℕ → ListsIn → List Told
told_by start s Behind p ls = []
told_by start s step p ls =
    told_at_gap start s step ls ++ told_of_packet start s p (come_to start s step ls)

-- all that was told, with the oldest in front
abbrev pub told_of : Start → List Came → List Told
told_of start [] = []
told_of start (of_slave n p ∷ before) =
    told_of start before
    ++ told_by start (set_up_of start before) (step_of (read_of before) n p) p
    (lists_of start before)
told_of start (_ ∷ before) = told_of start before
