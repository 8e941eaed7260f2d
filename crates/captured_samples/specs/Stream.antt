-- What stands between the frames that a slave sent and the samples that are shown of them.
use Rattle.std.specs.Prelude.{◌≡◌, ◌≢◌, ◌⊎◌, ℕ, ◌++◌, ◌∷◌, [], ⊤, true, List}
use Rattle.std.specs.Prelude.{if◌then◌else◌, length, Option, Some, None}
use Rattle.std.specs.List.{AllByRecursion}
use Rattle.captured_session.specs.Lists.{ListOf}
use Rattle.captured_session.specs.declared.form.Form.{Form}
use Rattle.captured_samples.specs.Frames.{Came, anew, is_sample, of_master, of_slave, read_of}
use Rattle.captured_samples.specs.Frames.{step_of}
use Rattle.captured_samples.specs.Places.{odt_in}
use Rattle.captured_samples.specs.Samples.{ShownOf, shown_of, under_way}
use Rattle.captured_samples.specs.Standing.{ListIn, Start, Told, began, handed, hands, is_whole}
use Rattle.captured_samples.specs.Standing.{lists_of}
use Rattle.captured_samples.specs.Turns.{AreFrom, behind_gap}
use Rattle.captured_samples.specs.declared.counter_steps.CounterStep.{CounterStep}
use Rattle.captured_samples.specs.declared.counter_steps.CounterStep.TheVariants.{Behind, Next}
use Rattle.captured_samples.specs.declared.mark.Mark.{Mark}

-- the packets of samples that a slave sent, of frames that are neither late nor copies, with the
-- newest in front; `None` where frames are missing, or the slave counts anew
abbrev pub if_sample : List ℕ → List (Option (List ℕ)) → List (Option (List ℕ))
if_sample p before = if is_sample p then Some p ∷ before else before

abbrev pub stream_with : CounterStep → List ℕ → List (Option (List ℕ)) → List (Option (List ℕ))
stream_with Behind p before = before
stream_with Next p before = if_sample p before
stream_with _ p before = if_sample p (None ∷ before)

abbrev pub stream_of : List Came → List (Option (List ℕ))
stream_of [] = []
stream_of (of_master n p ∷ before) = stream_of before
stream_of (of_slave n p ∷ before) = stream_with (step_of (read_of before) n p) p (stream_of before)
stream_of (anew ∷ before) = None ∷ stream_of before

-- of a stream what stands behind some place, without some packets, but with each gap
abbrev pub AreOf : List (Option (List ℕ)) → List (Option (List ℕ)) → Type 0
AreOf [] stream = ⊤
AreOf (c ∷ came) [] = ⊥
AreOf (c ∷ came) (None ∷ stream) = (c ≡ None) × AreOf came stream
AreOf (c ∷ came) (Some p ∷ stream) = ((c ≡ Some p) × AreOf came stream) ⊎ AreOf (c ∷ came) stream

-- what came of each list since it was set up stands in the stream, in this order, with each gap
abbrev pub AllCame : Type 0
AllCame =
    (start : Start) (h : List Came)
    → AllByRecursion (λ (x : ListIn). AreOf x.came (stream_of h)) (lists_of start h).lists

abbrev pub IsIn : ListIn → List ListIn → Type 0
IsIn x [] = ⊥
IsIn x (y ∷ ys) = (y ≡ x) ⊎ IsIn x ys

-- a sample that is told shows packets of one list, of ODT 0, of ODT 1 and so on to the last, each
-- with all bytes of its entries; they are the last ones of the list that came with this packet,
-- with none of its packets and no gap between them
pub record IsShownOf (p : List ℕ) (xs : List ListIn) (n : ℕ) (s : ShownOf) (m : Mark)
    : Type 0 where
  pub x : ListIn
  pub is : IsIn x xs
  pub front : List (List ℕ)
  -- fixed by `shown`
  pub packets : List (List ℕ)
  pub are : AreFrom x.list 0 packets
  pub many : length packets ≡ length x.list.odts
  pub last : front ++ packets ≡ behind_gap x.list (Some p ∷ x.came)
  pub number : n ≡ x.number
  pub shown : s ≡ shown_of x.list packets
  pub mark : m ≡ record { overload = s.overload; gap = x.gap }

abbrev pub IsTold : List ℕ → List ListIn → Told → Type 0
IsTold p xs (handed number shown mark) = IsShownOf p xs number shown mark
IsTold p xs (began number list) = ⊤

abbrev pub NothingElse : Type 0
NothingElse = (p : List ℕ) (xs : List ListIn) → AllByRecursion (IsTold p xs) (hands p xs)

-- if a packet is of a list, and of none before it, and with it the last packets of the list that
-- came are of ODT 0, of ODT 1 and so on to the last, with no gap between them, their sample is told
abbrev pub NothingMissing : Type 0
NothingMissing =
    (p : List ℕ) (before : List ListIn) (x : ListIn) (later : List ListIn)
    (front packets : List (List ℕ)) (q : List ℕ)
    → AllByRecursion (λ (y : ListIn). odt_in y.list p ≡ None) before
    → AreFrom x.list 0 (q ∷ packets) → length (q ∷ packets) ≡ length x.list.odts
    → front ++ q ∷ packets ≡ behind_gap x.list (Some p ∷ x.came)
    → odt_in x.list p ≢ None
    → hands p (before ++ x ∷ later)
    ≡ handed x.number (shown_of x.list (q ∷ packets))
    (record { overload = (shown_of x.list (q ∷ packets)).overload; gap = x.gap }) ∷ []

-- behind a whole sample a list's next packet is of another one: no packet is shown twice
abbrev pub NothingTwice : Type 0
NothingTwice =
    (l : ListOf) (came : List (Option (List ℕ))) (p : List ℕ)
    → is_whole (shown_of l (under_way l came)) ≡ true → odt_in l p ≢ None
    → (under_way l (Some p ∷ came) ≡ []) ⊎ (under_way l (Some p ∷ came) ≡ p ∷ [])

-- whatever packets look like at first, there is a reading that begins so
abbrev pub AlwaysStarts : Type 0
AlwaysStarts = (form : Form) → (start : Start) × (start.given ≡ form)
