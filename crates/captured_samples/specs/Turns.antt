-- The packets of a sample among all that came, with the newest in front; `None` is a gap.
use Rattle.std.specs.Prelude.{◌≡◌, ℕ, ◌+◌, true, ⊤, List, [], ◌∷◌, ◌++◌, Option, Some, None}
use Rattle.captured_session.specs.Lists.{ListOf}
use Rattle.captured_samples.specs.Places.{fits, odt_in}
use Rattle.captured_samples.specs.Samples.{under_way}

-- the packets of the list behind the last gap, with the oldest in front
abbrev pub if_of_odt : List ℕ → Option ℕ → List (List ℕ)
if_of_odt packet None = []
if_of_odt packet (Some k) = packet ∷ []

abbrev pub behind_gap : ListOf → List (Option (List ℕ)) → List (List ℕ)
behind_gap l [] = []
behind_gap l (None ∷ before) = []
behind_gap l (Some packet ∷ before) = behind_gap l before ++ if_of_odt packet (odt_in l packet)

-- packets of ODT k, of the next ODT and so on, each with all bytes of the entries
abbrev pub AreFrom : ListOf → ℕ → List (List ℕ) → Type 0
AreFrom l k [] = ⊤
AreFrom l k (packet ∷ later) =
    (odt_in l packet ≡ Some k) × (fits l k packet ≡ true) × AreFrom l (k + 1) later

-- the packets that are under way are those of ODT 0, of ODT 1 and so on
abbrev pub UnderWayInTurn : Type 0
UnderWayInTurn = (l : ListOf) (h : List (Option (List ℕ))) → AreFrom l 0 (under_way l h)

-- they are the last ones of the list behind the last gap: none is missing between them
abbrev pub UnderWayIsLast : Type 0
UnderWayIsLast =
    (l : ListOf) (h : List (Option (List ℕ)))
    → (front : List (List ℕ)) × (front ++ under_way l h ≡ behind_gap l h)

-- the last ones of the list behind the last gap are under way, if they are of ODT 0, of ODT 1 and
-- so on
abbrev pub LastIsUnderWay : Type 0
LastIsUnderWay =
    (l : ListOf) (h : List (Option (List ℕ))) (front later : List (List ℕ)) (packet : List ℕ)
    → AreFrom l 0 (packet ∷ later) → front ++ packet ∷ later ≡ behind_gap l h
    → under_way l h ≡ packet ∷ later
