-- Which lists run behind some starts, and behind some stops.
use Rattle.std.proofs.Common.{◌≡◌, ◌≢◌, ℕ, zero, suc, ◌<◌, Bool, true, false, ◌&&◌, nat_eq, if◌then◌else◌, List, [], ◌∷◌, ◌++◌, refl, ap, ◌∙◌, arith, inl, inr}
use Rattle.std.specs.Prelude.{find, Some}
use Rattle.std.proofs.lemmas.Bool.{false≢true}
use Rattle.std.proofs.lemmas.Bool.Decides.{eqb_tells}
use Rattle.slave_outbox.specs.Deeds.{Deed, Started, Stopped, is_order_of, is_start, passes}
use Rattle.slave_outbox.specs.Deeds.{runs as runs_there}
use Rattle.slave_channels.specs.Ordering.{one_if, starts_noted, stops_noted}

pub apart : (n l : ℕ) → n ≢ l → nat_eq n l ≡ false
apart n l different =
    elim (eqb_tells n l) [
      | inl w ↦ absurd (different w.1)
      | inr w ↦ w.0
    ]

pub here : (n l : ℕ) → n ≡ l → nat_eq n l ≡ true
here n l same =
    elim (eqb_tells n l) [
      | inl w ↦ w.0
      | inr w ↦ absurd (w.1 same)
    ]

-- an order of another list, if it is given, and one that isn't given
start-other : (b : Bool) (n l : ℕ) (rest : List Deed) → n ≢ l → runs_there (one_if b (Started n) ++ rest) l ≡ runs_there rest l
start-other true n l rest different = ap (λ e. is_start (if e then Some (Started n) else find (is_order_of l) rest)) (apart n l different)
start-other false n l rest different = refl

start-none : (b : Bool) (n l : ℕ) (rest : List Deed) → b ≡ false → runs_there (one_if b (Started n) ++ rest) l ≡ runs_there rest l
start-none b n l rest is = ap (λ e. runs_there (one_if e (Started n) ++ rest) l) is

start-here : (b : Bool) (n l : ℕ) (rest : List Deed) → b ≡ true → n ≡ l → runs_there (one_if b (Started n) ++ rest) l ≡ true
start-here b n l rest is same =
    ap (λ e. runs_there (one_if e (Started n) ++ rest) l) is
    ∙ ap (λ e. is_start (if e then Some (Started n) else find (is_order_of l) rest)) (here n l same)

stop-other : (b : Bool) (n l : ℕ) (rest : List Deed) → n ≢ l → runs_there (one_if b (Stopped n) ++ rest) l ≡ runs_there rest l
stop-other true n l rest different = ap (λ e. is_start (if e then Some (Stopped n) else find (is_order_of l) rest)) (apart n l different)
stop-other false n l rest different = refl

stop-none : (b : Bool) (n l : ℕ) (rest : List Deed) → b ≡ false → runs_there (one_if b (Stopped n) ++ rest) l ≡ runs_there rest l
stop-none b n l rest is = ap (λ e. runs_there (one_if e (Stopped n) ++ rest) l) is

stop-here : (b : Bool) (n l : ℕ) (rest : List Deed) → b ≡ true → n ≡ l → runs_there (one_if b (Stopped n) ++ rest) l ≡ false
stop-here b n l rest is same =
    ap (λ e. runs_there (one_if e (Stopped n) ++ rest) l) is
    ∙ ap (λ e. is_start (if e then Some (Stopped n) else find (is_order_of l) rest)) (here n l same)

assoc : (a b c : List Deed) → (a ++ b) ++ c ≡ a ++ (b ++ c)
assoc [] b c = refl
assoc (x ∷ a) b c = ap (λ xs. x ∷ xs) (assoc a b c)

-- a list of the set runs behind its start; another one as it did before
pub runs-started : (set : ℕ → Bool) (n l : ℕ) (ds : List Deed) → l < n → set l ≡ true → runs_there (starts_noted set n ++ ds) l ≡ true
runs-started set zero l ds below is = absurd (omega (arith, below))
runs-started set (suc n) l ds below is =
    ap (λ xs. runs_there xs l) (assoc (one_if (set n) (Started n)) (starts_noted set n) ds)
    ∙ elim (eqb_tells n l) [
      | inl w ↦ start-here (set n) n l (starts_noted set n ++ ds) (ap set w.1 ∙ is) w.1
      | inr w ↦ start-other (set n) n l (starts_noted set n ++ ds) w.1 ∙ runs-started set n l ds (omega (arith, below, w.1)) is
    ]

pub runs-not-started : (set : ℕ → Bool) (n l : ℕ) (ds : List Deed) → set l ≡ false → runs_there (starts_noted set n ++ ds) l ≡ runs_there ds l
runs-not-started set zero l ds is = refl
runs-not-started set (suc n) l ds is =
    ap (λ xs. runs_there xs l) (assoc (one_if (set n) (Started n)) (starts_noted set n) ds)
    ∙ elim (eqb_tells n l) [
      | inl w ↦ start-none (set n) n l (starts_noted set n ++ ds) (ap set w.1 ∙ is) ∙ runs-not-started set n l ds is
      | inr w ↦ start-other (set n) n l (starts_noted set n ++ ds) w.1 ∙ runs-not-started set n l ds is
    ]

-- a list of the set doesn't run behind its stop; another one as it did before
pub runs-stopped : (set : ℕ → Bool) (n l : ℕ) (ds : List Deed) → l < n → set l ≡ true → runs_there (stops_noted set n ++ ds) l ≡ false
runs-stopped set zero l ds below is = absurd (omega (arith, below))
runs-stopped set (suc n) l ds below is =
    ap (λ xs. runs_there xs l) (assoc (one_if (set n) (Stopped n)) (stops_noted set n) ds)
    ∙ elim (eqb_tells n l) [
      | inl w ↦ stop-here (set n) n l (stops_noted set n ++ ds) (ap set w.1 ∙ is) w.1
      | inr w ↦ stop-other (set n) n l (stops_noted set n ++ ds) w.1 ∙ runs-stopped set n l ds (omega (arith, below, w.1)) is
    ]

pub runs-not-stopped : (set : ℕ → Bool) (n l : ℕ) (ds : List Deed) → set l ≡ false → runs_there (stops_noted set n ++ ds) l ≡ runs_there ds l
runs-not-stopped set zero l ds is = refl
runs-not-stopped set (suc n) l ds is =
    ap (λ xs. runs_there xs l) (assoc (one_if (set n) (Stopped n)) (stops_noted set n) ds)
    ∙ elim (eqb_tells n l) [
      | inl w ↦ stop-none (set n) n l (stops_noted set n ++ ds) (ap set w.1 ∙ is) ∙ runs-not-stopped set n l ds is
      | inr w ↦ stop-other (set n) n l (stops_noted set n ++ ds) w.1 ∙ runs-not-stopped set n l ds is
    ]

pub pass-runs : (deeds : List Deed) (l : ℕ) → passes deeds l ≡ true → runs_there deeds l ≡ true
pass-runs deeds l is = and-left (runs_there deeds l) _ is where
  and-left : (a b : Bool) → (a && b) ≡ true → a ≡ true
  and-left true b is = refl
  and-left false b is = absurd (false≢true is)
