-- The starts of a set of lists, and their stops, as orders and as deeds.
use Rattle.std.proofs.Common.{◌≡◌, ◌≢◌, ℕ, zero, suc, ◌<◌, Bool, true, false, ◌&&◌, ◌||◌, not, [], ◌++◌, refl, ap, ◌∙◌, arith, inl, inr}
use Rattle.std.proofs.lemmas.Bool.Decides.{eqb_tells}
use Rattle.xcp_base.specs.declared.limits.TheConstants.{MAX_LISTS}
use Rattle.slave_outbox.specs.Deeds.{Started, Stopped}
use Rattle.tasks.specs.Links.{runs_by}
use Rattle.channel_ring.specs.declared.order.Order.TheVariants.{Start, Stop}
use Rattle.slave_channels.specs.Ordering.{one_if, starts_noted, starts_sent, stops_noted, stops_sent}
use Rattle.slave.proofs.ChannelLemmas.{Sets, runs_by-all}
use Rattle.slave.proofs.RunLemmas.{apart, here, runs-not-started, runs-not-stopped, runs-started, runs-stopped}

or_false : (b : Bool) → (b || false) ≡ b
or_false true = refl
or_false false = refl

or_true : (b : Bool) → (b || true) ≡ true
or_true true = refl
or_true false = refl

and_true : (b : Bool) → (b && true) ≡ b
and_true true = refl
and_true false = refl

and_false : (b : Bool) → (b && false) ≡ false
and_false true = refl
and_false false = refl

-- an order of another list, of none, and of the list itself
start-other : (g : Bool) (n l : ℕ) (b : Bool) → n ≢ l → runs_by (one_if g (Start n)) b l ≡ b
start-other true n l b different = ap (λ e. b || e) (apart n l different) ∙ or_false b
start-other false n l b different = refl

start-none : (g : Bool) (n l : ℕ) (b : Bool) → g ≡ false → runs_by (one_if g (Start n)) b l ≡ b
start-none g n l b is = ap (λ e. runs_by (one_if e (Start n)) b l) is

start-here : (g : Bool) (n l : ℕ) (b : Bool) → g ≡ true → n ≡ l → runs_by (one_if g (Start n)) b l ≡ true
start-here g n l b is same = ap (λ e. runs_by (one_if e (Start n)) b l) is ∙ ap (λ e. b || e) (here n l same) ∙ or_true b

stop-other : (g : Bool) (n l : ℕ) (b : Bool) → n ≢ l → runs_by (one_if g (Stop n)) b l ≡ b
stop-other true n l b different = ap (λ e. b && not e) (apart n l different) ∙ and_true b
stop-other false n l b different = refl

stop-none : (g : Bool) (n l : ℕ) (b : Bool) → g ≡ false → runs_by (one_if g (Stop n)) b l ≡ b
stop-none g n l b is = ap (λ e. runs_by (one_if e (Stop n)) b l) is

stop-here : (g : Bool) (n l : ℕ) (b : Bool) → g ≡ true → n ≡ l → runs_by (one_if g (Stop n)) b l ≡ false
stop-here g n l b is same = ap (λ e. runs_by (one_if e (Stop n)) b l) is ∙ ap (λ e. b && not e) (here n l same) ∙ and_false b

starts-other : (set : ℕ → Bool) (n l : ℕ) (b : Bool) → set l ≡ false → runs_by (starts_sent set n) b l ≡ b
starts-other set zero l b isnt = refl
starts-other set (suc n) l b isnt =
    runs_by-all (starts_sent set n) (one_if (set n) (Start n)) b l
    ∙ elim (eqb_tells n l) [
      | inl w ↦ start-none (set n) n l _ (ap set w.1 ∙ isnt)
      | inr w ↦ start-other (set n) n l _ w.1
    ] ∙ starts-other set n l b isnt

starts-there : (set : ℕ → Bool) (n l : ℕ) (b : Bool) → l < n → set l ≡ true → runs_by (starts_sent set n) b l ≡ true
starts-there set zero l b below is = absurd (omega (arith, below))
starts-there set (suc n) l b below is =
    runs_by-all (starts_sent set n) (one_if (set n) (Start n)) b l
    ∙ elim (eqb_tells n l) [
      | inl w ↦ start-here (set n) n l _ (ap set w.1 ∙ is) w.1
      | inr w ↦ start-other (set n) n l _ w.1 ∙ starts-there set n l b (omega (arith, below, w.1)) is
    ]

stops-other : (set : ℕ → Bool) (n l : ℕ) (b : Bool) → set l ≡ false → runs_by (stops_sent set n) b l ≡ b
stops-other set zero l b isnt = refl
stops-other set (suc n) l b isnt =
    runs_by-all (stops_sent set n) (one_if (set n) (Stop n)) b l
    ∙ elim (eqb_tells n l) [
      | inl w ↦ stop-none (set n) n l _ (ap set w.1 ∙ isnt)
      | inr w ↦ stop-other (set n) n l _ w.1
    ] ∙ stops-other set n l b isnt

stops-there : (set : ℕ → Bool) (n l : ℕ) (b : Bool) → l < n → set l ≡ true → runs_by (stops_sent set n) b l ≡ false
stops-there set zero l b below is = absurd (omega (arith, below))
stops-there set (suc n) l b below is =
    runs_by-all (stops_sent set n) (one_if (set n) (Stop n)) b l
    ∙ elim (eqb_tells n l) [
      | inl w ↦ stop-here (set n) n l _ (ap set w.1 ∙ is) w.1
      | inr w ↦ stop-other (set n) n l _ w.1 ∙ stops-there set n l b (omega (arith, below, w.1)) is
    ]

-- starts make the lists of a set run, stops don't
pub starts-set : (set : ℕ → Bool) → Sets (starts_sent set MAX_LISTS) (starts_noted set MAX_LISTS) set true
starts-set set = record {
  sent = λ l b below is. starts-there set MAX_LISTS l b below is;
  noted = λ l cur below is. runs-started set MAX_LISTS l cur below is;
  sent_other = λ l b isnt. starts-other set MAX_LISTS l b isnt;
  noted_other = λ l cur isnt. runs-not-started set MAX_LISTS l cur isnt;
}

pub stops-set : (set : ℕ → Bool) → Sets (stops_sent set MAX_LISTS) (stops_noted set MAX_LISTS) set false
stops-set set = record {
  sent = λ l b below is. stops-there set MAX_LISTS l b below is;
  noted = λ l cur below is. runs-stopped set MAX_LISTS l cur below is;
  sent_other = λ l b isnt. stops-other set MAX_LISTS l b isnt;
  noted_other = λ l cur isnt. runs-not-stopped set MAX_LISTS l cur isnt;
}

-- the same lists, the same deeds; of no list there is none
pub starts-same : (n : ℕ) (p q : ℕ → Bool) → ((k : ℕ) → k < n → p k ≡ q k) → starts_noted p n ≡ starts_noted q n
starts-same zero p q same = refl
starts-same (suc n) p q same = ap (λ xs. one_if (p n) (Started n) ++ xs) (starts-same n p q (λ k h. same k (omega (arith, h)))) ∙ ap (λ b. one_if b (Started n) ++ starts_noted q n) (same n (omega arith))

pub starts-none : (n : ℕ) (p : ℕ → Bool) → ((k : ℕ) → k < n → p k ≡ false) → starts_noted p n ≡ []
starts-none zero p none = refl
starts-none (suc n) p none = ap (λ b. one_if b (Started n) ++ starts_noted p n) (none n (omega arith)) ∙ starts-none n p (λ k h. none k (omega (arith, h)))

pub stops-none : (n : ℕ) (p : ℕ → Bool) → ((k : ℕ) → k < n → p k ≡ false) → stops_noted p n ≡ []
stops-none zero p none = refl
stops-none (suc n) p none = ap (λ b. one_if b (Stopped n) ++ stops_noted p n) (none n (omega arith)) ∙ stops-none n p (λ k h. none k (omega (arith, h)))
