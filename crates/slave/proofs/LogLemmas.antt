-- What the log of a slave says of the lists that run.
use Rattle.std.proofs.Common.{◌≡◌, ◌≢◌, ℕ, ◌+◌, ◌<◌, Bool, true, false, ◌&&◌, not, nat_eq, if◌then◌else◌, List, [], ◌∷◌, refl, sym, ◌∙◌, ◌⊎◌, inl, inr}
use Rattle.std.proofs.lemmas.Bool.{false≢true}
use Rattle.std.proofs.lemmas.Bool.Decides.{eqb_tells}
use Rattle.xcp_base.specs.declared.limits.TheConstants.{MAX_LISTS}
use Rattle.session.specs.Starts.{is_on, runs}
use Rattle.session.specs.declared.profile.Profile.{Profile}
use Rattle.slave_outbox.specs.Deeds.{Deed, passes}
use Rattle.slave_outbox.specs.Deeds.{Took as TookItem}
use Rattle.slave_outbox.specs.Deeds.{runs as runs_there}
use Rattle.slave_outbox.specs.Outboxes.{origins_in}
use Rattle.slave.specs.Log.{Act, CameBack, Discarded, Heard, HungUp, Opened, Refused, Sent, Took, deeds_of, is_newest, opened, ordered_by, past_of, starts_at, starts_on, stops_at, waits, with_starts}
use Rattle.slave.specs.Laws.{NothingOutsideARun}
use Rattle.slave.specs.Standing.{IsLog}
use Rattle.slave.proofs.DeedLemmas.{unsent-runs}
use Rattle.slave.proofs.RunLemmas.{pass-runs, runs-not-started, runs-not-stopped, runs-stopped}

is-bool : (b : Bool) → (b ≡ true) ⊎ (b ≡ false)
is-bool true = inl refl
is-bool false = inr refl

and-left : (a b : Bool) → (a && b) ≡ true → a ≡ true
and-left true b is = refl
and-left false b is = absurd (false≢true is)

and-right : (a b : Bool) → (a && b) ≡ true → b ≡ true
and-right true b is = is
and-right false b is = absurd (false≢true is)

stays-true : (was now : Bool) → was ≡ true → (was && not now) ≡ false → now ≡ true
stays-true true true is stays = refl
stays-true true false is stays = absurd (false≢true (sym stays))
stays-true false now is stays = absurd (false≢true is)

-- a list that runs behind some orders of an act runs behind the act
ordered-runs : (d : Profile) (c : ℕ) (act : Act) (log : List Act) (ds : List Deed) (l : ℕ) → l < MAX_LISTS
    → (runs_there ds l ≡ true → runs (past_of d log) l ≡ true)
    → runs_there (ordered_by d c act log ds) l ≡ true
    → runs (past_of d (act ∷ log)) l ≡ true
ordered-runs d c act log ds l below before is =
    let all = with_starts d c act log ds in
    let set = λ (k : ℕ). stops_at d act log k && runs_there all k in
    elim (is-bool (set l)) [
      | inl there ↦ absurd (false≢true (sym (runs-stopped set MAX_LISTS l all below there) ∙ is))
      | inr none ↦
          let there : runs_there all l ≡ true = sym (runs-not-stopped set MAX_LISTS l all none) ∙ is in
          let stays : stops_at d act log l ≡ false = no-stop (stops_at d act log l) (runs_there all l) there none in
          elim (is-bool (starts_on d c act log l)) [
            | inl starts ↦ and-right (not (runs (past_of d log) l)) (runs (past_of d (act ∷ log)) l) (and-left (starts_at d act log l) (is_on d (past_of d log) c l) starts)
            | inr not-started ↦
                stays-true (runs (past_of d log) l) (runs (past_of d (act ∷ log)) l)
                (before (sym (runs-not-started (starts_on d c act log) MAX_LISTS l ds not-started) ∙ there)) stays
          ]
    ] where
      no-stop : (a b : Bool) → b ≡ true → (a && b) ≡ false → a ≡ false
      no-stop true b h stays = absurd (false≢true (sym stays ∙ h))
      no-stop false b h stays = refl

abbrev pub Ties : Profile → List Act → ℕ → ℕ → ℕ → List Deed → Type 0
Ties d log m c l ds = runs_there ds l ≡ true → (m + 1 ≡ opened log) × (runs (past_of d log) l ≡ true)

newest-if : (d : Profile) (m c l : ℕ) (act : Act) (log : List Act) (b : Bool) → (b ≡ true → m + 1 ≡ opened log) → (b ≡ false → m + 1 ≢ opened log)
    → opened (act ∷ log) ≡ opened log → l < MAX_LISTS
    → Ties d log m c l (deeds_of d m c log)
    → Ties d (act ∷ log) m c l (if b then ordered_by d c act log (deeds_of d m c log) else deeds_of d m c log)
newest-if d m c l act log true is isnt same below before = λ there.
    (is refl ∙ sym same, ordered-runs d c act log (deeds_of d m c log) l below (λ h. (before h).1) there)
newest-if d m c l act log false is isnt same below before = λ there. absurd (isnt refl (before there).0)

newest-tells : (m : ℕ) (log : List Act) → ((is_newest m log ≡ true) → m + 1 ≡ opened log) × ((is_newest m log ≡ false) → m + 1 ≢ opened log)
newest-tells m log =
    elim (eqb_tells (m + 1) (opened log)) [
      | inl w ↦ (λ is. w.1, λ is. absurd (false≢true (sym is ∙ w.0)))
      | inr w ↦ (λ is. absurd (false≢true (sym w.0 ∙ is)), λ is. w.1)
    ]

took-if : (b : Bool) (l : ℕ) (ds : List Deed) (x : Deed) → runs_there (x ∷ ds) l ≡ runs_there ds l → runs_there (if b then x ∷ ds else ds) l ≡ runs_there ds l
took-if true l ds x same = same
took-if false l ds x same = refl

-- a list runs by the orders of the newest measurement alone, and only where it runs
pub ties : (d : Profile) (log : List Act) → IsLog d log → (m c l : ℕ) → l < MAX_LISTS → Ties d log m c l (deeds_of d m c log)
ties d [] is m c l below there = absurd (false≢true there)
ties d (Heard x ∷ log) is m c l below there =
    let tells = newest-tells m log in
    newest-if d m c l (Heard x) log (is_newest m log) tells.0 tells.1 refl below (ties d log is.2 m c l below) there
ties d (Refused packet code ∷ log) is m c l below there = ties d log is.2 m c l below there
ties d (Opened at ∷ log) is m c l below there = absurd (false≢true (sym (is.0 l below) ∙ (ties d log is.1 m c l below there).1))
ties d (Took n k x ∷ log) is m c l below there =
    ties d log is.2 m c l below (sym (took-if (nat_eq n m && nat_eq k c) l (deeds_of d m c log) (TookItem x) refl) ∙ there)
ties d (CameBack n k past ∷ log) is m c l below there = ties d log is.1 m c l below there
ties d (Sent n ∷ log) is m c l below there = ties d log is.1 m c l below there
ties d (HungUp ∷ log) is m c l below there =
    let tells = newest-tells m log in
    newest-if d m c l HungUp log (is_newest m log) tells.0 tells.1 refl below (ties d log is m c l below) there
ties d (Discarded ∷ log) is m c l below there =
    ties d log is m c l below (sym (unsent-runs m c (origins_in (waits d log)) (deeds_of d m c log) l) ∙ there)

pub nothing_outside : NothingOutsideARun
nothing_outside d log is m c l below passes = ties d log is m c l below (pass-runs (deeds_of d m c log) l passes)
