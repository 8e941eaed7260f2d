-- Sets of lists, one for each event channel.
use Rattle.std.proofs.Common.{◌≡◌, ℕ, ◌+◌, ◌<◌, List, length, set, slice_get, sym, ap, subst, ◌∙◌, arith, inl, inr}
use Rattle.std.specs.Prelude.{Some}
use Rattle.std.proofs.lemmas.Bool.Decides.{eqb_tells}
use Rattle.std.proofs.lemmas.Option.{same_Some}
use Rattle.session.specs.Standing.{SessionState}
use Rattle.slave.specs.Inner.{IsSetOn}
use Rattle.slave_channels.proofs.EachLemmas.{get-set_other, get-set_same}

-- the sets of the first n event channels
abbrev pub AreBelow : SessionState → ℕ → ℕ → List ℕ → Type 0
AreBelow s lists n sets = (k one : ℕ) → k < n → slice_get sets k ≡ Some one → IsSetOn s lists k one

pub more-sets : (s : SessionState) (lists : ℕ) (sets : List ℕ) (n new : ℕ) → n < length sets → AreBelow s lists n sets → IsSetOn s lists n new → AreBelow s lists (n + 1) (set sets n new)
more-sets s lists sets n new there are is = λ k one below at.
    elim (eqb_tells k n) [
      | inl w ↦
          let first : slice_get (set sets n new) n ≡ Some one = ap (slice_get (set sets n new)) (sym w.1) ∙ at in
          let same : new ≡ one = same_Some new one (sym (get-set_same sets n new there) ∙ first) in
          subst (λ j. IsSetOn s lists j one) (sym w.1) (subst (IsSetOn s lists n) same is)
      | inr w ↦ are k one (omega (arith, below, w.1)) (sym (get-set_other sets n k new w.1) ∙ at)
    ]
