-- A text comes to one thing alone.
use Rattle.std.proofs.Common.{◌≡◌, ℕ, List, [], ◌∷◌, ◌++◌, length, get_or, drop, suc, Some, None, refl, sym, ap, ◌∙◌, subst}
use Rattle.std.proofs.lemmas.Option.{same_Some}
use Rattle.toml.specs.Data.{Members}
use Rattle.toml.specs.Parse.{parse_document}
use Rattle.run_file.specs.Keys.{AreKeyValues, KeyValues}
use Rattle.run_file.specs.Outcomes.{IsOutcome, Outcome, bad_key, bad_setup, bad_step, not_toml, run}
use Rattle.run_file.specs.Reading.{AreTextsOf, HasNone, IsFirstBad}
use Rattle.run_file.specs.RunFile.{HasBadKeyText, HasBadSetup, HasBadStep, IsDocumentOf, IsPacketText}
use Rattle.run_file.specs.Steps.{IsStepText, StepData}
use Rattle.run_file.proofs.RunLemmas.{some_is_none}

module _ {X : Type 0} (R : List ℕ → X → Type 0) where
  -- a text among others that were read has a value
  among : (before : List (List ℕ)) (text : List ℕ) (behind : List (List ℕ)) (xs : List X) → AreTextsOf R (before ++ text ∷ behind) xs
      → HasNone (R text) → ⊥
  among [] text behind [] are none = are
  among [] text behind (x ∷ xs) are none = none x are.0
  among (t ∷ before) text behind [] are none = are
  among (t ∷ before) text behind (x ∷ xs) are none = among before text behind xs are.1 none

  -- texts that were all read have no first bad one
  all_or_bad : (texts : List (List ℕ)) (xs : List X) (place : ℕ) → AreTextsOf R texts xs → IsFirstBad R texts place → ⊥
  all_or_bad texts xs place are bad =
      among bad.before bad.bad bad.behind xs (subst (λ ts. AreTextsOf R ts xs) bad.split are) bad.none

  head_same : (a b : List ℕ) (rest more : List (List ℕ)) → a ∷ rest ≡ b ∷ more → a ≡ b
  head_same a b rest more e = ap (λ l. get_or l 0 []) e

  tail_same : (a b : List ℕ) (rest more : List (List ℕ)) → a ∷ rest ≡ b ∷ more → rest ≡ more
  tail_same a b rest more e = ap (drop 1) e

  -- two first bad texts are one
  same_length : (before other : List (List ℕ)) (a b : List ℕ) (rest more : List (List ℕ)) (xs ys : List X)
      → before ++ a ∷ rest ≡ other ++ b ∷ more → AreTextsOf R before xs → HasNone (R a) → AreTextsOf R other ys → HasNone (R b)
      → length before ≡ length other
  same_length [] [] a b rest more xs ys e are none_a those none_b = refl
  same_length [] (o ∷ other) a b rest more xs [] e are none_a those none_b = absurd those
  same_length [] (o ∷ other) a b rest more xs (y ∷ ys) e are none_a those none_b =
      absurd (none_a y (subst (λ t. R t y) (sym (head_same a o rest (other ++ b ∷ more) e)) those.0))
  same_length (t ∷ before) [] a b rest more [] ys e are none_a those none_b = absurd are
  same_length (t ∷ before) [] a b rest more (x ∷ xs) ys e are none_a those none_b =
      absurd (none_b x (subst (λ s. R s x) (head_same t b (before ++ a ∷ rest) more e) are.0))
  same_length (t ∷ before) (o ∷ other) a b rest more [] ys e are none_a those none_b = absurd are
  same_length (t ∷ before) (o ∷ other) a b rest more (x ∷ xs) [] e are none_a those none_b = absurd those
  same_length (t ∷ before) (o ∷ other) a b rest more (x ∷ xs) (y ∷ ys) e are none_a those none_b =
      ap suc (same_length before other a b rest more xs ys (tail_same t o (before ++ a ∷ rest) (other ++ b ∷ more) e) are.1 none_a those.1 none_b)

  same_place : (texts : List (List ℕ)) (i j : ℕ) → IsFirstBad R texts i → IsFirstBad R texts j → i ≡ j
  same_place texts i j p q =
      sym p.at ∙ same_length p.before q.before p.bad q.bad p.behind q.behind p.good q.good (sym p.split ∙ q.split) p.read p.none q.read q.none
      ∙ q.at

-- a text is one document
same_document : (text : List ℕ) (a b : Members) → parse_document text ≡ Some a → parse_document text ≡ Some b → a ≡ b
same_document text a b p q = same_Some a b (sym p ∙ q)

module _ (ms : Members) (v w : KeyValues) (p : AreKeyValues ms v) (q : AreKeyValues ms w) where
  same_channels : v.channels ≡ w.channels
  same_channels = same_Some v.channels w.channels (sym p.channels_is ∙ q.channels_is)

  same_setup : v.setup ≡ w.setup
  same_setup = same_Some v.setup w.setup (sym p.setup_is ∙ q.setup_is)

  same_steps : v.steps ≡ w.steps
  same_steps = same_Some v.steps w.steps (sym p.steps_are ∙ q.steps_are)

module _ (text : List ℕ) (v w : KeyValues) (p : IsDocumentOf text v) (q : IsDocumentOf text w) where
  keys_of_other : AreKeyValues p.document w
  keys_of_other = subst (λ ms. AreKeyValues ms w) (same_document text q.document p.document q.toml p.toml) q.keys_are

  setup_of_other : w.setup ≡ v.setup
  setup_of_other = same_setup p.document w v keys_of_other p.keys_are

  -- what is said of the steps of one holds of those of the other
  steps_of_other : (P : (List ℕ → StepData → Type 0) → List (List ℕ) → Type 0) → P (IsStepText w.channels) w.steps → P (IsStepText v.channels) v.steps
  steps_of_other P h =
      subst (λ n. P (IsStepText n) v.steps) (same_channels p.document w v keys_of_other p.keys_are)
      (subst (P (IsStepText w.channels)) (same_steps p.document w v keys_of_other p.keys_are) h)

  -- the packets were read, so none of them is bad
  no_bad_setup : (packets : List (List ℕ)) (place : ℕ) → AreTextsOf IsPacketText v.setup packets → IsFirstBad IsPacketText w.setup place → ⊥
  no_bad_setup packets place are bad =
      all_or_bad IsPacketText v.setup packets place are (subst (λ ts. IsFirstBad IsPacketText ts place) setup_of_other bad)

not_document : (text : List ℕ) (v : KeyValues) → IsDocumentOf text v → parse_document text ≡ None → ⊥
not_document text v d none = some_is_none (parse_document text) d.document d.toml none

right_keys : (text : List ℕ) (v : KeyValues) → IsDocumentOf text v → HasBadKeyText text → ⊥
right_keys text v d bad = bad.fault v (subst (λ ms. AreKeyValues ms v) (same_document text d.document bad.document d.toml bad.toml) d.keys_are)

no_keys : (text : List ℕ) → HasBadKeyText text → parse_document text ≡ None → ⊥
no_keys text bad none = some_is_none (parse_document text) bad.document bad.toml none

run_or_step : (text : List ℕ) (r : IsOutcome text run) (place : ℕ) → HasBadStep text place → ⊥
run_or_step text r place s =
    all_or_bad (IsStepText r.1.values.channels) r.1.values.steps r.0.steps place r.1.steps_are
    (steps_of_other text r.1.values s.values r.1.document s.document (λ R ts. IsFirstBad R ts place) s.first)

run_or_setup : (text : List ℕ) (r : IsOutcome text run) (place : ℕ) → HasBadSetup text place → ⊥
run_or_setup text r place s = no_bad_setup text r.1.values s.values r.1.document s.document r.0.setup place r.1.setup_is s.first

setup_or_step : (text : List ℕ) (i j : ℕ) → HasBadSetup text i → HasBadStep text j → ⊥
setup_or_step text i j a b = no_bad_setup text b.values a.values b.document a.document b.packets i b.packets_are a.first

pub outcome_is_unique : (text : List ℕ) (a b : Outcome) → IsOutcome text a → IsOutcome text b → a ≡ b
outcome_is_unique text run run p q = refl
outcome_is_unique text run not_toml p q = absurd (not_document text p.1.values p.1.document q)
outcome_is_unique text run bad_key p q = absurd (right_keys text p.1.values p.1.document q)
outcome_is_unique text run (bad_setup j) p q = absurd (run_or_setup text p j q)
outcome_is_unique text run (bad_step j) p q = absurd (run_or_step text p j q)
outcome_is_unique text not_toml run p q = absurd (not_document text q.1.values q.1.document p)
outcome_is_unique text not_toml not_toml p q = refl
outcome_is_unique text not_toml bad_key p q = absurd (no_keys text q p)
outcome_is_unique text not_toml (bad_setup j) p q = absurd (not_document text q.values q.document p)
outcome_is_unique text not_toml (bad_step j) p q = absurd (not_document text q.values q.document p)
outcome_is_unique text bad_key run p q = absurd (right_keys text q.1.values q.1.document p)
outcome_is_unique text bad_key not_toml p q = absurd (no_keys text p q)
outcome_is_unique text bad_key bad_key p q = refl
outcome_is_unique text bad_key (bad_setup j) p q = absurd (right_keys text q.values q.document p)
outcome_is_unique text bad_key (bad_step j) p q = absurd (right_keys text q.values q.document p)
outcome_is_unique text (bad_setup i) run p q = absurd (run_or_setup text q i p)
outcome_is_unique text (bad_setup i) not_toml p q = absurd (not_document text p.values p.document q)
outcome_is_unique text (bad_setup i) bad_key p q = absurd (right_keys text p.values p.document q)
outcome_is_unique text (bad_setup i) (bad_setup j) p q =
    let other = subst (λ ts. IsFirstBad IsPacketText ts j) (setup_of_other text p.values q.values p.document q.document) q.first in
    ap bad_setup (same_place IsPacketText p.values.setup i j p.first other)
outcome_is_unique text (bad_setup i) (bad_step j) p q = absurd (setup_or_step text i j p q)
outcome_is_unique text (bad_step i) run p q = absurd (run_or_step text q i p)
outcome_is_unique text (bad_step i) not_toml p q = absurd (not_document text p.values p.document q)
outcome_is_unique text (bad_step i) bad_key p q = absurd (right_keys text p.values p.document q)
outcome_is_unique text (bad_step i) (bad_setup j) p q = absurd (setup_or_step text j i q p)
outcome_is_unique text (bad_step i) (bad_step j) p q =
    let other = steps_of_other text p.values q.values p.document q.document (λ R ts. IsFirstBad R ts j) q.first in
    ap bad_step (same_place (IsStepText p.values.channels) p.values.steps i j p.first other)
