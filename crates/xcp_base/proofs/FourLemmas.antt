-- Spans taken four by four.
use Rattle.std.proofs.Common.{◌≡◌, ℕ, zero, suc, ◌+◌, ◌*◌, ◌<◌, ◌≤◌, List, [], ◌∷◌, ◌++◌, length, take, drop, get_or, refl, sym, ap, subst, ◌∙◌, append-nil, append_assoc, length-append, arith}
use Rattle.std.specs.Prelude.{All, flat_map}
use Rattle.std.specs.Simd.{first_chunks}
use Rattle.std.proofs.Math.Seq.{take-add}
use Rattle.std.proofs.lemmas.Grind.{flat_map-append}
use Rattle.std.proofs.lemmas.List.Concat.{get_or-flat_map}
use Rattle.std.proofs.lemmas.List.Elements.{All-take}
use Rattle.std.proofs.lemmas.List.{take-append-drop}
use Rattle.std.proofs.lemmas.List.Folds.{length-flat_map-take}
use Rattle.xcp_base.specs.Copied.{copied_at, in_fours}

-- what holds of the spans of some fours holds of those of each
pub All-in_fours : (P : ℕ → Type 0) (fours : List (List ℕ)) (i : ℕ) → i < length fours → All P (in_fours fours) → All P (get_or fours i [])
All-in_fours P fours i h all k d within =
    let own : List ℕ → List ℕ = λ four. four in
    let there : length (flat_map own (take i fours)) + k < length (in_fours fours) = omega (arith, within, length-flat_map-take own fours i [] h) in
    subst P (get_or-flat_map own fours i k [] d h within) (all (length (flat_map own (take i fours)) + k) d there)

-- the spans of some fours copy what each four copies, one behind another
pub copied_at-in_fours : (bytes : List ℕ) (size : ℕ) (fours : List (List ℕ)) → copied_at bytes size (in_fours fours) ≡ flat_map (λ (four : List ℕ). copied_at bytes size four) fours
copied_at-in_fours bytes size [] = refl
copied_at-in_fours bytes size (four ∷ more) =
    flat_map-append _ four (in_fours more) ∙ ap (λ those. copied_at bytes size four ++ those) (copied_at-in_fours bytes size more)

-- what one of some fours copies is a part of what all copy
pub length-copied_at-four : (bytes : List ℕ) (size : ℕ) (fours : List (List ℕ)) (i : ℕ) → i < length fours
    → length (copied_at bytes size (in_fours (take i fours))) + length (copied_at bytes size (get_or fours i [])) ≤ length (copied_at bytes size (in_fours fours))
length-copied_at-four bytes size fours i h =
    let those = ap length (copied_at-in_fours bytes size (take i fours)) in
    let all = ap length (copied_at-in_fours bytes size fours) in
    omega (arith, those, all, length-flat_map-take (λ (four : List ℕ). copied_at bytes size four) fours i [] h)

-- the spans of the first fours are those in front
pub in_fours-first_chunks : (k : ℕ) (offsets : List ℕ) → in_fours (first_chunks 4 k offsets) ≡ take (k * 4) offsets
in_fours-first_chunks zero offsets = refl
in_fours-first_chunks (suc k) offsets =
    let more : 4 + k * 4 ≡ suc k * 4 = omega arith in
    ap (λ those. take 4 offsets ++ those) (in_fours-first_chunks k (drop 4 offsets)) ∙ sym (take-add 4 (k * 4) offsets) ∙ ap (λ n. take n offsets) more

-- the fours and what is behind them are all spans
pub fours_then_rest : (k : ℕ) (fours : List (List ℕ)) (rest offsets : List ℕ) → fours ≡ first_chunks 4 k offsets → rest ≡ drop (k * 4) offsets → in_fours fours ++ rest ≡ offsets
fours_then_rest k fours rest offsets front back =
    let first : in_fours fours ≡ take (k * 4) offsets = ap in_fours front ∙ in_fours-first_chunks k offsets in
    ap (λ those. those ++ rest) first ∙ ap (λ those. take (k * 4) offsets ++ those) back ∙ take-append-drop (k * 4) offsets

-- what holds of all spans holds of those of the fours
pub All-fours : (P : ℕ → Type 0) (k : ℕ) (fours : List (List ℕ)) (offsets : List ℕ) → fours ≡ first_chunks 4 k offsets → All P offsets → All P (in_fours fours)
All-fours P k fours offsets front all =
    subst (All P) (sym (ap in_fours front ∙ in_fours-first_chunks k offsets)) (All-take P (k * 4) offsets all)

-- all spans copy what those of the fours copy, and behind it what the others do
pub copied_at-fours_then_rest : (bytes : List ℕ) (size k : ℕ) (fours : List (List ℕ)) (rest offsets : List ℕ) → fours ≡ first_chunks 4 k offsets → rest ≡ drop (k * 4) offsets
    → copied_at bytes size offsets ≡ copied_at bytes size (in_fours fours) ++ copied_at bytes size rest
copied_at-fours_then_rest bytes size k fours rest offsets front back =
    ap (copied_at bytes size) (sym (fours_then_rest k fours rest offsets front back)) ∙ flat_map-append _ (in_fours fours) rest

-- four spans copy what each copies, one behind another
pub copied_at-four : (bytes : List ℕ) (size : ℕ) (four : List ℕ) → length four ≡ 4
    → copied_at bytes size four ≡ copied_at bytes size (get_or four 0 0 ∷ []) ++ (copied_at bytes size (get_or four 1 0 ∷ []) ++ (copied_at bytes size (get_or four 2 0 ∷ []) ++ copied_at bytes size (get_or four 3 0 ∷ [])))
copied_at-four bytes size [] e = absurd (omega (arith, e))
copied_at-four bytes size (a ∷ []) e = absurd (omega (arith, e))
copied_at-four bytes size (a ∷ b ∷ []) e = absurd (omega (arith, e))
copied_at-four bytes size (a ∷ b ∷ c ∷ []) e = absurd (omega (arith, e))
copied_at-four bytes size (a ∷ b ∷ c ∷ d ∷ []) e = simp append-nil
copied_at-four bytes size (a ∷ b ∷ c ∷ d ∷ more ∷ rest) e = absurd (omega (arith, e))

-- pieces written one behind another are written together
pub four_pieces : (front a b c d : List ℕ) → (((front ++ a) ++ b) ++ c) ++ d ≡ front ++ (a ++ (b ++ (c ++ d)))
four_pieces front a b c d = simp append_assoc

-- and are as long together
length-four : (a b c d : List ℕ) → length (a ++ (b ++ (c ++ d))) ≡ length a + (length b + (length c + length d))
length-four a b c d = simp length-append

-- four spans copy as many bytes as each
pub length-copied_at-spans : (bytes : List ℕ) (size : ℕ) (four : List ℕ) → length four ≡ 4
    → length (copied_at bytes size four) ≡ length (copied_at bytes size (get_or four 0 0 ∷ [])) + (length (copied_at bytes size (get_or four 1 0 ∷ [])) + (length (copied_at bytes size (get_or four 2 0 ∷ [])) + length (copied_at bytes size (get_or four 3 0 ∷ []))))
length-copied_at-spans bytes size four e =
    let copy : ℕ → List ℕ = λ k. copied_at bytes size (get_or four k 0 ∷ []) in
    ap length (copied_at-four bytes size four e) ∙ length-four (copy 0) (copy 1) (copy 2) (copy 3)
