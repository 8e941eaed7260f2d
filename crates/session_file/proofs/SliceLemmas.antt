-- The slices of words, one after another.
use Rattle.std.proofs.Common.{◌≡◌, ℕ, List, [], ◌∷◌, ◌++◌, Option, Some, None, refl, sym, ap, ◌∙◌}
use Rattle.run_file.specs.Keys.{onto}
use Rattle.session_file.specs.LineOf.{slice_of, slices_of}

-- in front of those that are still to be read stand these
abbrev pub onto_all : {X : Type 0} → List X → Option (List X) → Option (List X)
onto_all [] o = o
onto_all (x ∷ xs) o = onto (Some x) (onto_all xs o)

onto_all-push : {X : Type 0} (xs : List X) (x : X) (o : Option (List X)) → onto_all (xs ++ x ∷ []) o ≡ onto_all xs (onto (Some x) o)
onto_all-push [] x o = refl
onto_all-push (y ∷ xs) x o = ap (onto (Some y)) (onto_all-push xs x o)

onto_all-none : {X : Type 0} (xs : List X) → onto_all xs None ≡ None
onto_all-none [] = refl
onto_all-none (x ∷ xs) = ap (onto (Some x)) (onto_all-none xs)

onto_all-whole : {X : Type 0} (xs : List X) → onto_all xs (Some []) ≡ Some xs
onto_all-whole [] = refl
onto_all-whole (x ∷ xs) = ap (onto (Some x)) (onto_all-whole xs)

-- one more slice was read
pub slices_more : (xs ys : List (List ℕ)) (x word : List ℕ) (words behind : List (List ℕ)) (all : Option (List (List ℕ))) → ys ≡ xs ++ x ∷ []
    → Some x ≡ slice_of word → words ≡ word ∷ behind → onto_all xs (slices_of words) ≡ all → onto_all ys (slices_of behind) ≡ all
slices_more xs ys x word words behind all pushed read split so_far =
    ap (λ zs. onto_all zs (slices_of behind)) pushed ∙ onto_all-push xs x (slices_of behind)
    ∙ ap (λ o. onto_all xs (onto o (slices_of behind))) read ∙ ap (λ ws. onto_all xs (slices_of ws)) (sym split) ∙ so_far

-- the last one was read
pub slices_whole : (xs ys : List (List ℕ)) (x word : List ℕ) (words : List (List ℕ)) (all : Option (List (List ℕ))) → ys ≡ xs ++ x ∷ []
    → Some x ≡ slice_of word → words ≡ word ∷ [] → onto_all xs (slices_of words) ≡ all → Some ys ≡ all
slices_whole xs ys x word words all pushed read split so_far =
    sym (onto_all-whole ys) ∙ slices_more xs ys x word words [] all pushed read split so_far

-- a word is no slice
pub slices_none : (xs : List (List ℕ)) (word : List ℕ) (words behind : List (List ℕ)) (all : Option (List (List ℕ)))
    → None ≡ slice_of word → words ≡ word ∷ behind → onto_all xs (slices_of words) ≡ all → None ≡ all
slices_none xs word words behind all read split so_far =
    sym (onto_all-none xs) ∙ ap (λ o. onto_all xs (onto o (slices_of behind))) read ∙ ap (λ ws. onto_all xs (slices_of ws)) (sym split) ∙ so_far
