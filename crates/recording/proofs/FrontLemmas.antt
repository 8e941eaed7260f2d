-- Bytes that don't begin with others, and may be the front of these.
use Rattle.std.proofs.Common.{◌≡◌, ℕ, ◌<◌, ◌≤◌, inl, inr, List, [], ◌∷◌, ◌++◌, length, drop, Option, None, Some, Result, Ok, refl, sym, ap, subst, ◌∙◌, arith, append-nil, append_assoc, drop_of_length-le, length-append}
use Rattle.std.proofs.KnownBytes.{Consumes-whole, starts_with_rest}
use Rattle.std.proofs.Transfers.{starts_with_of_append, starts_with_of_eq}
use Rattle.std.proofs.lemmas.Bool.{cases_lt}
use Rattle.std.specs.Prelude.{IfOk, IfSome}
use Rattle.std.specs.Io.{StartsWith}
use Rattle.std.specs.Io.KnownBytes.{Consumes, IsAtEnd}
use Rattle.daq_reader.proofs.UniqueLemmas.{same_front}
use Rattle.recording.specs.declared.place.Place.{Place}
use Rattle.recording.specs.Pieces.{unread_at}

-- a front that is as long is all
as_long : (bytes all : List ℕ) → StartsWith all bytes → length all ≤ length bytes → StartsWith bytes all
as_long bytes all front long =
    let rest : drop (length bytes) all ≡ [] = drop_of_length-le all long in
    starts_with_of_eq bytes all (sym (starts_with_rest all bytes front ∙ ap (λ xs. bytes ++ xs) rest ∙ append-nil bytes))

pub shorter_front : (bytes all : List ℕ) → (StartsWith bytes all → ⊥) → StartsWith all bytes → length bytes < length all
shorter_front bytes all other front = elim (cases_lt (length bytes) (length all)) [
  | inl short ↦ short
  | inr long ↦ absurd (other (as_long bytes all front long))
]

-- all that there was is the front
pub all_is_front : (before after : Option (List ℕ)) (bytes all : List ℕ) → Consumes before after bytes → (length bytes < length all → IsAtEnd after) → (StartsWith bytes all → ⊥) → StartsWith all bytes
    → IfSome before (λ xs. StartsWith all xs × (length xs < length all))
all_is_front before after bytes all taken end other front =
    let short = shorter_front bytes all other front in
    Consumes-whole before after bytes (λ xs. StartsWith all xs × (length xs < length all)) taken (end short) (front, short)

-- what was taken of known bytes, and what is left of them
pub rest_of : (left : List ℕ) (rest : Option (List ℕ)) (taken : List ℕ) → Consumes (Some left) rest taken → (behind : List ℕ) × (rest ≡ Some behind) × (left ≡ taken ++ behind)
rest_of left None taken h = absurd h
rest_of left (Some behind) taken h = (behind, refl, h)

-- what is no longer than the front stands in it
pub in_front : (xs ys f zs : List ℕ) → xs ++ ys ≡ f ++ zs → length f ≤ length xs → xs ≡ f ++ drop (length f) xs
in_front xs ys [] zs e long = refl
in_front [] ys (c ∷ f) zs e long = absurd (omega (arith, long))
in_front (x ∷ xs) ys (c ∷ f) zs e long =
    let head : x ≡ c = cc in
    let tail : xs ++ ys ≡ f ++ zs = cc in
    ap (λ h. h ∷ xs) head ∙ ap (λ t. c ∷ t) (in_front xs ys f zs tail (omega (arith, long)))

all_taken : (front behind bytes more : List ℕ) → front ++ behind ≡ bytes ++ more → (length bytes < length front → more ≡ []) → length front ≤ length bytes
all_taken front behind bytes more e end = elim (cases_lt (length bytes) (length front)) [
  | inl short ↦ omega (arith, ap length e, ap length (end short), length-append front behind, length-append bytes more)
  | inr long ↦ long
]

-- bytes that were taken of others begin as these
pub front_is_there : (before after : Option (List ℕ)) (front behind bytes : List ℕ) → before ≡ Some (front ++ behind) → Consumes before after bytes → (length bytes < length front → IsAtEnd after) → StartsWith bytes front
front_is_there before after front behind bytes is taken end =
    let rest = rest_of (front ++ behind) after bytes (subst (λ x. Consumes x after bytes) is taken) in
    let long : length front ≤ length bytes = all_taken front behind bytes rest.0 rest.2 (λ short. subst IsAtEnd rest.1 (end short)) in
    starts_with_of_append bytes front (drop (length front) bytes) (in_front bytes rest.0 front behind (sym rest.2) long)

-- behind their front stand what is kept of what was taken, and what is left
pub left_behind_front : (before after : Option (List ℕ)) (front behind bytes kept : List ℕ) → before ≡ Some (front ++ behind) → Consumes before after bytes → StartsWith bytes front → kept ≡ drop (length front) bytes
    → (left : List ℕ) × (after ≡ Some left) × (kept ++ left ≡ behind)
left_behind_front before after front behind bytes kept is taken starts rest =
    let more = rest_of (front ++ behind) after bytes (subst (λ x. Consumes x after bytes) is taken) in
    let bytes_are : bytes ≡ front ++ kept = starts_with_rest bytes front starts ∙ ap (λ xs. front ++ xs) (sym rest) in
    let all : front ++ (kept ++ more.0) ≡ front ++ behind = sym (append_assoc front kept more.0) ∙ ap (λ xs. xs ++ more.0) (sym bytes_are) ∙ sym more.2 in
    (more.0, more.1, (same_front front front (kept ++ more.0) behind refl all).1)

pub still_unread : (rest : Option (List ℕ)) (place : Place) (kept behind : List ℕ) → (left : List ℕ) × (rest ≡ Some left) × (kept ++ left ≡ behind)
    → (left : List ℕ) × (rest ≡ Some left) × (unread_at place (kept ++ left) ≡ unread_at place behind)
still_unread rest place kept behind h = (h.0, h.1, ap (unread_at place) h.2)

-- what holds where there is no fault
pub if_ok : {T E : Type 0} (result : Result T E) (x : T) (P : T → Type 0) → result ≡ Ok x → IfOk result P → P x
if_ok result x P is h = subst (λ r. IfOk r P) is h
