-- Bytes in blocks of eight.
use Rattle.std.proofs.Common.{◌≡◌, ℕ, zero, suc, ◌+◌, ◌-◌, ◌*◌, ◌/◌, List, [], ◌∷◌, ◌++◌, length, take, drop, replicate, refl, sym, ap, ◌∙◌, arith}
use Rattle.std.proofs.lemmas.List.{drop-append-le, length-append, length-drop, length-replicate, take-append-le}
use Rattle.std.proofs.Math.Seq.{take-add}
use Rattle.std.specs.Simd.{first_chunks}
use Rattle.frame_ring.specs.Records.{blocks_for, filled, in_blocks}
use Rattle.frame_ring.specs.Reading.{flat}

pub length-chunks : (k : ℕ) (xs : List ℕ) → length (first_chunks 8 k xs) ≡ k
length-chunks zero xs = refl
length-chunks (suc k) xs = ap suc (length-chunks k (drop 8 xs))

-- blocks of two texts of which the first fills its own
pub chunks-append : (k m : ℕ) (xs ys : List ℕ) → 8 * k ≡ length xs → first_chunks 8 (k + m) (xs ++ ys) ≡ first_chunks 8 k xs ++ first_chunks 8 m ys
chunks-append zero m [] ys h = ap (λ n. first_chunks 8 n ys) (omega arith)
chunks-append zero m (x ∷ xs) ys h = absurd (omega (arith, h))
chunks-append (suc k) m xs ys h =
    let on : suc k + m ≡ suc (k + m) = omega arith in
    let left : 8 * k ≡ length (drop 8 xs) = omega (arith, h, length-drop 8 xs) in
    ap (λ n. first_chunks 8 n (xs ++ ys)) on
    ∙ ap (λ c. c ∷ first_chunks 8 (k + m) (drop 8 (xs ++ ys))) (take-append-le 8 xs ys (omega (arith, h)))
    ∙ ap (λ t. take 8 xs ∷ first_chunks 8 (k + m) t) (drop-append-le 8 xs ys (omega (arith, h)))
    ∙ ap (λ cs. take 8 xs ∷ cs) (chunks-append k m (drop 8 xs) ys left)

-- bytes that fill their blocks are read again
pub flat-chunks : (k : ℕ) (xs : List ℕ) → flat (first_chunks 8 k xs) ≡ take (8 * k) xs
flat-chunks zero xs = refl
flat-chunks (suc k) xs =
    let on : 8 * suc k ≡ 8 + 8 * k = omega arith in
    ap (λ bytes. take 8 xs ++ bytes) (flat-chunks k (drop 8 xs)) ∙ sym (take-add 8 (8 * k) xs) ∙ sym (ap (λ n. take n xs) on)

pub length-filled : (bytes : List ℕ) → length (filled bytes) ≡ 8 * blocks_for (length bytes)
length-filled bytes =
    omega (arith, length-append bytes (replicate (8 * blocks_for (length bytes) - length bytes) 0), length-replicate {A = ℕ} (8 * blocks_for (length bytes) - length bytes) 0)

-- so many bytes, in blocks
pub length-blocks : (n : ℕ) (bytes : List ℕ) → 8 * n ≡ length bytes → length (in_blocks bytes) ≡ n
length-blocks n bytes h = length-chunks (length bytes / 8) bytes ∙ omega (arith, h)

pub flat-blocks : (n : ℕ) (bytes : List ℕ) → 8 * n ≡ length bytes → flat (in_blocks bytes) ≡ bytes
flat-blocks n bytes h =
    let k : 8 * (length bytes / 8) ≡ length bytes = omega (arith, h) in
    flat-chunks (length bytes / 8) bytes ∙ ap (λ n. take n bytes) k ∙ take-all bytes
  where
    take-all : (xs : List ℕ) → take (length xs) xs ≡ xs
    take-all [] = refl
    take-all (x ∷ xs) = ap (λ l. x ∷ l) (take-all xs)
