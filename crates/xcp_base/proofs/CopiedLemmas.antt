-- What spans copy of bytes.
use Rattle.std.proofs.Common.{◌≡◌, ℕ, ◌+◌, ◌-◌, ◌<◌, ◌≤◌, set, List, [], ◌∷◌, ◌++◌, length, take, drop, get_or, sym, ap, ◌∙◌, append-nil, append_assoc, arith, length-append}
use Rattle.std.specs.Prelude.{All, slice_range}
use Rattle.std.proofs.Math.Seq.{take-length}
use Rattle.std.proofs.lemmas.Grind.{flat_map-append}
use Rattle.std.proofs.lemmas.List.{get_or-drop, length-drop, length-take-le, take_more, take_more_set}
use Rattle.std.proofs.lemmas.List.Elements.{All-append, All-drop, All-nil, All-take}
use Rattle.xcp_base.specs.Copied.{IsSpanAt, copied_at}

-- what spans copy of bytes are bytes
pub copied_at_small : (bytes : List ℕ) (size : ℕ) (offsets : List ℕ) → All (λ (b : ℕ). b < 256) bytes → All (λ (b : ℕ). b < 256) (copied_at bytes size offsets)
copied_at_small bytes size [] small = All-nil (λ (b : ℕ). b < 256)
copied_at_small bytes size (o ∷ os) small =
    let part : All (λ (b : ℕ). b < 256) (slice_range bytes o (o + size)) = All-take (λ (b : ℕ). b < 256) (o + size - o) (drop o bytes) (All-drop (λ (b : ℕ). b < 256) o bytes small) in
    All-append (λ (b : ℕ). b < 256) (slice_range bytes o (o + size)) (copied_at bytes size os) part (copied_at_small bytes size os small)

-- a span copies as many bytes as it has
pub length-copied_at-one : (bytes : List ℕ) (size o : ℕ) → IsSpanAt (length bytes) size o → length (copied_at bytes size (o ∷ [])) ≡ size
length-copied_at-one bytes size o is =
    let many : o + size - o ≡ size = omega arith in
    let inside : o + size - o ≤ length (drop o bytes) = omega (arith, is, length-drop o bytes) in
    ap length (append-nil (slice_range bytes o (o + size))) ∙ length-take-le (o + size - o) (drop o bytes) inside ∙ many

-- one byte more was read of those from a place on
pub read-more : (xs ys : List ℕ) (from k : ℕ) → k < length xs → from + k < length ys → take k xs ≡ take k (drop from ys)
    → take (k + 1) (set xs k (get_or ys (from + k) 0)) ≡ take (k + 1) (drop from ys)
read-more xs ys from k h within same =
    let x = get_or ys (from + k) 0 in
    let there : k < length (drop from ys) = omega (arith, within, length-drop from ys) in
    take_more_set xs k x h ∙ ap (λ zs. zs ++ x ∷ []) same
    ∙ sym (take_more (drop from ys) k 0 there ∙ ap (λ y. take k (drop from ys) ++ y ∷ []) (get_or-drop from ys k 0))

-- all of them were read
pub read-all : (xs ys : List ℕ) (from n k : ℕ) → length xs ≡ n → n ≤ k → k ≤ n → take k xs ≡ take k (drop from ys) → xs ≡ take (from + n - from) (drop from ys)
read-all xs ys from n k long most least same =
    let all : k ≡ length xs = omega (arith, long, most, least) in
    let many : k ≡ from + n - from = omega (arith, most, least) in
    sym (take-length xs) ∙ ap (λ i. take i xs) (sym all) ∙ same ∙ ap (λ i. take i (drop from ys)) many

-- the next span copies what it does behind what those before it copy
pub copied_at-more : (bytes : List ℕ) (size : ℕ) (offsets : List ℕ) (i : ℕ) → i < length offsets
    → copied_at bytes size (take (i + 1) offsets) ≡ copied_at bytes size (take i offsets) ++ copied_at bytes size (get_or offsets i 0 ∷ [])
copied_at-more bytes size offsets i h = ap (copied_at bytes size) (take_more offsets i 0 h) ∙ flat_map-append _ (take i offsets) (get_or offsets i 0 ∷ [])

-- and so it is written behind them
pub written_more : (bytes : List ℕ) (size : ℕ) (offsets : List ℕ) (i : ℕ) → i < length offsets → (front : List ℕ)
    → (front ++ copied_at bytes size (take i offsets)) ++ copied_at bytes size (get_or offsets i 0 ∷ []) ≡ front ++ copied_at bytes size (take (i + 1) offsets)
written_more bytes size offsets i h front =
    append_assoc front (copied_at bytes size (take i offsets)) (copied_at bytes size (get_or offsets i 0 ∷ [])) ∙ ap (λ those. front ++ those) (sym (copied_at-more bytes size offsets i h))

pub length-more : (bytes : List ℕ) (size : ℕ) (offsets : List ℕ) (i : ℕ) → i < length offsets
    → length (copied_at bytes size (take (i + 1) offsets)) ≡ length (copied_at bytes size (take i offsets)) + length (copied_at bytes size (get_or offsets i 0 ∷ []))
length-more bytes size offsets i h = ap length (copied_at-more bytes size offsets i h) ∙ length-append (copied_at bytes size (take i offsets)) (copied_at bytes size (get_or offsets i 0 ∷ []))
