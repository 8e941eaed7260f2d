-- Where all that waits was shown, nothing is left once it was sent.
use Rattle.std.proofs.Common.{◌≡◌, ℕ, zero, suc, ◌+◌, ◌-◌, ◌≤◌, List, [], ◌∷◌, ◌++◌, length, take, refl, sym, ap, ◌∙◌, arith, length-append}
use Rattle.std.specs.Prelude.{drop, if◌then◌else◌, nat_le, true}
use Rattle.frame_ring.proofs.RecordLemmas.{le_test}
use Rattle.frame_writer.specs.Frame.{frame, unnumbered}
use Rattle.frame_page.specs.Laid.{Laid as Kept, behind}
use Rattle.frame_page.specs.Laid.{packets_in as packets_kept}

one_more : (q : List ℕ) (qs : List (List ℕ)) → length (unnumbered (q ∷ qs)) ≡ 4 + length q + length (unnumbered qs)
one_more q qs = omega (arith, length-append q (unnumbered qs))

-- the first frames have the bytes of all only if they are all
pub all_shown : (n : ℕ) (qs : List (List ℕ)) → n ≤ length qs → length (unnumbered (take n qs)) ≡ length (unnumbered qs) → n ≡ length qs
all_shown zero [] few same = refl
all_shown zero (q ∷ qs) few same = omega (arith, same, one_more q qs)
all_shown (suc n) [] few same = omega (arith, few)
all_shown (suc n) (q ∷ qs) few same =
    ap suc (all_shown n qs (omega (arith, few)) (omega (arith, same, one_more q (take n qs), one_more q qs)))

-- nothing is left behind all of them
pub none_behind : {O : Type 0} (xs : List (Kept O)) → behind (length (packets_kept xs)) xs ≡ []
none_behind [] = refl
none_behind (x ∷ xs) =
    let m = length x.packets in
    let n = length (packets_kept (x ∷ xs)) in
    let all : n ≡ m + length (packets_kept xs) = length-append x.packets (packets_kept xs) in
    let test : nat_le m n ≡ true = le_test m n (omega (arith, all)) in
    ap (λ b. if b then behind (n - m) xs else record x { packets = drop n x.packets } ∷ xs) test
    ∙ ap (λ k. behind k xs) (omega (arith, all)) ∙ none_behind xs
