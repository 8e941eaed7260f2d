-- Memory that fits segments, part by part.
use Rattle.std.proofs.Common.{◌≡◌, ℕ, ◌+◌, ◌<◌, Bool, true, false, ◌&&◌, List, [], ◌∷◌, length, drop, get_or, ap, ◌∙◌, refl, sym, arith}
use Rattle.std.specs.Prelude.{zip}
use Rattle.std.specs.List.{list_all}
use Rattle.std.specs.Borrow.{Bor}
use Rattle.std.proofs.lemmas.List.{drop_more, get_or-map, length-map}
use Rattle.segments.specs.Memory.{is_there, parts}
use Rattle.segments.specs.declared.segment.Segment.{Segment}

-- the part of one segment, and those behind it
pub fit_more : (c : ℕ) (segments : List Segment) (memory : List (Bor (List ℕ))) (i : ℕ) (d : Segment) (e : Bor (List ℕ)) → i < length segments → i < length memory
    → list_all (is_there c) (zip (drop i segments) (drop i (parts memory)))
    ≡ (is_there c (get_or segments i d, (get_or memory i e).now) && list_all (is_there c) (zip (drop (i + 1) segments) (drop (i + 1) (parts memory))))
fit_more c segments memory i d e in_segments in_memory =
    let there : i < length (parts memory) = omega (arith, in_memory, length-map memory (λ (part : Bor (List ℕ)). part.now)) in
    ap (λ xs. list_all (is_there c) (zip xs (drop i (parts memory)))) (drop_more segments i d in_segments)
    ∙ ap (λ ys. list_all (is_there c) (zip (get_or segments i d ∷ drop (i + 1) segments) ys)) (drop_more (parts memory) i e.now there)
    ∙ ap (λ part. is_there c (get_or segments i d, part) && list_all (is_there c) (zip (drop (i + 1) segments) (drop (i + 1) (parts memory)))) (get_or-map (λ (part : Bor (List ℕ)). part.now) memory i e e.now in_memory)

-- nothing of segments whose bytes aren't all there
pub not_fit : (a b : Bool) → b ≡ false → false ≡ (a && b)
not_fit true b e = sym e
not_fit false b e = refl

-- no segment, and no bytes
abbrev pub no_segment : Segment
no_segment = record { extension = 0; base = 0; len = 0; events = 0 }

abbrev pub no_bytes : Bor (List ℕ)
no_bytes = record { ref_ptr = (0, 0); now = [] }
