-- Spans of an image of all memory, and what they copy of it.
use Rattle.std.specs.Prelude.{◌≡◌, ℕ, ◌-◌, ◌≤◌, List, flat_map, slice_range}
use Rattle.copy_plan.specs.declared.span.Span.{Span}

-- what spans copy of an image: their bytes, joined in order
abbrev pub copied : List ℕ → List Span → List ℕ
copied image spans = flat_map (λ (r : Span). slice_range image r.start r.end) spans

-- the span lies within an image of so many bytes
pub record IsSpanInside (image_len : ℕ) (r : Span) : Type 0 where
  pub ordered : r.start ≤ r.end
  pub inside : r.end ≤ image_len

-- the bytes of a span
abbrev pub span_size : Span → ℕ
span_size r = r.end - r.start

-- the span has so many bytes
abbrev pub HasSize : ℕ → Span → Type 0
HasSize size r = span_size r ≡ size
