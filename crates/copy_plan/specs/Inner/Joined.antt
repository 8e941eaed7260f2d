-- The spans of an ODT, which are its entries with neighbours joined.
use Rattle.std.specs.Prelude.{ℕ, ◌+◌, ◌==◌, if◌then◌else◌, List, [], ◌∷◌}
use Rattle.copy_plan.specs.declared.span.Span.{Span}
use Rattle.copy_plan.specs.Config.{OdtEntry}

-- some bytes and the spans behind them: one span with the first of these where it begins at their
-- end
abbrev pub with_bytes : ℕ → ℕ → List Span → List Span
with_bytes start end [] = record { start = start; end = end } ∷ []
with_bytes start end (r ∷ rs) =
    if r.start == end then record { start = start; end = r.end } ∷ rs
    else record { start = start; end = end } ∷ r ∷ rs

-- the spans of some entries
abbrev pub joined_spans : List OdtEntry → List Span
joined_spans [] = []
joined_spans (e ∷ es) = with_bytes e.0 (e.0 + e.1) (joined_spans es)
