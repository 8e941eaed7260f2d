-- the indices so far and those along the dimensions that are left are all
use Rattle.std.proofs.Common.{◌≡◌, ◌++◌, drop}
use Rattle.std.specs.Prelude.{string_bytes}
use Rattle.a2l.specs.Elements.{indices_by_rows, indices_text}
use Rattle.a2l.proofs.elements.push_by_rows.Given as goal

abbrev pub invariant-loop-dim : goal.invariant-loop-dim
invariant-loop-dim l =
    string_bytes l.name ++ indices_text (indices_by_rows l.left (drop l.dim-index l.dims))
    ≡ string_bytes l.fn.name ++ indices_text (indices_by_rows l.index l.dims)
