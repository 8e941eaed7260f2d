-- the columns of the measurements so far
use Rattle.std.proofs.Common.{take}
use Rattle.std.specs.Prelude.{filter}
use Rattle.std.specs.List.{AllZip}
use Rattle.std.specs.Option.{option_copied}
use Rattle.value_tables.specs.Columns.{IsColumnOf, is_shown}
use Rattle.value_tables.proofs.columns.columns_of.Given as goal

abbrev pub invariant-loop-i : goal.invariant-loop-i
invariant-loop-i g l =
    AllZip (IsColumnOf l.description)
    (filter (is_shown (option_copied l.only) (g.H.Holder.held l.holder)) (take l.i l.description.measurements.items))
    l.columns.items
