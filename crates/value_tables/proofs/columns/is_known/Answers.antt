use Rattle.std.proofs.Common.{rules, tests}
use Rattle.std.proofs.lemmas.Iterator.{YieldsList-from_slice}
use Rattle.std.proofs.lemmas.Iterator.Search.{any_from_yields_List}
use Rattle.value_tables.proofs.columns.is_known.Goals as goal

-- the measurements are asked one after another
pub returns : goal.returns
returns g c =
    any_from_yields_List _ _ _ _ c.any.ensures.ran
    (YieldsList-from_slice c.args.description.now.measurements.items cc)
    (λ x b q k. search (rules, tests))
