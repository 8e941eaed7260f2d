use Rattle.std.proofs.Common.{arith}
use Rattle.std.proofs.lemmas.Option.{slice_get-get_or}
use Rattle.xcp_base.proofs.per_list.PerList.get.Goals as goal

-- the list's place is its number, and it is within the table
pub returns : goal.returns
returns g c =
    let here = slice_get-get_or c.self.inside.items c.index.result c.index-self-index.result (omega (arith, c.self.invariant)) in
    rw (← c.self.view_is, ← c.index.ensures.value) here
