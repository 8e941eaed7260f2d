use Rattle.std.proofs.Common.{arith}
use Rattle.value_tables.proofs.PlaceLemmas.{front_is_small}
use Rattle.value_tables.proofs.places.odts_len.Goals as goal

-- a sample is small, and so is an ODT
pub overflow_add-bytes : goal.overflow_add-bytes
overflow_add-bytes c =
    omega (arith, c.loop-k.invariant, front_is_small c.args.shape.now c.loop-k.k c.odts.ensures.plan, c.entries_len-bytes.ensures.limit)

-- the ODTs so far are some of a sample's
pub returns-clause-limit : goal.returns-clause-limit
returns-clause-limit c =
    omega (arith, c.loop-k.invariant, front_is_small c.args.shape.now c.loop-k.k c.odts.ensures.plan)
