use Rattle.std.proofs.Common.{rules, [], refl}
use Rattle.std.proofs.KnownBytes.{Consumes-more}
use Rattle.program_input.proofs.reading.front_from.Goals as goal

-- what was read before, and then by this read, is what is kept
pub loop-preserved : goal.loop-preserved
loop-preserved g c =
    let before = c.loop.invariant in
    let read = c.in_ok-is_read_to_end.ensures in (
      Consumes-more _ _ _ [] c.loop.bytes.items _ refl read.appends before.0 read.taken,
      read.within,
      search rules,
    )
