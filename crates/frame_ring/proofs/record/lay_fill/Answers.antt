use Rattle.std.proofs.Common.{arith}
use Rattle.frame_ring.proofs.LayLemmas.{fill_laid}
use Rattle.frame_ring.proofs.record.lay_fill.Goals as goal

-- the front of the block
pub returns-clause-bytes : goal.returns-clause-bytes
returns-clause-bytes c count few = fill_laid c.args.at count c.args.out.now c.put_number.new.cells (omega (arith, c.requires.room)) few c.put_number.ensures.front
