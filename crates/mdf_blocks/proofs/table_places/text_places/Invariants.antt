use Rattle.mdf_blocks.proofs.TableLemmas.{ArePlaced}
use Rattle.mdf_blocks.proofs.table_places.text_places.Given as goal

-- the rows so far are placed
abbrev pub invariant-loop-row : goal.invariant-loop-row
invariant-loop-row l = ArePlaced l.rows l.places.items l.row
