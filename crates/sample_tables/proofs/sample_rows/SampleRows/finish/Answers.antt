use Rattle.std.proofs.KnownBytes.{Appends-kept}
use Rattle.sample_tables.proofs.sample_rows.SampleRows.finish.Goals as goal

-- all rows were written, and what is left of them is written out
pub returns-in-Ok : goal.returns-in-Ok
returns-in-Ok g c = rw (← c.self.view_is) (Appends-kept _ _ _ _ (c.self.invariant.1 c.if-failed.false).text c.in-Ok.ensures.ok)
