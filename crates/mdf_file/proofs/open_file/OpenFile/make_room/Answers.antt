use Rattle.mdf_file.proofs.StandingLemmas.{same_unfinished}
use Rattle.mdf_file.proofs.open_file.OpenFile.make_room.Goals as goal

-- there is room
pub returns-then-not-is_full-clause-unfinished : goal.returns-then-not-is_full-clause-unfinished
returns-then-not-is_full-clause-unfinished g c = same_unfinished _ _ _ c.requires.standing
