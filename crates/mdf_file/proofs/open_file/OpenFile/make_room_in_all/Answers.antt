use Rattle.mdf_file.proofs.StandingLemmas.{same_unfinished}
use Rattle.mdf_file.proofs.open_file.OpenFile.make_room_in_all.Goals as goal

-- there is room
pub returns-then-saturating_add-self-clause-unfinished :
    goal.returns-then-saturating_add-self-clause-unfinished
returns-then-saturating_add-self-clause-unfinished g c =
    same_unfinished _ _ _ c.requires.standing
