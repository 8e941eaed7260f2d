use Rattle.segments.proofs.ReadLemmas.{shows_memory}
use Rattle.segments.proofs.laws.an_image_shows_memory.Goals as goal

pub returns : goal.returns
returns c = shows_memory
