use Rattle.slave.proofs.StoryLemmas.{same-story}
use Rattle.slave.proofs.laws.one_slave_one_story.Goals as goal

-- each of these is read off the slave
pub returns : goal.returns
returns c = λ d s a b one other. same-story d s a b one.parts other.parts
