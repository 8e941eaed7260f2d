use Rattle.copy_plan.proofs.MemoryLemmas.{elements_are_memory}
use Rattle.copy_plan.proofs.laws.elements_are_memory.Goals as goal

pub returns : goal.returns
returns c = elements_are_memory
