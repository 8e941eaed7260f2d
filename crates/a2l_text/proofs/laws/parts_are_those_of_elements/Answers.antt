-- Both by going over the elements and over the words.
use Rattle.a2l_text.proofs.Completions.{reads_elements}
use Rattle.a2l_text.proofs.TreeLaws.{reads_all}
use Rattle.a2l_text.proofs.laws.parts_are_those_of_elements.Goals as goal

pub returns-clause-elements : goal.returns-clause-elements
returns-clause-elements c = reads_elements

pub returns-clause-all : goal.returns-clause-all
returns-clause-all c = reads_all
