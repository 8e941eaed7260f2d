use Rattle.a2l_text.proofs.LawLemmas.{one_list}
use Rattle.a2l_text.proofs.laws.one_list_of_words.Goals as goal

pub returns : goal.returns
returns c = one_list
