use Rattle.a2l_text.proofs.LawLemmas.{one_word_is_next, no_word_at_the_end, no_word_at_a_fault, no_end_at_a_fault, one_fault}
use Rattle.a2l_text.proofs.laws.one_outcome.Goals as goal

pub returns : goal.returns
returns c = record {
  word = one_word_is_next;
  end = no_word_at_the_end;
  fault = no_word_at_a_fault;
  fault_or_end = no_end_at_a_fault;
  one_fault = one_fault;
}
