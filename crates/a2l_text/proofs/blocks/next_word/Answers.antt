use Rattle.std.proofs.Common.{Option, Some, None, length, ◌<◌, List, ℕ}
use Rattle.std.specs.Prelude.{MatchOption, IfSome}
use Rattle.a2l_text.specs.declared.word.Word.{Word}
use Rattle.a2l_text.specs.TokenOf.{token_of}
use Rattle.a2l_text.specs.Words.{Leads, Ends}
use Rattle.a2l_text.specs.Steps.{WordIs}
use Rattle.a2l_text.proofs.StepLemmas.{takes_word, has_no_more, no_words}
use Rattle.a2l_text.proofs.blocks.next_word.Goals as goal

word_is : (found : Option Word) (old new : List ℕ) → MatchOption found (Ends old) (λ word. Leads old (token_of word) new) → IfSome found (λ word. length new < length old) → WordIs found old new
word_is None old new h lt = has_no_more old h
word_is (Some word) old new h lt = takes_word old (token_of word) new h lt

pub returns-in-Ok-clause-ok : goal.returns-in-Ok-clause-ok
returns-in-Ok-clause-ok c = word_is c.in-Ok.word _ _ c.in-Ok.ensures.next c.in-Ok.ensures.shorter

pub returns-in-Err-clause-err : goal.returns-in-Err-clause-err
returns-in-Err-clause-err c = no_words _ _ _ c.in-Err.ensures.fault
