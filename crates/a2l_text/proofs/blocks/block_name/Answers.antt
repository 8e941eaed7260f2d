use Rattle.std.proofs.lemmas.Result.{err_from_is_err_and}
use Rattle.a2l_text.specs.TokenOf.{token_of}
use Rattle.a2l_text.proofs.StepLemmas.{nameless, no_name_at_end, no_plain}
use Rattle.a2l_text.proofs.blocks.block_name.Goals as goal

pub returns-in_err-next_word-clause-err : goal.returns-in_err-next_word-clause-err
returns-in_err-next_word-clause-err c =
    let p = err_from_is_err_and c.from_residual.result c.from_residual.ensures.1 in
    rw (p.1, p.2) (nameless c.in_err-next_word.field-0.0 _ c.in_err-next_word.ensures.err)

pub returns-in-None-clause-err : goal.returns-in-None-clause-err
returns-in-None-clause-err c = no_name_at_end _ (rw c.in-None.is at c.in_ok-next_word.ensures.ok)

pub returns-in-None-plain_bytes-clause-err : goal.returns-in-None-plain_bytes-clause-err
returns-in-None-plain_bytes-clause-err c =
    no_plain (token_of c.in-Some.word) _ _ (rw c.in-Some.is at c.in_ok-next_word.ensures.ok) c.in-None-plain_bytes.ensures
