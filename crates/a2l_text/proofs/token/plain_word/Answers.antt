use Rattle.a2l_text.specs.TokenOf.{token_of}
use Rattle.a2l_text.proofs.WordLemmas.{run_has_bytes, run_spelled, run_valid}
use Rattle.a2l_text.proofs.token.plain_word.Goals as goal

-- a plain byte is there
pub returns-clause-not_empty : goal.returns-clause-not_empty
returns-clause-not_empty c =
    run_has_bytes c.args.text.now c.plain_len-len.result c.requires c.plain_len-len.ensures.plain

-- the word is the run of bytes
pub returns-clause-spelled : goal.returns-clause-spelled
returns-clause-spelled c =
    run_spelled c.args.text.now c.before-2.result.now c.plain_len-len.result (token_of c.unquoted.result) c.unquoted.ensures c.before-2.ensures

-- the run is the longest
pub returns-clause-valid : goal.returns-clause-valid
returns-clause-valid c =
    run_valid c.args.text.now c.before-2.result.now c.plain_len-len.result (token_of c.unquoted.result) c.unquoted.ensures c.before-2.ensures
    c.plain_len-len.ensures.within c.requires c.plain_len-len.ensures.plain
