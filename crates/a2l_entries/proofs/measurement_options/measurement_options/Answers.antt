use Rattle.std.proofs.Common.{map, ap}
use Rattle.std.proofs.lemmas.Result.{err_from_is_err_and}
use Rattle.a2l_entries.specs.Said.{token_at, tokens_of}
use Rattle.a2l_entries.specs.Keywords.{measurement_keyword, arguments_of}
use Rattle.a2l_entries.specs.MeasurementSaid.{options_seen, no_options, options_or, option_said, options_said}
use Rattle.a2l_entries.proofs.ScanLemmas.{fewer_left, none_left, no_tokens, options_go_on, options_stop, options_stop_behind, options_done}
use Rattle.a2l_entries.proofs.OptionLemmas.{options_monoid}
use Rattle.a2l_entries.proofs.measurement_options.measurement_options.Goals as goal

pub returns-in_err-one : goal.returns-in_err-one
unfolding options_said
returns-in_err-one c =
    let p = err_from_is_err_and c.from_residual.result c.from_residual.ensures.1 in
    rw (p.1, p.2) (options_stop no_options options_or measurement_keyword arguments_of option_said c.in_err-one.field-0.0 (options_seen c.loop-word.options) (tokens_of c.loop-word.rest) (token_at c.in-Some.word.now) _ _ _
    (ap (map token_at) c.in-Some.ensures.cases.0) c.measurement_keyword-keyword.ensures c.in_err-one.ensures c.loop-word.invariant)

pub returns-in_err-rest : goal.returns-in_err-rest
unfolding options_said
returns-in_err-rest c =
    let p = err_from_is_err_and c.from_residual-in_err-rest.result c.from_residual-in_err-rest.ensures.1 in
    rw (p.1, p.2) (options_stop_behind no_options options_or measurement_keyword arguments_of option_said c.in_err-rest.field-0.0 (options_seen c.loop-word.options) (options_seen c.in_ok-one.one) (tokens_of c.loop-word.rest) (token_at c.in-Some.word.now) _ _ _ _
    (ap (map token_at) c.in-Some.ensures.cases.0) c.measurement_keyword-keyword.ensures c.arguments.ensures c.in_ok-one.ensures c.in_err-rest.ensures c.loop-word.invariant)

pub loop-word-preserved : goal.loop-word-preserved
unfolding options_said
loop-word-preserved c = rw c.or-options.ensures
    (options_go_on no_options options_or measurement_keyword arguments_of option_said options_monoid (options_seen c.loop-word.options) (options_seen c.in_ok-one.one) (tokens_of c.loop-word.rest) (token_at c.in-Some.word.now) _ _ _ _ _
    (ap (map token_at) c.in-Some.ensures.cases.0) c.measurement_keyword-keyword.ensures c.arguments.ensures c.in_ok-one.ensures c.in_ok-rest.ensures c.loop-word.invariant)

pub returns : goal.returns
unfolding options_said
returns c =
    let none = none_left _ _ _ c.in_default.not-Some c.split_first.ensures.cases in
    options_done no_options options_or measurement_keyword arguments_of option_said options_monoid (options_seen c.loop-word.options) (tokens_of c.loop-word.rest) _ (no_tokens c.loop-word.rest.words.now none) c.loop-word.invariant

-- a keyword is passed, with the words that belong to it
pub loop-word-smaller : goal.loop-word-smaller
loop-word-smaller c = fewer_left _ c.loop-word.rest.words.now c.in-Some.words.now c.in_ok-rest.rest.words.now _ c.in-Some.ensures.cases.0 c.in_ok-rest.ensures
