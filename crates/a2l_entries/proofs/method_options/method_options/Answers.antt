use Rattle.std.proofs.Common.{map, ap}
use Rattle.std.proofs.lemmas.Result.{err_from_is_err_and}
use Rattle.a2l_entries.specs.Said.{token_at, tokens_of}
use Rattle.a2l_entries.specs.Keywords.{method_keyword, method_arguments_of}
use Rattle.a2l_entries.specs.MethodSaid.{method_options_seen, no_method_options, method_options_or, method_option_said, method_options_said}
use Rattle.a2l_entries.proofs.ScanLemmas.{none_left, no_tokens, options_go_on, options_stop, options_stop_behind, options_done}
use Rattle.a2l_entries.proofs.OptionLemmas.{method_options_monoid}
use Rattle.a2l_entries.proofs.method_options.method_options.Goals as goal

pub returns-in_err-one : goal.returns-in_err-one
unfolding method_options_said
returns-in_err-one c =
    let p = err_from_is_err_and c.from_residual.result c.from_residual.ensures.1 in
    rw (p.1, p.2) (options_stop no_method_options method_options_or method_keyword method_arguments_of method_option_said c.in_err-one.field-0.0 (method_options_seen c.loop-word.options) (tokens_of c.loop-word.rest) (token_at c.in-Some.word.now) _ _ _
    (ap (map token_at) c.in-Some.ensures.cases.0) c.method_keyword-keyword.ensures c.in_err-one.ensures c.loop-word.invariant)

pub returns-in_err-rest : goal.returns-in_err-rest
unfolding method_options_said
returns-in_err-rest c =
    let p = err_from_is_err_and c.from_residual-in_err-rest.result c.from_residual-in_err-rest.ensures.1 in
    rw (p.1, p.2) (options_stop_behind no_method_options method_options_or method_keyword method_arguments_of method_option_said c.in_err-rest.field-0.0 (method_options_seen c.loop-word.options) (method_options_seen c.in_ok-one.one) (tokens_of c.loop-word.rest) (token_at c.in-Some.word.now) _ _ _ _
    (ap (map token_at) c.in-Some.ensures.cases.0) c.method_keyword-keyword.ensures c.arguments.ensures c.in_ok-one.ensures c.in_err-rest.ensures c.loop-word.invariant)

pub loop-word-preserved : goal.loop-word-preserved
unfolding method_options_said
loop-word-preserved c = rw c.or-options.ensures
    (options_go_on no_method_options method_options_or method_keyword method_arguments_of method_option_said method_options_monoid (method_options_seen c.loop-word.options) (method_options_seen c.in_ok-one.one) (tokens_of c.loop-word.rest) (token_at c.in-Some.word.now) _ _ _ _ _
    (ap (map token_at) c.in-Some.ensures.cases.0) c.method_keyword-keyword.ensures c.arguments.ensures c.in_ok-one.ensures c.in_ok-rest.ensures c.loop-word.invariant)

pub returns : goal.returns
unfolding method_options_said
returns c =
    let none = none_left _ _ _ c.in_default.not-Some c.split_first.ensures.cases in
    options_done no_method_options method_options_or method_keyword method_arguments_of method_option_said method_options_monoid (method_options_seen c.loop-word.options) (tokens_of c.loop-word.rest) _ (no_tokens c.loop-word.rest.words.now none) c.loop-word.invariant
