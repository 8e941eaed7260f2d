use Rattle.std.proofs.Common.{◌≡◌, rules, tests}
use Rattle.std.specs.Prelude.{is_some}
use Rattle.std.specs.List.{list_all}
use Rattle.std.proofs.lemmas.Iterator.{YieldsList-from_slice}
use Rattle.std.proofs.lemmas.Iterator.Search.{all_from_yields_List}
use Rattle.toml.specs.Data.{as_str}
use Rattle.toml.specs.View.{view}
use Rattle.run_file.proofs.KeyLemmas.{strings_by_test}
use Rattle.run_file.proofs.keys.are_strings.Goals as goal

pub returns : goal.returns
returns c =
    let test : c.all.result ≡ list_all (λ v. is_some (as_str (view v))) c.args.values.now =
    all_from_yields_List (λ v. is_some (as_str (view v))) _ _ c.all.result c.all.ensures.ran (YieldsList-from_slice c.args.values.now cc) (λ x b q k. search (rules, tests)) in
    rw test (strings_by_test c.args.values.now)
