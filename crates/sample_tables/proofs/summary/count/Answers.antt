use Rattle.std.proofs.Common.{◌≡◌, ◌∙◌, Some, ap, sym, rules, slice_get, length, ◌<◌}
use Rattle.std.proofs.lemmas.Option.{slice_get-get_or}
use Rattle.sample_tables.specs.Tallies.{tally_with}
use Rattle.sample_tables.proofs.TallyLemmas.{tallies-push}
use Rattle.sample_tables.proofs.summary.count.Goals as goal

-- the tally at the place has the sample too
pub returns-clause-tallies : goal.returns-clause-tallies
returns-clause-tallies c = λ samples r all overload stamp.
    let tallies = c.args.tallies.now.items in
    let was = c.index-tally.result.now in
    let within : c.args.place < length tallies = search rules in
    let at : slice_get tallies c.args.place ≡ Some was = slice_get-get_or tallies c.args.place was within ∙ ap Some (sym c.index-tally.ensures) in
    let now : c.with.result ≡ tally_with was r.overload r.stamp = c.with.ensures ∙ ap (λ b. tally_with was b c.args.stamp) overload ∙ ap (λ o. tally_with was r.overload o) stamp in
    tallies-push tallies c.args.place was c.with.result samples r all within at now
