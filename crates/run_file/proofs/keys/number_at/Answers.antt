use Rattle.std.proofs.Common.{◌∙◌}
use Rattle.toml.proofs.Views.{table_get}
use Rattle.run_file.proofs.keys.number_at.Goals as goal

pub returns-clause-value : goal.returns-clause-value
returns-clause-value c =
    let found = table_get c.get.result c.args.key.now c.args.table.now.entries c.get.ensures.value in
    c.number_in.ensures.value ∙ rw (← rw c.in_ok-get.was at found)

pub returns-in_err-get-clause-value : goal.returns-in_err-get-clause-value
returns-in_err-get-clause-value c =
    let found = table_get c.get.result c.args.key.now c.args.table.now.entries c.get.ensures.value in
    c.from_residual.ensures ∙ rw (← rw c.in_err-get.was at found)
