use Rattle.std.proofs.Common.{◌∙◌, ap}
use Rattle.std.specs.Option.{option_map}
use Rattle.toml.specs.View.{items_view}
use Rattle.toml.proofs.Views.{table_get}
use Rattle.run_file.proofs.keys.array_at.Goals as goal

pub returns : goal.returns
returns c =
    let found = table_get c.get.result c.args.key.now c.args.table.now.entries c.get.ensures.value in
    c.items_in.ensures ∙ rw (← rw c.in_ok-get.was at found)

pub returns-in_err-get : goal.returns-in_err-get
returns-in_err-get c =
    let found = table_get c.get.result c.args.key.now c.args.table.now.entries c.get.ensures.value in
    ap (option_map (λ values. items_view values.now)) c.from_residual.ensures ∙ rw (← rw c.in_err-get.was at found)
