use Rattle.std.proofs.Common.{Err, ap, sym}
use Rattle.daq_reader.specs.Ready.{ready_lists}
use Rattle.recording.proofs.ShownLemmas.{of_writer}
use Rattle.recording.proofs.ByNameLemmas.{as_values, by_name, has_chosen, no_columns}
use Rattle.recording.proofs.StopLemmas.{each_fault, from_err}
use Rattle.recording.proofs.values.show_values.Goals as goal

-- what is shown in this way is shown by name, of measurements that are there
pub returns-in-Summary-clause-shown : goal.returns-in-Summary-clause-shown
returns-in-Summary-clause-shown g c =
    let plans = c.in_ok-shapes.ensures in
    let columns = c.in_ok-columns in
    of_writer c.show_tallies.result _ _
    (λ w h. by_name c.args.values _ _ _ _ _ _ _ _ _ columns.columns.items plans columns.ensures.are
    columns.ensures.chosen (sym c.in-Summary.is) h)
    c.show_tallies.ensures.shown

pub returns-in-Summary-clause-no_value : goal.returns-in-Summary-clause-no_value
returns-in-Summary-clause-no_value g c lacks =
    let plans = c.in_ok-shapes.ensures in
    let chosen = c.in_ok-columns.ensures.chosen in
    has_chosen c.args.values _ (ready_lists c.args.store.now) plans chosen lacks

pub returns-in-Csv-clause-shown : goal.returns-in-Csv-clause-shown
returns-in-Csv-clause-shown g c =
    let plans = c.in_ok-shapes.ensures in
    let columns = c.in_ok-columns in
    of_writer c.show_rows.result _ _
    (λ w h. by_name c.args.values _ _ _ _ _ _ _ _ _ columns.columns.items plans columns.ensures.are
    columns.ensures.chosen (sym c.in-Csv.is) h)
    c.show_rows.ensures.shown

pub returns-in-Csv-clause-no_value : goal.returns-in-Csv-clause-no_value
returns-in-Csv-clause-no_value g c lacks =
    let plans = c.in_ok-shapes.ensures in
    let chosen = c.in_ok-columns.ensures.chosen in
    has_chosen c.args.values _ (ready_lists c.args.store.now) plans chosen lacks

pub returns-clause-shown : goal.returns-clause-shown
returns-clause-shown g c =
    let plans = c.in_ok-shapes.ensures in
    let columns = c.in_ok-columns in
    of_writer c.show_curves.result _ _
    (λ w h. by_name c.args.values _ _ _ _ _ _ _ _ _ columns.columns.items plans columns.ensures.are
    columns.ensures.chosen (sym c.in-Svg.is) h)
    c.show_curves.ensures.shown

pub returns-clause-no_value : goal.returns-clause-no_value
returns-clause-no_value g c lacks =
    let plans = c.in_ok-shapes.ensures in
    let chosen = c.in_ok-columns.ensures.chosen in
    has_chosen c.args.values _ (ready_lists c.args.store.now) plans chosen lacks

pub returns-in-Summary-clause-fault : goal.returns-in-Summary-clause-fault
returns-in-Summary-clause-fault g c = each_fault c.show_tallies.result _ _ (as_values c.args.values _ _ _ _ _) c.show_tallies.ensures.fault

pub returns-in-Csv-clause-fault : goal.returns-in-Csv-clause-fault
returns-in-Csv-clause-fault g c = each_fault c.show_rows.result _ _ (as_values c.args.values _ _ _ _ _) c.show_rows.ensures.fault

pub returns-clause-fault : goal.returns-clause-fault
returns-clause-fault g c = each_fault c.show_curves.result _ _ (as_values c.args.values _ _ _ _ _) c.show_curves.ensures.fault

-- without columns, no measurement that is chosen is there
pub returns-in_err-columns-clause-fault : goal.returns-in_err-columns-clause-fault
returns-in_err-columns-clause-fault g c =
    let plans = c.in_ok-shapes.ensures in
    let none = c.in_err-columns in
    from_err c.from_residual-in_err-columns.result _ _ c.from_residual-in_err-columns.ensures.1
    (no_columns c.args.values _ _ _ _ _ _ _ plans none.ensures.err (λ e. none.ensures.no_value (ap Err e)))
