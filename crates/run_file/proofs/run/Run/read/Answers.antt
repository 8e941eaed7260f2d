use Rattle.std.proofs.Common.{◌≡◌, ◌+◌, ◌-◌, map, vec_items, arith}
use Rattle.toml.specs.View.{table_view}
use Rattle.run_file.specs.declared.run_fault.RunFault.TheVariants.{BadSetup, BadStep}
use Rattle.run_file.specs.Inner.{values_data}
use Rattle.run_file.specs.Reading.{IsFirstBad}
use Rattle.run_file.specs.RunFile.{IsPacketText}
use Rattle.run_file.specs.Steps.{IsStepText}
use Rattle.run_file.proofs.LimitLemmas.{run_limits}
use Rattle.run_file.proofs.RunLemmas.{fault_is, run_read, setup_at, step_at, step_refused}
use Rattle.run_file.proofs.run.Run.read.Goals as goal

-- what was read is the run of the text, and each such run keeps the limits
pub invariant_of-result : goal.invariant_of-result
invariant_of-result c =
    let v = values_data c.in_ok-values.values in
    let one_more : (c.in_ok-values.values.channels - 1) + 1 ≡ c.in_ok-values.values.channels = omega (arith, c.in_ok-values.ensures.within.0) in
    run_limits c.args.text.now _
    (run_read c.args.text.now (table_view c.in_ok-table.table) v (c.in_ok-values.values.channels - 1)
    (map vec_items c.in_ok-setup.setup.items) c.in_ok-table.ensures.ok c.in_ok-values.ensures.ok one_more c.in_ok-setup.ensures.ok
    c.in_ok-steps.steps c.in_ok-steps.ensures.ok)

-- the first text of `setup` that is no packet
pub returns-in_err-setup-clause-bad_setup : goal.returns-in_err-setup-clause-bad_setup
returns-in_err-setup-clause-bad_setup c = λ i is.
    let v = values_data c.in_ok-values.values in
    let named : c.in_err-setup.field-0.0 ≡ BadSetup i = fault_is c.from_residual-in_err-setup.result c.in_err-setup.field-0.0 (BadSetup i) c.from_residual-in_err-setup.ensures.1 is in
    record {
      values = v;
      document = record { document = table_view c.in_ok-table.table; toml = c.in_ok-table.ensures.ok; keys_are = c.in_ok-values.ensures.ok };
      first = setup_at (λ k. IsFirstBad IsPacketText v.setup k) i c.in_err-setup.field-0.0 c.in_err-setup.ensures.err named;
    }

-- the first text of `steps` that is no step
pub returns-in_err-steps-clause-bad_step : goal.returns-in_err-steps-clause-bad_step
returns-in_err-steps-clause-bad_step c = λ i is.
    let v = values_data c.in_ok-values.values in
    let last = c.in_ok-values.values.channels - 1 in
    let one_more : last + 1 ≡ c.in_ok-values.values.channels = omega (arith, c.in_ok-values.ensures.within.0) in
    let named : c.in_err-steps.field-0.0 ≡ BadStep i = fault_is c.from_residual-in_err-steps.result c.in_err-steps.field-0.0 (BadStep i) c.from_residual-in_err-steps.ensures.1 is in
    step_refused c.args.text.now (table_view c.in_ok-table.table) v last (map vec_items c.in_ok-setup.setup.items)
    c.in_ok-table.ensures.ok c.in_ok-values.ensures.ok one_more c.in_ok-setup.ensures.ok i
    (step_at (λ k. IsFirstBad (IsStepText (last + 1)) v.steps k) i c.in_err-steps.field-0.0 c.in_err-steps.ensures.err named)
