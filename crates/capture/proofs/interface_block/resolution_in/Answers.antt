use Rattle.std.proofs.Common.{ap}
use Rattle.std.specs.Prelude.{option_map}
use Rattle.capture.proofs.OptionLemmas.{wrong-length}
use Rattle.capture.proofs.interface_block.resolution_in.Goals as goal

-- the value has another length
pub returns-in-Some-2-clause-none : goal.returns-in-Some-2-clause-none
returns-in-Some-2-clause-none c err options are has =
    let found = c.in_ok-option_value.ensures.ok in
    wrong-length c.args.order c.args.bytes.now c.in-Some.value.now 1 _ _ found.0 options found.1 found.2 (ap (option_map (λ v. v.now)) c.in-Some.is) c.if-value-eq1.false are has
