use Rattle.std.proofs.Common.{lit<, ◌∙◌, replicate, string_bytes}
use Rattle.measured_values.specs.Texts.{Keeps}
use Rattle.measured_values.proofs.DigitLemmas.{zero_pushed}
use Rattle.measured_values.proofs.ResultLemmas.{on_err}
use Rattle.measured_values.proofs.decimal_places.push_zeros.Goals as goal

-- one zero more
pub loop-zero-preserved : goal.loop-zero-preserved
loop-zero-preserved c =
    let pushed = c.in_ok-push.ensures in
    zero_pushed _ _ _ _ _ c.loop-zero.invariant pushed.bytes (pushed.ascii (lit< tt))

-- the zeros that were pushed stand behind what was there
pub returns-in_err-push-clause-err : goal.returns-in_err-push-clause-err
returns-in_err-push-clause-err c =
    let kept : Keeps (string_bytes c.args.out.now) (string_bytes c.push.new.self) =
    (replicate c.loop-zero._zero 48, c.in_err-push.ensures.bytes ∙ c.loop-zero.invariant) in
    on_err _ _ kept
