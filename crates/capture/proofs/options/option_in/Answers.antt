use Rattle.std.proofs.Common.{◌∙◌, ap, arith}
use Rattle.capture.specs.Options.{filled}
use Rattle.capture.proofs.OptionLemmas.{cut-off, too-few}
use Rattle.capture.proofs.options.option_in.Goals as goal

pub returns-then-bytes-lt4-clause-none : goal.returns-then-bytes-lt4-clause-none
returns-then-bytes-lt4-clause-none c err options = too-few c.args.order c.args.bytes.now options (grind (arith, c.if-is_empty.ensures)) c.if-bytes-lt4.true

pub returns-then-bytes-whole-clause-none : goal.returns-then-bytes-whole-clause-none
returns-then-bytes-whole-clause-none c err options =
    cut-off c.args.order c.args.bytes.now options (omega (arith, c.if-bytes-lt4.false)) (λ is. c.if-code-eq0.false (c.number_at-code.ensures.value ∙ is))
    (omega (arith, c.if-bytes-whole.true, ap filled c.number_at-len.ensures.value))
