use Rattle.std.proofs.Common.{ap, ◌∙◌}
use Rattle.captured_samples.specs.Inner.{with_packet}
use Rattle.captured_samples.proofs.ShownLemmas.{shown-behind}
use Rattle.captured_samples.proofs.list_samples.ListSamples.add.Goals as goal

-- with one packet more
pub returns-then-self-odts-clause-shown : goal.returns-then-self-odts-clause-shown
returns-then-self-odts-clause-shown c l before stands =
    c.in_ok-put.ensures ∙ ap (λ s. with_packet s c.args.packet.now) stands ∙ shown-behind l before c.args.packet.now

pub returns-clause-shown : goal.returns-clause-shown
returns-clause-shown c l before stands =
    c.in_ok-put.ensures ∙ ap (λ s. with_packet s c.args.packet.now) stands ∙ shown-behind l before c.args.packet.now
