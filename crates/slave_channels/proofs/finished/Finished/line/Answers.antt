use Rattle.std.specs.Prelude.{IfSome}
use Rattle.std.proofs.Common.{subst}
use Rattle.tasks.proofs.TurnLemmas.{some-with}
use Rattle.slave_outbox.specs.Accounts.{no_line}
use Rattle.slave_channels.specs.Channels.{HasLine}
use Rattle.slave_channels.proofs.finished.Finished.line.Goals as goal

-- the line is that of each past to which the sampler may have come
pub returns-clause-line : goal.returns-clause-line
returns-clause-line c =
    subst (λ f. IfSome c.line.result (HasLine f c.args.l)) c.self.view_is
    (some-with (λ line all. λ past deeds is there. all past deeds there is.stands is.plans (is.front deeds there)) c.line.result c.line.ensures.line)

pub returns-clause-nothing : goal.returns-clause-nothing
returns-clause-nothing c = λ none.
    subst (λ f. HasLine f c.args.l (no_line c.args.l)) c.self.view_is
    (λ past deeds is there. c.line.ensures.nothing none past deeds there is.stands is.plans (is.front deeds there))
