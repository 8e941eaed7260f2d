use Rattle.captured_session.proofs.ExchangeLemmas.{each_command_once}
use Rattle.captured_session.proofs.laws.each_command_once.Goals as goal

pub returns : goal.returns
returns c = each_command_once
