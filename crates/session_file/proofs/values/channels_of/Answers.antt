use Rattle.std.proofs.Common.{sym}
use Rattle.session_file.proofs.ItemLemmas.{count_of-items}
use Rattle.session_file.proofs.values.channels_of.Goals as goal

pub returns : goal.returns
returns c = sym (count_of-items c.args.values.now.events.now)
