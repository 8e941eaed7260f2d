use Rattle.session.proofs.WriteLemmas.{shows_what_is_written}
use Rattle.session.proofs.laws.an_entry_is_read_as_written.Goals as goal

pub returns : goal.returns
returns c = shows_what_is_written
