use Rattle.std.proofs.Common.{rules}
use Rattle.xcpread.proofs.ShownLemmas.{given_back}
use Rattle.xcpread.proofs.whole_program.show_file.Goals as goal

-- the status is 0 only if the writer is given back
pub returns-in-Ok-clause-all : goal.returns-in-Ok-clause-all
returns-in-Ok-clause-all g c is = given_back c.in-Ok.shown _ (search rules) c.in-Ok.ensures.shown
