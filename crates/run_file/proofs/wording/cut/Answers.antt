use Rattle.run_file.proofs.WordLemmas.{words_at_cut}
use Rattle.run_file.proofs.wording.cut.Goals as goal

pub returns : goal.returns
returns c = words_at_cut c.args.text.now c.split_once.result c.split_once.ensures.cases
