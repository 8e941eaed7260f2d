use Rattle.std.proofs.Common.{sym, rules, arith}
use Rattle.run_file.proofs.WordLemmas.{no_number}
use Rattle.run_file.proofs.wording.number_of.Goals as goal

pub returns-in_default-clause-value : goal.returns-in_default-clause-value
returns-in_default-clause-value c = sym (no_number c.args.most c.args.word.now c.in_default.field-0 c.in_default.ensures.value.0 (search (rules, c.is_plain.ensures)) (omega arith))
