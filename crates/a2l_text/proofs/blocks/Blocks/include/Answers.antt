use Rattle.std.proofs.Common.{sym, ◌∙◌}
use Rattle.a2l_text.specs.States.{state_of}
use Rattle.a2l_text.proofs.StepLemmas.{include_step, included}
use Rattle.a2l_text.proofs.blocks.Blocks.include.Goals as goal

-- nothing but the word is read
pub returns-then-may_include-clause-ok : goal.returns-then-may_include-clause-ok
returns-then-may_include-clause-ok c = include_step (state_of c.args.self.now) (sym c.may_include.ensures ∙ c.if-may_include.true)

pub returns-clause-err : goal.returns-clause-err
returns-clause-err c = λ words a. included _ _ _ words (sym c.may_include.ensures ∙ c.if-may_include.false)
