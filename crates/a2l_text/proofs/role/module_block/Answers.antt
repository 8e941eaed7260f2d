use Rattle.std.proofs.Common.{ap, ◌∙◌}
use Rattle.std.specs.Option.{unwrap_or}
use Rattle.a2l_text.specs.declared.role.Role.TheVariants.{PassedOver}
use Rattle.a2l_text.proofs.role.module_block.Goals as goal

-- the two tables are one
pub returns : goal.returns
returns c = c.unwrap_or.ensures ∙ ap (λ m. unwrap_or m PassedOver) c.meaning.ensures
