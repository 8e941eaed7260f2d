use Rattle.std.proofs.Common.{ap, ◌∙◌}
use Rattle.std.specs.Option.{unwrap_or}
use Rattle.a2l_text.specs.declared.role.Role.TheVariants.{XcpPlus}
use Rattle.a2l_text.proofs.role.plus_block.Goals as goal

-- the two tables are one
pub returns : goal.returns
returns c = c.unwrap_or.ensures ∙ ap (λ m. unwrap_or m XcpPlus) c.meaning.ensures
