use Rattle.std.proofs.Common.{codes}
use Rattle.mdf_blocks.specs.Tables.{cg_body, cg_links}
use Rattle.mdf_blocks.proofs.BlockLemmas.{OnOk-block}
use Rattle.mdf_blocks.proofs.fixed_blocks.push_channel_group.Goals as goal

-- its links and its data section are those of the table
pub returns-clause-ok : goal.returns-clause-ok
returns-clause-ok c =
    let v = c.args.group.now in
    OnOk-block c.push_block.result c.push_block.new.out.items c.args.out.now.items
    (codes "##CG") c.group_links.result c.group_body.result (cg_links v) (cg_body v)
    c.group_links.ensures c.group_body.ensures c.push_block.ensures.ok
