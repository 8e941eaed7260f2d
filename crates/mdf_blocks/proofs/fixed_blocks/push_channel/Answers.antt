use Rattle.std.proofs.Common.{codes}
use Rattle.mdf_blocks.specs.Tables.{cn_body, cn_links}
use Rattle.mdf_blocks.proofs.BlockLemmas.{OnOk-block}
use Rattle.mdf_blocks.proofs.fixed_blocks.push_channel.Goals as goal

-- its links and its data section are those of the table
pub returns-clause-ok : goal.returns-clause-ok
returns-clause-ok c =
    let v = c.args.channel.now in
    OnOk-block c.push_block.result c.push_block.new.out.items c.args.out.now.items
    (codes "##CN") c.channel_links.result c.channel_body.result (cn_links v) (cn_body v)
    c.channel_links.ensures c.channel_body.ensures c.push_block.ensures.ok
