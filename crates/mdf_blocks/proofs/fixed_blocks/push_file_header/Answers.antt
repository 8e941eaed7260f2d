use Rattle.std.proofs.Common.{codes}
use Rattle.mdf_blocks.specs.Tables.{hd_body, hd_links}
use Rattle.mdf_blocks.proofs.BlockLemmas.{OnOk-block}
use Rattle.mdf_blocks.proofs.fixed_blocks.push_file_header.Goals as goal

-- its links and its data section are those of the table
pub returns-clause-ok : goal.returns-clause-ok
returns-clause-ok c =
    let v = c.args.header.now in
    OnOk-block c.push_block.result c.push_block.new.out.items c.args.out.now.items
    (codes "##HD") c.header_links.result c.header_body.result (hd_links v) (hd_body v)
    c.header_links.ensures c.header_body.ensures c.push_block.ensures.ok
