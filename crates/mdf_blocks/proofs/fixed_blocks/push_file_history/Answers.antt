use Rattle.std.proofs.Common.{codes, refl}
use Rattle.mdf_blocks.specs.Tables.{fh_body, fh_links}
use Rattle.mdf_blocks.proofs.BlockLemmas.{OnOk-block}
use Rattle.mdf_blocks.proofs.fixed_blocks.push_file_history.Goals as goal

-- its links and its data section are those of the table
pub returns-clause-ok : goal.returns-clause-ok
returns-clause-ok c =
    let v = c.args.history.now in
    OnOk-block c.push_block.result c.push_block.new.out.items c.args.out.now.items
    (codes "##FH") (fh_links v) c.history_body.result (fh_links v) (fh_body v)
    refl c.history_body.ensures c.push_block.ensures.ok
