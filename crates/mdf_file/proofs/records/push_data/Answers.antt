use Rattle.std.proofs.Common.{refl}
use Rattle.mdf_blocks.proofs.BlockLemmas.{on_ok}
use Rattle.mdf_file.proofs.RecordLemmas.{data_written}
use Rattle.mdf_file.proofs.records.push_data.Goals as goal

-- the head, the records, and the fill
pub returns : goal.returns
returns c =
    on_ok c.push_fill.result
    (data_written c.args.out.now.items c.data_head.result c.args.records.now
    c.extend_from_slice.new.self.items c.extend_from_slice-2.new.self.items
    c.push_fill.new.out.items (c.data_head.ensures c.args.records.now refl)
    c.in_ok-extend_from_slice.ensures.items c.in_ok-extend_from_slice-2.ensures.items)
    c.push_fill.ensures
