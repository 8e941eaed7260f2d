use Rattle.std.proofs.Common.{arith}
use Rattle.mdf_file.proofs.RecordLemmas.{adds_list, is_empty-length, list_aligned, no_list}
use Rattle.mdf_file.proofs.records.add_list.Goals as goal

-- there are no records
pub returns-then-is_empty-clause-told : goal.returns-then-is_empty-clause-told
returns-then-is_empty-clause-told c place before records base_is listed =
    no_list place _ c.args.blocks.now records
    (is_empty-length c.args.blocks.now _ c.is_empty.ensures c.if-is_empty.true) listed

-- the list was appended
pub returns-clause-told : goal.returns-clause-told
returns-clause-told c place before records base_is listed =
    adds_list place c.args.base c.in_ok-place.place before c.args.out.now.items
    c.push_data_list.new.out.items c.args.blocks.now records base_is c.requires.some
    c.in_ok-place.ensures c.requires.aligned (omega arith) c.requires.small
    c.in_ok-push_data_list.ensures.ok listed

pub returns-clause-aligned : goal.returns-clause-aligned
returns-clause-aligned c =
    list_aligned c.args.base c.args.out.now.items c.push_data_list.new.out.items
    c.args.blocks.now c.requires.aligned c.in_ok-push_data_list.ensures.ok
