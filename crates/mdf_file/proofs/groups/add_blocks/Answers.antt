use Rattle.std.proofs.Common.{◌++◌}
use Rattle.mdf_file.proofs.AddLemmas.{adds_written, if_ok, on_if}
use Rattle.mdf_file.proofs.GroupLemmas.{group_blocks}
use Rattle.mdf_file.proofs.groups.add_blocks.Goals as goal

-- both blocks were appended
pub returns-clause-aligned : goal.returns-clause-aligned
returns-clause-aligned c =
    on_if c.add_outer.result (λ link block. block.aligned) c.add_outer.ensures

pub returns-clause-told : goal.returns-clause-told
returns-clause-told c =
    let base = c.args.base in
    let old = c.args.out.now.items in
    let mid = c.add_inner.new.out.items in
    if_ok c.add_outer.result
    (λ link block place before name channels all base_is long told. group_blocks place link
    (before ++ old) (before ++ mid) (before ++ c.add_outer.new.out.items) (record {
      next = c.args.next;
      channel_group = c.in_ok-group.group;
      records = c.args.records;
      comment = 0;
    }) c.args.inner.now name channels all long (
      c.in_ok-group.ensures.0,
      adds_written place base before old mid _ base_is c.in_ok-group.ensures.1,
    )
    (adds_written place base before mid c.add_outer.new.out.items _ base_is block) told)
    c.add_outer.ensures
