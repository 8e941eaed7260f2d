use Rattle.std.proofs.Common.{◌++◌, ◌∙◌, ap, map, string_bytes}
use Rattle.mdf_file.specs.Describing.{told_channel}
use Rattle.mdf_file.proofs.AddLemmas.{adds_written, if_ok}
use Rattle.mdf_file.proofs.StreamLemmas.{group_behind}
use Rattle.mdf_file.proofs.groups.add_group.Goals as goal

-- the blocks stand behind the records, the name and the channels
pub returns-clause-told : goal.returns-clause-told
returns-clause-told c =
    let it = c.args.group.now in
    let base = c.args.base in
    let old = c.args.out.now.items in
    let a = c.add_list.new.out.items in
    let b = c.add_text.new.out.items in
    let e = c.add_channels.new.out.items in
    if_ok c.add_blocks.result
    (λ link blocks place before records base_is long held. group_behind place link
    c.in_ok-name.name c.in_ok-first_channel.first_channel c.in_ok-records.records c.args.next
    it.record_bytes (before ++ old) (before ++ a) (before ++ b) (before ++ e)
    (before ++ c.add_blocks.new.out.items) it.blocks.items _ (string_bytes it.name) _
    (map told_channel it.channels.items) _ records c.deref-3.ensures
    (ap (map told_channel) c.deref-4.ensures.value) c.deref-2.ensures.value held
    (λ listed. c.in_ok-records.ensures.told place before records base_is listed)
    (adds_written place base before a b _ base_is c.in_ok-name.ensures)
    (adds_written place base before b e _ base_is c.in_ok-first_channel.ensures)
    (blocks place before _ _ records base_is (long ∙ c.in_ok-cycles.ensures)))
    c.add_blocks.ensures.told
