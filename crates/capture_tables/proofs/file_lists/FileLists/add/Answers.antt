use Rattle.std.proofs.Common.{rules, ◌≡◌, ◌++◌, ◌∷◌, [], None, length, refl}
use Rattle.capture_tables.proofs.FileListLemmas.{adds_list}
use Rattle.capture_tables.specs.FileLists.{sample_size}
use Rattle.capture_tables.specs.declared.list_groups.ListGroups.{ListGroups}
use Rattle.mdf_groups.specs.Files.{AddsGroup, FileOf, group_name}
use Rattle.mdf_groups.specs.declared.front.Front.TheVariants as front
use Rattle.capture_tables.proofs.file_lists.FileLists.add.Goals as goal

-- the list has the numbers of the two groups
pub returns-clause-ok : goal.returns-clause-ok
returns-clause-ok g c =
    let old = c.args.self.now in
    let list = c.args.list.now in
    let name = group_name list.list list.mode.channel in
    let placed = c.in_ok-placed.placed.items in
    let between : FileOf = c.add_group.new.self.file in
    let last : FileOf = c.self-2.inside.file in
    let groups : ListGroups = record {
      timed = c.in_ok-timed.timed;
      untimed = c.in_ok-untimed.untimed;
      last = None;
    } in
    let first : AddsGroup old.file between name front.Seconds (sample_size list) placed =
    search rules in
    let then : AddsGroup between last name front.Nothing (sample_size list) placed =
    search rules in
    let is_timed : groups.timed ≡ length old.file.file.groups = search rules in
    let is_untimed : groups.untimed ≡ length between.file.groups = search rules in
    let more : c.push.new.self.items ≡ old.lists ++ groups ∷ [] = search rules in
    adds_list old (record { file = last; lists = c.push.new.self.items }) between list
    c.args.columns.now placed groups c.in_ok-placed.ensures first then is_timed is_untimed refl
    more
