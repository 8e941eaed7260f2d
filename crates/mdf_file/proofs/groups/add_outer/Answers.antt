use Rattle.mdf_file.proofs.GroupLemmas.{adds_outer}
use Rattle.mdf_file.proofs.groups.add_outer.Goals as goal

-- the block was appended
pub returns : goal.returns
returns c =
    adds_outer c.args.base c.in_ok-place.place c.args.out.now.items
    c.push_data_group.new.out.items c.args.group c.requires.some c.in_ok-place.ensures
    c.requires.aligned c.read_outer.ensures.links c.in_ok-push_data_group.ensures.ok
