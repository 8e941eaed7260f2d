use Rattle.mdf_file.proofs.GroupLemmas.{adds_inner}
use Rattle.mdf_file.proofs.groups.add_inner.Goals as goal

-- the block was appended
pub returns : goal.returns
returns c = (
  c.read_inner.ensures.fits,
  adds_inner c.args.base _ c.args.out.now.items c.push_channel_group.new.out.items c.args.inner
      c.in_ok-place.ensures c.requires.aligned c.read_inner.ensures.links
      c.in_ok-push_channel_group.ensures.ok,
)
