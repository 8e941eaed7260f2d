use Rattle.std.proofs.Common.{◌++◌, arith}
use Rattle.mdf_file.proofs.StreamLemmas.{all_told, none_yet, group_more}
use Rattle.mdf_file.proofs.groups.add_groups.Goals as goal

-- one group more, in front of those that follow it
pub loop-behind-preserved : goal.loop-behind-preserved
loop-behind-preserved c = (
  c.in_ok-next.ensures.aligned,
  λ place before told base_is are held. group_more place _ c.loop-behind.next
      (before ++ c.args.out.now.items) (before ++ c.loop-behind.out.items)
      (before ++ c.add_group.new.out.items) c.args.groups.now told
      c.loop-behind.behind c.index-groups-groups.result (omega arith) c.index-groups-groups.is
      are held (c.loop-behind.invariant.1 place before told base_is are held)
      (λ records long listed. c.in_ok-next.ensures.told place before records base_is long
      listed),
)

-- no group is told yet
pub loop-behind-init : goal.loop-behind-init
loop-behind-init c = (
  c.requires.aligned,
  λ place before told base_is are held. none_yet place (before ++ c.args.out.now.items)
      c.args.groups.now told are held,
)

-- all groups are told
pub returns-clause-told : goal.returns-clause-told
returns-clause-told c place before told base_is are held =
    all_told place c.loop-behind.next c.loop-behind.behind (before ++ c.args.out.now.items)
    (before ++ c.loop-behind.out.items) c.args.groups.now told (omega arith)
    (c.loop-behind.invariant.1 place before told base_is are held)
