use Rattle.mdf_file.proofs.AddLemmas.{any_err}
use Rattle.mdf_file.proofs.StandingLemmas.{push_same, push_seen, push_stands}
use Rattle.mdf_file.proofs.open_file.OpenFile.keep.Goals as goal

-- nothing was noted
pub returns-in_err-push-clause-err : goal.returns-in_err-push-clause-err
returns-in_err-push-clause-err g c =
    any_err c.from_residual.result
    (push_same c.args.number c.args.self.now.groups.items c.index_mut.result.now c.push.new.self
    c.index_mut.ensures.value c.push.ensures.told c.in_err-push.ensures.err)

-- it waits behind the others
pub returns-clause-standing : goal.returns-clause-standing
returns-clause-standing g c =
    push_stands (g.O.MdfOut.known c.args.self.now.out) c.args.self.now.place c.args.number
    c.args.self.now.groups.items c.index_mut.result.now c.push.new.self c.args.record.now
    c.requires.within c.index_mut.ensures.value c.requires.some c.push.ensures.told
    c.in_ok-push.ensures.buffer c.in_ok-push.ensures.records c.requires.standing

pub returns-clause-seen : goal.returns-clause-seen
returns-clause-seen g c =
    push_seen c.args.number c.args.self.now.groups.items c.index_mut.result.now c.push.new.self
    c.args.record.now c.requires.within c.index_mut.ensures.value c.push.ensures.told
    c.in_ok-push.ensures.records
