use Rattle.std.proofs.Common.{◌∙◌, ap}
use Rattle.slave.proofs.CollectingLemmas.{collects-more}
use Rattle.slave.proofs.GatheringLemmas.{gathers, ring-at}
use Rattle.slave.proofs.slave.Slave.gather.Goals as goal

-- it is on that line still
pub look_beside-requires-2-clause-one_line : goal.look_beside-requires-2-clause-one_line
look_beside-requires-2-clause-one_line c =
    let one = c.look_beside.ensures.collects in
    let two = c.collect_at.ensures.collects in
    ring-at c.args.self.now.channels c.collect_at.new.self.channels c.args.c c.args.end.now.ring _ (two.goes.0 ∙ one.goes.0) (two.as_many ∙ one.as_many)
    (ap (λ e. e.ring) c.look_beside.ensures.end_stays) c.requires.one_line

pub returns-clause-collects : goal.returns-clause-collects
returns-clause-collects c =
    collects-more 2 0 c.args.self.now c.collect_at.new.self c.look_beside-2.new.self
    (collects-more 0 2 c.args.self.now c.look_beside.new.self c.collect_at.new.self c.look_beside.ensures.collects c.collect_at.ensures.collects) c.look_beside-2.ensures.collects

pub returns-clause-gathers : goal.returns-clause-gathers
returns-clause-gathers c =
    gathers c.args.c c.args.end.now c.look_beside.new.end c.args.self.now c.look_beside.new.self c.collect_at.new.self c.look_beside-2.new.self c.look_beside.ensures.end_stays
    c.look_beside.ensures.beside c.look_beside.ensures.collects.session c.collect_at.ensures.all c.collect_at.ensures.collects.as_many c.look_beside-2.ensures.beside
