use Rattle.std.proofs.Common.{◌<◌, ap, length, subst, sym}
use Rattle.slave.proofs.GatheringLemmas.{looks-beside}
use Rattle.slave.proofs.slave.Slave.look_beside.Goals as goal

pub returns-clause-collects : goal.returns-clause-collects
returns-clause-collects c =
    looks-beside c.args.self.now _ c.beside.new.self c.args.c c.args.end.now c.self.view_is
    (subst (λ xs. c.args.c < length xs) (sym (ap (λ s. s.channels) c.self.view_is)) c.requires.channel) c.beside.ensures.beside
