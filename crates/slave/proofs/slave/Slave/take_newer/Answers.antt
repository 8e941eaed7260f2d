use Rattle.std.proofs.Common.{◌<◌, length, ap, subst, sym}
use Rattle.slave.specs.Inner.{IsOver}
use Rattle.slave.specs.Standing.{SlaveState}
use Rattle.slave.specs.Standing.{SlaveState}
use Rattle.slave_channels.specs.Calls.{GivesBackNewer}
use Rattle.slave_channels.specs.Each.{IsOnlyAt}
use Rattle.slave.proofs.FinishingLemmas.{gives-newer}
use Rattle.slave.proofs.slave.Slave.take_newer.Goals as goal

pub returns : goal.returns
returns c = record {
  back =
      gives-newer c.args.self.now _ c.take_newer-part.new.self c.note.new.account c.args.c c.take_newer-part.result c.self.view_is c.note.ensures
      (subst (λ (s : SlaveState). IsOver s c.args.c) (sym c.self.view_is) c.requires.over)
      (subst (λ xs. c.args.c < length xs) (sym (ap (λ s. s.channels) c.self.view_is)) c.requires.channel) c.take_newer-part.ensures.back;
  there = subst (λ (s : SlaveState). IsOnlyAt (GivesBackNewer c.take_newer-part.result) c.args.c s.channels c.take_newer-part.new.self) c.self.view_is c.take_newer-part.ensures.back;
  acts_stay = ap (λ s. s.acts) c.self.view_is;
  next_stays = ap (λ s. s.next) c.self.view_is;
}
