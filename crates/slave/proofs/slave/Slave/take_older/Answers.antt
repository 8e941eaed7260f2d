use Rattle.std.proofs.Common.{◌<◌, length, ap, subst, sym}
use Rattle.slave.specs.Standing.{SlaveState}
use Rattle.slave_channels.specs.Calls.{GivesBackOlder}
use Rattle.slave_channels.specs.Each.{IsOnlyAt}
use Rattle.slave.proofs.FinishingLemmas.{gives-older}
use Rattle.slave.proofs.slave.Slave.take_older.Goals as goal

pub returns : goal.returns
returns c = record {
  back =
      gives-older c.args.self.now _ c.take_older-part.new.self c.note.new.account c.args.c c.take_older-part.result c.self.view_is c.note.ensures
      (subst (λ xs. c.args.c < length xs) (sym (ap (λ s. s.channels) c.self.view_is)) c.requires.channel) c.take_older-part.ensures.back;
  there = subst (λ (s : SlaveState). IsOnlyAt (GivesBackOlder c.take_older-part.result) c.args.c s.channels c.take_older-part.new.self) c.self.view_is c.take_older-part.ensures.back;
  acts_stay = ap (λ s. s.acts) c.self.view_is;
  next_stays = ap (λ s. s.next) c.self.view_is;
}
