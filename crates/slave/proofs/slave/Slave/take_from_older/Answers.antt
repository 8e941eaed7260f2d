use Rattle.std.proofs.Common.{◌≡◌, ap, subst}
use Rattle.std.specs.Prelude.{Some, slice_get}
use Rattle.std.specs.Option.{is_some}
use Rattle.slave_channels.specs.Channels.{ChannelState}
use Rattle.slave.proofs.OlderLemmas.{none-older, none-there}
use Rattle.slave.proofs.slave.Slave.take_from_older.Goals as goal

-- nothing is to be let go
pub returns-else-has_older-clause-goes : goal.returns-else-has_older-clause-goes
returns-else-has_older-clause-goes c =
    let tells = subst (λ xs. (x : ChannelState) → slice_get xs c.args.c ≡ Some x → c.has_older.result ≡ is_some x.older) (ap (λ s. s.channels) c.self.view_is) c.has_older.ensures in
    none-there c.args.self.now c.args.c (none-older c.args.self.now c.args.c c.has_older.result c.requires.channel tells c.if-has_older.false)
