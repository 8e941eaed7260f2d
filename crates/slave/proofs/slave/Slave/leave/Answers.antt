use Rattle.std.proofs.Common.{ap}
use Rattle.slave.proofs.DiscardingLemmas.{told-late}
use Rattle.slave.proofs.slave.Slave.leave.Goals as goal

-- the part isn't kept
pub returns-then-not-unsent : goal.returns-then-not-unsent
returns-then-not-unsent c = record {
  leaves =
      told-late c.args.origin c.in-Sample.number c.in-Sample.c c.in-Sample.list c.in-Some.l c.args.self.now
      (record {
        session = c.self.inside.session;
        outbox = c.self.inside.outbox;
        channels = c.self.inside.channels;
        plan = c.self.inside.plan;
        number = c.self.inside.number;
        account = c.self.inside.account;
        acts = c.self.inside.acts;
        next = c.self.inside.next;
      })
      (record {
        session = c.self.inside.session;
        outbox = c.self.inside.outbox;
        channels = c.unsent.new.self;
        plan = c.self.inside.plan;
        number = c.self.inside.number;
        account = c.unsent-then-not-unsent.new.self;
        acts = c.self.inside.acts;
        next = c.self.inside.next;
      })
      c.in-Sample.is c.self.view_is c.in-Some.ensures.value (c.unsent.ensures.none c.if-not-unsent.true)
      (ap (λ x. record { session = c.self.inside.session; outbox = c.self.inside.outbox; channels = x; plan = c.self.inside.plan; number = c.self.inside.number; account = c.unsent-then-not-unsent.new.self; acts = c.self.inside.acts; next = c.self.inside.next }) (c.unsent.ensures.stays c.if-not-unsent.true))
      c.unsent-then-not-unsent.ensures.unsent;
}
