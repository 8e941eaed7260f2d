use Rattle.std.proofs.Common.{◌≡◌, refl, sym, ap, ◌∙◌, subst, arith}
use Rattle.slave_outbox.specs.Deeds.{Unsent}
use Rattle.slave_outbox.specs.Intakes.{GoesOn}
use Rattle.slave_channels.specs.Channels.{ShareState}
use Rattle.slave_channels.proofs.part_discarding.tell.Goals as goal

-- the part of the measurement was told
pub returns-clause-told : goal.returns-clause-told
returns-clause-told c = λ told.
    let was = c.share.inside in
    let number : was.number ≡ c.args.number = omega (arith, c.if-share-number.false) in
    let view = c.share.view_is in
    record {
      share = c.in-Some.share;
      next = record { number = was.number; opened = was.opened; intake = c.unsent.new.self };
      before_is = c.in-Some.is;
      after_is = refl;
      number = ap (λ (s : ShareState). s.number) (sym view) ∙ number;
      number_stays = number;
      opened = ap (λ (s : ShareState). s.opened) view;
      goes_on = subst (λ (s : ShareState). GoesOn s.intake c.unsent.new.self (Unsent c.args.l)) view c.unsent.ensures.goes_on;
    }
