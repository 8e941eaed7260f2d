use Rattle.std.proofs.Common.{List, subst, sym}
use Rattle.captured_session.specs.Lists.{ListOf}
use Rattle.captured_samples.specs.Slaves.{AllRead, Keeps}
use Rattle.captured_samples.specs.Standing.{begins_anew, hands, read_anew, set_up_by}
use Rattle.captured_samples.proofs.ListsLemmas.{tells-both}
use Rattle.captured_samples.proofs.ReadLemmas.{lists-given}
use Rattle.captured_samples.proofs.slave_samples.SlaveSamples.take.Goals as goal

pub returns-in-Ok-take-clause-stands : goal.returns-in-Ok-take-clause-stands
returns-in-Ok-take-clause-stands g c start heard ls k =
    let read = read_anew start (set_up_by start heard) ls in
    let v = subst (Keeps start heard read) (sym c.self.view_is) (c.in-Ok.ensures.stands start heard ls k) in
    record {
      session = v.session;
      lists = c.in-Ok-take.ensures.lists read v.lists;
      read = λ stays. subst (λ (xs : List ListOf). AllRead start (set_up_by start heard) xs) (sym (lists-given c.args.packet.now read.lists))
          (c.in-Ok.ensures.read start heard ls k);
    }

pub returns-in-Ok-take-clause-told : goal.returns-in-Ok-take-clause-told
returns-in-Ok-take-clause-told g c start heard ls k =
    let read = read_anew start (set_up_by start heard) ls in
    let v = subst (Keeps start heard read) (sym c.self.view_is) (c.in-Ok.ensures.stands start heard ls k) in
    tells-both (g.S.SampleSink.told c.args.sink.now) (g.S.SampleSink.told c.read_lists.new.sink) (g.S.SampleSink.told c.take.new.sink)
    (begins_anew start (set_up_by start heard) ls) (hands c.args.packet.now read.lists) (c.in-Ok.ensures.told start heard ls k) (c.in-Ok-take.ensures.told read v.lists)
