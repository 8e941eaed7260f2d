use Rattle.std.proofs.Common.{List, subst, sym}
use Rattle.captured_session.specs.Lists.{ListOf}
use Rattle.captured_samples.specs.Slaves.{AllRead, Keeps}
use Rattle.captured_samples.specs.Standing.{read_anew, set_up_by}
use Rattle.captured_samples.proofs.ReadLemmas.{lists-marked}
use Rattle.captured_samples.proofs.slave_samples.SlaveSamples.meet_gap.Goals as goal

pub returns-clause-stands : goal.returns-clause-stands
returns-clause-stands g c start heard ls k =
    let read = read_anew start (set_up_by start heard) ls in
    let v = subst (Keeps start heard read) (sym c.self.view_is) (c.in_ok-read_lists.ensures.stands start heard ls k) in
    record {
      session = v.session;
      lists = c.mark_all.ensures read v.lists;
      read = λ stays. subst (λ (xs : List ListOf). AllRead start (set_up_by start heard) xs) (sym (lists-marked read.lists))
          (c.in_ok-read_lists.ensures.read start heard ls k);
    }
