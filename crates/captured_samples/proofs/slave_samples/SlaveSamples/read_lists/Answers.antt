use Rattle.std.proofs.Common.{ap, subst, sym, ◌∙◌}
use Rattle.captured_session.specs.SetUps.{Session, SetUp}
use Rattle.captured_samples.specs.Slaves.{Keeps, states_of}
use Rattle.captured_samples.specs.Standing.{ListsIn, read_anew, set_up_by}
use Rattle.captured_samples.proofs.ListsLemmas.{tells-nothing}
use Rattle.captured_samples.proofs.ReadLemmas.{all_read, read-same}
use Rattle.captured_samples.proofs.slave_samples.SlaveSamples.read_lists.Goals as goal

pub returns-then-not-self-clause-stands : goal.returns-then-not-self-clause-stands
returns-then-not-self-clause-stands g c start heard ls k =
    let v = subst (Keeps start heard ls) (sym c.self.view_is) k in
    subst (λ (m : ListsIn). Keeps start heard m c.args.self.now)
    (sym (read-same start (set_up_by start heard) ls (v.read c.if-not-self.true)).0) k

pub returns-then-not-self-clause-read : goal.returns-then-not-self-clause-read
returns-then-not-self-clause-read g c start heard ls k = all_read start (set_up_by start heard) ls

pub returns-then-not-self-clause-told : goal.returns-then-not-self-clause-told
returns-then-not-self-clause-told g c start heard ls k =
    let v = subst (Keeps start heard ls) (sym c.self.view_is) k in
    tells-nothing _ _ (read-same start (set_up_by start heard) ls (v.read c.if-not-self.true)).1

pub returns-clause-stands : goal.returns-clause-stands
returns-clause-stands g c start heard ls k =
    let v = subst (Keeps start heard ls) (sym c.self.view_is) k in
    record {
      session = v.session;
      lists = c.in_ok-read.ensures.lists start ls v.lists
          ∙ ap (λ (s : SetUp). states_of (read_anew start s ls)) (c.set_up.ensures ∙ ap (λ (s : Session). s.set_up) v.session);
      read = λ stays. all_read start (set_up_by start heard) ls;
    }

pub returns-clause-read : goal.returns-clause-read
returns-clause-read g c start heard ls k = all_read start (set_up_by start heard) ls
