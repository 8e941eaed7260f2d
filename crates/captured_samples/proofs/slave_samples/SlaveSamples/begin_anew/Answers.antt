use Rattle.std.proofs.Common.{List, refl, subst, sym}
use Rattle.captured_session.specs.Lists.{ListOf}
use Rattle.captured_samples.specs.Slaves.{AllRead, StandsAfter}
use Rattle.captured_samples.specs.Standing.{lists_of, set_up_of}
use Rattle.captured_samples.proofs.ReadLemmas.{lists-broken}
use Rattle.captured_samples.proofs.slave_samples.SlaveSamples.begin_anew.Goals as goal

pub returns : goal.returns
returns c start h s =
    let v = subst (StandsAfter start h) (sym c.self.view_is) s in
    record {
      keeps = record {
        session = v.keeps.session;
        lists = c.break_all.ensures (lists_of start h) v.keeps.lists;
        read = λ stays. subst (λ (ls : List ListOf). AllRead start (set_up_of start h) ls) (sym (lists-broken (lists_of start h).lists)) (v.keeps.read stays);
      };
      counter = refl;
      command = v.command;
    }
