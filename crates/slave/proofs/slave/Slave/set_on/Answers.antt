use Rattle.std.proofs.Common.{◌&&◌, ap, subst, sym, ◌∙◌}
use Rattle.xcp_base.specs.Lists.{has_list}
use Rattle.session.specs.Standing.{SessionStandsAfter}
use Rattle.session.specs.Starts.{is_on, shows_on}
use Rattle.slave.proofs.PreparingLemmas.{some-set}
use Rattle.slave.proofs.slave.Slave.set_on.Goals as goal

pub returns : goal.returns
returns c =
    let view = ap (λ s. s.session) c.self.view_is in
    record {
      set = record {
        is = λ past stands l below.
            c.intersection-set.ensures l
            ∙ ap (λ b. has_list c.args.lists l && b) (c.lists_on.ensures.value past (subst (λ x. SessionStandsAfter x past) (sym view) stands) l below ∙ ap (λ x. is_on x.profile past c.args.c l) view);
        shown = λ l below. c.intersection-set.ensures l ∙ ap (λ b. has_list c.args.lists l && b) (c.lists_on.ensures.shown l below ∙ ap (λ x. shows_on x.store c.args.c l) view);
        some = some-set c.intersection-set.result c.is_empty.result c.is_empty.ensures.zero c.is_empty.ensures.some;
      };
    }
