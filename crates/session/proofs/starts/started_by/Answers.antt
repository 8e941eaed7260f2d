use Rattle.std.proofs.Common.{◌∙◌, sym}
use Rattle.session.proofs.ListSetLemmas.{zero_has_none}
use Rattle.session.proofs.StartLemmas.{other_call, starts_no_list}
use Rattle.session.proofs.starts.started_by.Goals as goal

-- no other command starts a list
pub returns-in_default : goal.returns-in_default
returns-in_default c = λ calls h l inside.
    zero_has_none c.none.result l c.none.ensures
    ∙ sym (other_call c.args.store.now.profile calls c.args.command l (starts_no_list c.args.command c.in_default.not-StartStopDaqList c.in_default.not-StartStopSynch))
