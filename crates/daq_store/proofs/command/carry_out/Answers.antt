use Rattle.std.proofs.Common.{◌≡◌, subst}
use Rattle.daq_store.specs.declared.refusal.Refusal.{Refusal}
use Rattle.daq_store.specs.declared.refusal.Refusal.TheVariants.{Code}
use Rattle.daq_store.specs.Standing.{Refuses}
use Rattle.daq_store.proofs.ReplyLemmas.{accepted_is_carried, refused_is_carried}
use Rattle.daq_store.proofs.command.carry_out.Goals as goal

-- the store's call is the command, whether it was accepted
pub returns-in-Ok-clause-ok : goal.returns-in-Ok-clause-ok
returns-in-Ok-clause-ok c =
    accepted_is_carried c.args.store.now c.call.new.store c.args.command c.in-Ok.reply c.in-Ok.ensures.accepted

-- or refused
pub returns-in-Err-Code-clause-ok : goal.returns-in-Err-Code-clause-ok
returns-in-Err-Code-clause-ok c =
    let is : c.in-Err-Code.field-0 ≡ Code c.in-Err-Code.code = cc in
    let P : Refusal → Type 0 = λ r. Refuses c.args.store.now c.args.command r in
    refused_is_carried c.args.store.now c.call.new.store c.args.command c.in-Err-Code.code
    (subst P is c.in-Err-Code.ensures.refused) c.in-Err-Code.ensures.unchanged
