use Rattle.std.proofs.Common.{◌∙◌, subst, sym}
use Rattle.slave_lending.specs.Lends.{LendsTask}
use Rattle.c_slave.proofs.OnLemmas.{same-task}
use Rattle.c_slave.proofs.lending.lend.Goals as goal

-- the task that comes back is the one that went out
pub take_back-requires : goal.take_back-requires
take_back-requires c = (
  c.args.slave.now,
  subst (λ t. LendsTask c.args.slave.now c.lend.new.self c.args.c t) (same-task (sym c.in-Err-put_in.ensures.back ∙ c.in-Task.is)) c.in-Ok.ensures.ok,
)

pub returns-in-Task : goal.returns-in-Task
returns-in-Task c =
    let lends = subst (λ t. LendsTask c.args.slave.now c.lend.new.self c.args.c t) (same-task (sym c.in-Err-put_in.ensures.back ∙ c.in-Task.is)) c.in-Ok.ensures.ok in
    ((_, lends.here), c.take_back.ensures _ lends, c.in-Err-put_in.ensures.err ∙ c.requires.empty)
