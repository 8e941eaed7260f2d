use Rattle.std.proofs.Common.{length, sym, ◌∙◌, arith}
use Rattle.copy_plan.proofs.FrameLemmas.{lens_are, lens_short}
use Rattle.copy_plan.proofs.ReadyLemmas.{ready}
use Rattle.copy_plan.proofs.frames.sample_len.Goals as goal

pub returns-clause-value : goal.returns-clause-value
returns-clause-value c = λ l f n. c.frames_len_of.ensures ∙ sym (lens_are l c.args.conf.now f n)

-- a ready list has few packets, and they are short
pub returns-clause-limit : goal.returns-clause-limit
returns-clause-limit c = λ n is.
    let conf = c.args.conf.now in
    omega (arith, c.frames_len_of.ensures, c.odts.ensures.limit, lens_short conf (length conf.odts) (λ j here. omega (arith, (ready n conf is).short j here, (rw c.form.ensures.value at c.form.ensures.limits).1)))
