-- the first check that fails is the answer, and what the call changes is read off the calls with this one
use Rattle.daq_store.specs.declared.command.Command.TheVariants.{StartStopDaqList}
use Rattle.std.proofs.Common.{◌≡◌, ◌∙◌, ◌≤◌, ap, sym, arith}
use Rattle.daq_store.specs.declared.reply.Reply.TheVariants.{Started}
use Rattle.xcp_base.specs.Forms.{first_pid_behind}
use Rattle.daq_store.specs.Shape.{list_count, odts_before}
use Rattle.daq_store.proofs.StandingLemmas.{count_stands, first_pid_stands}
use Rattle.daq_store.proofs.FaultLemmas.{answer_passes, refuses_code}
use Rattle.daq_store.proofs.EffectLemmas.{start_stop_put_stands}
use Rattle.daq_store.proofs.store.Store.start_stop.Goals as goal

pub returns-in_err-check_start_stop-clause-refused : goal.returns-in_err-check_start_stop-clause-refused
returns-in_err-check_start_stop-clause-refused c =
    refuses_code _ (StartStopDaqList c.args.mode c.args.list) _ _ c.from_residual.ensures.1 c.in_err-check_start_stop.ensures.fails

pub returns-clause-accepted : goal.returns-clause-accepted
returns-clause-accepted c = λ calls h.
    let here : c.args.list ≤ list_count calls = omega (arith, count_stands c.args.self.now calls h, c.in_ok-check_start_stop.ensures.there) in
    let pid : c.first_pid_at-first_pid.result ≡ first_pid_behind c.args.self.now.profile.form.id (odts_before calls c.args.list)
    = c.first_pid_at-first_pid.ensures.value ∙ first_pid_stands c.args.self.now calls c.args.list h here in (
      answer_passes c.args.self.now calls (StartStopDaqList c.args.mode c.args.list) h c.in_ok-check_start_stop.ensures.passes ∙ ap Started (sym pid),
      rw c.put_start_stop.ensures (start_stop_put_stands c.args.self.now calls _ _ h c.in_ok-check_start_stop.ensures.there),
    )
