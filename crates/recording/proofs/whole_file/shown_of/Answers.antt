use Rattle.recording.proofs.FileLemmas.{as_of_file, passed_fault}
use Rattle.recording.proofs.ShownLemmas.{of_writer}
use Rattle.recording.proofs.StopLemmas.{each_end, from_err}
use Rattle.recording.proofs.whole_file.shown_of.Goals as goal

-- a fault of the replies is one of the file
pub returns-in_err-begin_recording-clause-fault : goal.returns-in_err-begin_recording-clause-fault
returns-in_err-begin_recording-clause-fault g c =
    from_err c.from_residual.result _ _ c.from_residual.ensures.1
    (as_of_file c.args.view _ _ _ _ c.in_err-begin_recording.ensures.fault)

-- the replies were passed, and what is so behind them is so of the file
pub returns-clause-shown : goal.returns-clause-shown
returns-clause-shown g c =
    of_writer c.show_behind.result _ _ (λ w h. record { behind = _; first = _; last = c.show_behind.new.from.piece; passed = c.in_ok-begin_recording.ensures.passed; is = h })
    c.show_behind.ensures.shown

pub returns-clause-read : goal.returns-clause-read
returns-clause-read g c =
    each_end c.show_behind.result _ _ (λ h. record { behind = _; first = _; last = c.show_behind.new.from.piece; passed = c.in_ok-begin_recording.ensures.passed; is = h })
    c.show_behind.ensures.read

pub returns-clause-fault : goal.returns-clause-fault
returns-clause-fault g c =
    passed_fault _ c.args.recorded.now _ _ _ _ _ c.show_behind.result c.in_ok-begin_recording.ensures.passed c.show_behind.ensures.fault
