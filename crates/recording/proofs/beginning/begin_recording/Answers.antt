use Rattle.recording.proofs.FileLemmas.{of_replies, passed_of}
use Rattle.recording.proofs.StopLemmas.{from_err}
use Rattle.recording.proofs.beginning.begin_recording.Goals as goal

-- the replies weren't passed
pub returns-in_err-piece-clause-fault : goal.returns-in_err-piece-clause-fault
returns-in_err-piece-clause-fault g c =
    from_err c.from_residual.result _ _ c.from_residual.ensures.1
    (of_replies c.args.recorded.now _ c.pass_replies.result _ c.in_err-piece.was c.pass_replies.ensures.fault c.pass_replies.ensures.other c.pass_replies.ensures.within)

-- as many frames were passed as the set-up has packets
pub returns-clause-passed : goal.returns-clause-passed
returns-clause-passed g c =
    passed_of c.args.recorded.now _ _ c.in_ok-piece.piece _ _ c.setup-frames.ensures.value c.in_ok-piece.ensures.begins c.in_ok-piece.ensures.place
