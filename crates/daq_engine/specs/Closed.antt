-- How an engine was closed: after a drain, or without one.
use Rattle.std.specs.Prelude.{◌≡◌, ℕ, ◌<◌, ◌++◌, Bool, true, false, List, Result}
use Rattle.xcp_base.specs.declared.item.Item.{Item}
use Rattle.xcp_base.specs.declared.limits.TheConstants.{MAX_TAKEN}
use Rattle.frame_writer.specs.Shown.{OutState}
use Rattle.frame_writer.specs.Writing.{WriterState}
use Rattle.sampler.specs.State.{JoinedEnd, sent_by}
use Rattle.transmitter.specs.Rounds.{Drains}
use Rattle.transmitter.specs.Written.{HasTaken, TransmitterState}
use Rattle.transmitter.specs.declared.faults.PumpFault.{PumpFault}
use Rattle.sampler.specs.Past.{Past}
use Rattle.daq_engine.specs.Drained.{LeavesNothing}
use Rattle.daq_engine.specs.Headline.{AllStand, Headline}
use Rattle.daq_engine.specs.declared.report.Report.{Report}

-- transmitter a was drained of what was sent, where that was wanted, and answered something; else
-- it is as it was
abbrev pub WasDrained : Bool → List (List Item) → TransmitterState → TransmitterState → Type 0
WasDrained true sent a b = (answer : Result (Unit {0}) PumpFault) × Drains sent a b answer
WasDrained false sent a b = b ≡ a

-- an engine, whose transmitter a had taken these items, was closed with this report and this
-- writer: the headline holds of the transmitter as it was at last. After a drain in which the
-- writer didn't fail nothing is left, short of MAX_TAKEN items
pub record HasClosed (drain : Bool) (start : WriterState) (ps : List (ℕ × Item))
    (a : TransmitterState) (ends : List JoinedEnd) (past : ℕ → Past) (report : Report)
    (out : OutState)
    : Type 0 where
  -- the transmitter as it was at last: fixed by `drained` and `written`
  pub last : TransmitterState
  pub drained : WasDrained drain (sent_by ends) a last
  -- fixed by `taken`: what was received, in the order of the frames
  pub more : List (ℕ × Item)
  pub taken : HasTaken start last (ps ++ more)
  pub headline : Headline start last ends past report
  pub written : last.writer.out ≡ out
  pub nothing_left :
      drain ≡ true → report.failed ≡ false → last.taken < MAX_TAKEN
      → LeavesNothing ends past report headline.frames

-- and so it was whatever the transmitter had taken, and the ends stand after
abbrev pub ClosesWith :
    Bool → TransmitterState → List JoinedEnd → Report → OutState → Type 0
ClosesWith drain t ends report out =
    (start : WriterState) (ps : List (ℕ × Item)) (past : ℕ → Past) → HasTaken start t ps
    → AllStand ends past → HasClosed drain start ps t ends past report out
