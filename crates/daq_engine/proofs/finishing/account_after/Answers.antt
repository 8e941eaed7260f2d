use Rattle.std.proofs.Common.{List, map, ap, sym, subst}
use Rattle.frame_writer.specs.Shown.{shown}
use Rattle.sampler.specs.State.{JoinedEnd, joined}
use Rattle.transmitter.specs.Written.{transmission}
use Rattle.daq_engine.specs.Headline.{AllStand, Headline}
use Rattle.daq_engine.proofs.ClosedLemmas.{has_closed}
use Rattle.daq_engine.proofs.finishing.account_after.Goals as goal

-- the ends show what they showed before
pub returns : goal.returns
returns g c start ps past taken stand =
    let ends = map (joined g.T.End.RingEnd) c.args.ends.items in
    let last = transmission g.O.Out g.T.TakeEnd c.drain_if.new.transmitter in
    let same = c.drain_if.ensures.ends_stay in
    let report = c.account.result.0 in
    has_closed c.args.drain c.drained_engines_leave_nothing.ensures start (transmission g.O.Out g.T.TakeEnd c.args.transmitter) last ps ends past report (shown g.O.Out c.account.result.1)
    c.drain_if.ensures.drained c.drain_if.ensures.more taken stand
    (λ qs now.
    let stood = subst (λ (es : List JoinedEnd). AllStand es past) (sym same) stand in
    subst (λ (es : List JoinedEnd). Headline start last es past report) same (c.account.ensures.headline start qs past now stood))
    (ap (shown g.O.Out) (sym c.account.ensures.out))
