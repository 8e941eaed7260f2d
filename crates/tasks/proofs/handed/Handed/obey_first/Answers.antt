use Rattle.std.proofs.Common.{subst}
use Rattle.tasks.specs.Tasks.{HeldState, ObeysNext}
use Rattle.tasks.proofs.WayLemmas.{polled-obeys}
use Rattle.tasks.proofs.handed.Handed.obey_first.Goals as goal

pub returns : goal.returns
returns g c =
    subst (λ (h : HeldState _). ObeysNext g.S.SendEnd g.S.End.RingEnd h.sampler c.poll_control.new.self h.orders c.poll_control.new.ctl c.poll_control.result) c.self.view_is
    (polled-obeys g.S.SendEnd g.S.End.RingEnd _ _ _ _ _ c.poll_control.ensures.polled c.poll_control.ensures.orders
    c.poll_control.ensures.set_up_stays c.poll_control.ensures.control_ring_stays)
