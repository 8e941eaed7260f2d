use Rattle.std.proofs.Common.{rules, ◌≡◌, List, [], ◌∷◌, refl, subst}
use mathlib.Core.List.{IsPrefix}
use Rattle.channel_ring.specs.declared.order.Order.{Order}
use Rattle.sampler.proofs.sampler.Sampler.poll_control.Goals as goal

-- where nothing is known now, nothing was
none_known : (was : List Order) → IsPrefix was [] → was ≡ []
none_known [] p = refl
none_known (order ∷ more) p = cc (p.1)

pub returns-in-None-clause-polled : goal.returns-in-None-clause-polled
returns-in-None-clause-polled g c =
    let none : c.front.new.self.known ≡ [] = search rules in
    record { sampler = refl; was_none = none_known c.args.ctl.now.known (subst (IsPrefix c.args.ctl.now.known) none c.front.ensures.grows); none = none }
