-- What looks at a ring of orders take off.
use Rattle.std.proofs.Common.{◌≡◌, List, [], ◌∷◌, ◌++◌, flat_map, append_assoc, append-nil, sym, ap, ◌∙◌}
use Rattle.std.proofs.lemmas.List.Concat.{flat_map-cons}
use Rattle.channel_ring.specs.Orders.{TakeState}
use Rattle.sampler.specs.declared.polled.Polled.{Polled}
use Rattle.sampler.specs.Control.{ArePolled, OrdersAreAnsweredInOrder, answered}

-- looks take off the orders that they answer, in order
received-polls : (a b : TakeState) (polls : List Polled) → ArePolled a polls b → b.received ≡ a.received ++ flat_map answered polls
received-polls a b [] same = same ∙ sym (append-nil a.received)
received-polls a b (p ∷ polls) (next, off, more) =
    received-polls next b polls more
    ∙ ap (λ xs. xs ++ flat_map answered polls) off
    ∙ append_assoc a.received (answered p) (flat_map answered polls)
    ∙ ap (λ xs. a.received ++ xs) (sym (flat_map-cons answered p polls))

pub orders_in_order : OrdersAreAnsweredInOrder
orders_in_order a b polls left sent fresh polled all =
    ap (λ xs. xs ++ left) (sym (received-polls a b polls polled ∙ ap (λ xs. xs ++ flat_map answered polls) fresh)) ∙ all
