use Rattle.std.proofs.Common.{◌≡◌, [], false}
use Rattle.rtrb.specs.Ring.{SameConsumer}
use Rattle.byte_ring.specs.Fronts.{IsReady, part, place_of}
use Rattle.byte_ring.specs.Held.{Pulls}
use Rattle.byte_ring.specs.Reading.{items_in}
use Rattle.byte_ring.proofs.first_record.read.Given as goal

-- what was popped so far is held, and no record
abbrev pub invariant-loop-front : goal.invariant-loop-front
invariant-loop-front l = record {
  ring : SameConsumer l.initial.consumer l.consumer;
  pulls : Pulls (place_of l.initial.consumer l.initial.front) (place_of l.consumer l.front);
  ready : IsReady l.consumer l.front;
  none : items_in (part l.front) ≡ [];
  not_ready : l.front.is_ready ≡ false;
}

abbrev pub decreases-loop-front : goal.decreases-loop-front
decreases-loop-front l = l.front.ahead
