-- Inner: what the take end of a ring of bytes sees.
use Rattle.std.specs.Prelude.{ℕ, List, take}
use Rattle.rtrb.specs.Ring.{known_items, received}
use Rattle.rtrb.specs.declared.consumer.Consumer.{Consumer}
use Rattle.byte_ring.specs.Held.{Place}

-- where a consumer of bytes stands that has this part of a record, and so many bytes for sure
abbrev pub place : {A P : Type 0} → Consumer ℕ A P → ℕ → List ℕ → Place
place c ahead held = record { popped = received c; held = held; ahead = take ahead (known_items c) }
