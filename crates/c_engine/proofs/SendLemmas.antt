-- What a handle owns may go to another thread, where what it holds may; and so may the ends of rings
-- of either kind. For the handles of this crate and of others.
use Rattle.std.specs.Prelude.{Bool, true, false}
use Rattle.std.specs.declared.option.Option.{Option}
use mir.Raw.{raw}
use base.Shift.{Keyless}
use denote.Memory.{lone}
use denote.RattleType.{RattleType}
use denote.RawPtr.{Ptr}
use denote.Param.Send.{IsSend, sendable}
use Rattle.std.proofs.Crossing.{crosses, frees}
use Rattle.std_alloc.proofs.SendSync.{lies}
use Rattle.channel_ring.proofs.SendLemmas.{item, ring_end}
use Rattle.std.specs.contracts.alloc.Global as Global
use Rattle.std.specs.contracts.impls.GlobalAllocator.TheImpl.{ghosts as heap_ghosts}
use Rattle.rtrb.specs.contracts.AnyItems as AnyItems
use Rattle.rtrb.specs.contracts.AnyItemsProtocol.TheImpl.{ghosts as any_items}
use Rattle.rtrb.specs.contracts.finished.Finished as Finished
use Rattle.xcp_base.specs.contracts.item.Item as Item
use Rattle.byte_ring.specs.contracts.byte_take.ByteTake as ByteTake
use Rattle.channel_ring.specs.contracts.sample_ring.TakeHalf as TakeHalf
use Rattle.c_engine.specs.Owned.{owns_box, the_heap}

-- what is left of the send end of a ring of items
abbrev pub Left : RattleType
Left = Finished.the_row Item.the_row Global.the_row AnyItems.the_row heap_ghosts (any_items Item.the_row)

pub take_half : IsSend TakeHalf.the_row
take_half = search (sendable, crosses, ring_end, item) depth 60 fits 20000

pub left_send : IsSend Left
left_send = search (sendable, crosses, ring_end, item) depth 60 fits 20000

pub byte_take : IsSend ByteTake.the_row
byte_take = search (sendable, crosses, ring_end) depth 60 fits 20000

pub owned_keyless : (X : RattleType) → IsSend X → (full : Bool) (at : Ptr) (held : Option X.Denot) → Keyless (owns_box X full at held)
owned_keyless X goes true at held = λ x. (tt, (lies X goes at x, frees.frees the_heap (raw (lone X.mir)) at))
owned_keyless X goes false at held = tt
